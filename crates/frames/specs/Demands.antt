-- What the demands ask of frames. proofs/Demands.antt has a proof of each statement, under its name in small letters.
use Rattle.std.specs.Prelude.{◌≡◌, ℕ, ◌/◌, ◌%◌, List, [], ◌∷◌, ◌++◌, Option, None, Some, if◌then◌else◌}
use Rattle.calls.specs.Calls.{Typed22, Typed25, Typed32, Typed45}
use Rattle.calls.specs.declared.Call22.{Call22}
use Rattle.calls.specs.declared.Call22.TheVariants as Via
use Rattle.calls.specs.declared.Call25.{Call25}
use Rattle.calls.specs.declared.Call25.TheVariants as Tpi
use Rattle.calls.specs.declared.Call32.{Call32}
use Rattle.calls.specs.declared.Call32.TheVariants as Riot
use Rattle.calls.specs.declared.Call45.{Call45}
use Rattle.calls.specs.declared.Call45.TheVariants as Crtc
use Rattle.replies.specs.Hex.{hex_of}
use Rattle.frames.specs.Frames.{frame_of}
use Rattle.frames.specs.declared.Frame.{Frame}
use Rattle.frames.specs.declared.Frame.TheVariants.{To22, To25, To32, To45}

-- a frame, if there is one, whose operands are values of their types
abbrev pub Typed : Option Frame → Type 0
Typed None = Unit {0}
Typed (Some (To22 c)) = Typed22 c
Typed (Some (To25 c)) = Typed25 c
Typed (Some (To32 c)) = Typed32 c
Typed (Some (To45 c)) = Typed45 c

-- whatever a line holds, the operands of its call are in their ranges
abbrev pub FramesTyped : Type 0
FramesTyped = (l : List ℕ) → Typed (frame_of l)

-- the bytes that a call is asked for by
abbrev pub count : ℕ → List ℕ
count n = n / 16777216 % 256 ∷ n / 65536 % 256 ∷ n / 256 % 256 ∷ n % 256 ∷ []

abbrev pub bytes22 : Call22 → List ℕ
bytes22 Via.Reset = 0x22 ∷ 0x01 ∷ []
bytes22 (Via.Write r x) = 0x22 ∷ 0x02 ∷ r ∷ x ∷ []
bytes22 (Via.Read r) = 0x22 ∷ 0x03 ∷ r ∷ []
bytes22 (Via.Pins pa pb control) = 0x22 ∷ 0x04 ∷ pa ∷ pb ∷ control ∷ []
bytes22 (Via.Run n) = 0x22 ∷ 0x05 ∷ count n
bytes22 Via.Forecast = 0x22 ∷ 0x06 ∷ []

abbrev pub bytes25 : Call25 → List ℕ
bytes25 Tpi.Reset = 0x25 ∷ 0x01 ∷ []
bytes25 (Tpi.Write r x) = 0x25 ∷ 0x02 ∷ r ∷ x ∷ []
bytes25 (Tpi.Read r) = 0x25 ∷ 0x03 ∷ r ∷ []
bytes25 (Tpi.Pins pa pb pc) = 0x25 ∷ 0x04 ∷ pa ∷ pb ∷ pc ∷ []
bytes25 (Tpi.Run n) = 0x25 ∷ 0x05 ∷ count n

abbrev pub bytes32 : Call32 → List ℕ
bytes32 Riot.Reset = 0x32 ∷ 0x01 ∷ []
bytes32 (Riot.Write a x) = 0x32 ∷ 0x02 ∷ a ∷ x ∷ []
bytes32 (Riot.Read a) = 0x32 ∷ 0x03 ∷ a ∷ []
bytes32 (Riot.Pins pa pb) = 0x32 ∷ 0x04 ∷ pa ∷ pb ∷ []
bytes32 (Riot.Run n) = 0x32 ∷ 0x05 ∷ count n
bytes32 Riot.Forecast = 0x32 ∷ 0x06 ∷ []

abbrev pub bytes45 : Call45 → List ℕ
bytes45 Crtc.Reset = 0x45 ∷ 0x01 ∷ []
bytes45 (Crtc.Write a x) = 0x45 ∷ 0x02 ∷ a ∷ x ∷ []
bytes45 (Crtc.Read a) = 0x45 ∷ 0x03 ∷ a ∷ []
bytes45 (Crtc.Pins pen) = 0x45 ∷ 0x04 ∷ pen ∷ []
bytes45 (Crtc.Run n counted) = 0x45 ∷ (if counted then 0x07 else 0x05) ∷ count n

-- none for no frame
abbrev pub frame_bytes : Option Frame → List ℕ
frame_bytes None = []
frame_bytes (Some (To22 c)) = bytes22 c
frame_bytes (Some (To25 c)) = bytes25 c
frame_bytes (Some (To32 c)) = bytes32 c
frame_bytes (Some (To45 c)) = bytes45 c

-- the line of some bytes, in the digits of the replies
abbrev pub line_of : List ℕ → List ℕ
line_of [] = []
line_of (b ∷ s) = hex_of b ++ line_of s

-- every call can be asked for: the line of its bytes is that call; an empty line is none
abbrev pub FramesSaid : Type 0
FramesSaid = (f : Option Frame) → Typed f → frame_of (line_of (frame_bytes f)) ≡ f
