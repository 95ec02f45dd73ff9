-- The frame that a line is.
use Rattle.std.specs.Prelude.{ℕ, ◌+◌, ◌*◌, true, false, ◌&&◌, List, [], ◌∷◌, ◌++◌, length, ◌==◌, nat_le, slice_index, Option, None, Some, if◌then◌else◌}
use Rattle.calls.specs.declared.Call22.TheVariants as Via
use Rattle.calls.specs.declared.Call25.TheVariants as Tpi
use Rattle.calls.specs.declared.Call32.TheVariants as Riot
use Rattle.calls.specs.declared.Call45.TheVariants as Crtc
use Rattle.digits.specs.Hex.{pair_of}
use Rattle.frames.specs.declared.Frame.{Frame}
use Rattle.frames.specs.declared.Frame.TheVariants.{To22, To25, To32, To45}

-- a byte, if it is one, before bytes, if they are
abbrev pub before : Option ℕ → Option (List ℕ) → Option (List ℕ)
before None s = None
before (Some b) None = None
before (Some b) (Some s) = Some (b ∷ s)

-- a line read two characters at a time; none where a pair is no byte or a character is left over
abbrev pub bytes_of : List ℕ → Option (List ℕ)
bytes_of [] = Some []
bytes_of (h ∷ []) = None
bytes_of (h ∷ l ∷ s) = before (pair_of h l) (bytes_of s)

-- operand k, counted from 0, and the four-byte count of clocks, the highest byte first
abbrev pub byte : ℕ → List ℕ → ℕ
byte k s = slice_index s k

abbrev pub clocks : List ℕ → ℕ
clocks s = ((byte 0 s * 256 + byte 1 s) * 256 + byte 2 s) * 256 + byte 3 s

-- an operation: its chip's byte and its own as one word, how many operands it has, and the frame that it is with them
pub record Row : Type 0 where
  pub word : ℕ
  pub operands : ℕ
  pub frame : List ℕ → Frame

abbrev pub row : ℕ → ℕ → (List ℕ → Frame) → Row
row w n f = record { word = w; operands = n; frame = f }

-- the operations of each chip
abbrev pub rows22 : List Row
rows22 =
    row 0x2201 0 (λ s. To22 Via.Reset)
    ∷ row 0x2202 2 (λ s. To22 (Via.Write (byte 0 s) (byte 1 s)))
    ∷ row 0x2203 1 (λ s. To22 (Via.Read (byte 0 s)))
    ∷ row 0x2204 3 (λ s. To22 (Via.Pins (byte 0 s) (byte 1 s) (byte 2 s)))
    ∷ row 0x2205 4 (λ s. To22 (Via.Run (clocks s)))
    ∷ row 0x2206 0 (λ s. To22 Via.Forecast)
    ∷ []

abbrev pub rows25 : List Row
rows25 =
    row 0x2501 0 (λ s. To25 Tpi.Reset)
    ∷ row 0x2502 2 (λ s. To25 (Tpi.Write (byte 0 s) (byte 1 s)))
    ∷ row 0x2503 1 (λ s. To25 (Tpi.Read (byte 0 s)))
    ∷ row 0x2504 3 (λ s. To25 (Tpi.Pins (byte 0 s) (byte 1 s) (byte 2 s)))
    ∷ row 0x2505 4 (λ s. To25 (Tpi.Run (clocks s)))
    ∷ []

abbrev pub rows32 : List Row
rows32 =
    row 0x3201 0 (λ s. To32 Riot.Reset)
    ∷ row 0x3202 2 (λ s. To32 (Riot.Write (byte 0 s) (byte 1 s)))
    ∷ row 0x3203 1 (λ s. To32 (Riot.Read (byte 0 s)))
    ∷ row 0x3204 2 (λ s. To32 (Riot.Pins (byte 0 s) (byte 1 s)))
    ∷ row 0x3205 4 (λ s. To32 (Riot.Run (clocks s)))
    ∷ row 0x3206 0 (λ s. To32 Riot.Forecast)
    ∷ []

abbrev pub rows45 : List Row
rows45 =
    row 0x4501 0 (λ s. To45 Crtc.Reset)
    ∷ row 0x4502 2 (λ s. To45 (Crtc.Write (byte 0 s) (byte 1 s)))
    ∷ row 0x4503 1 (λ s. To45 (Crtc.Read (byte 0 s)))
    ∷ row 0x4504 1 (λ s. To45 (Crtc.Pins (byte 0 s)))
    ∷ row 0x4505 4 (λ s. To45 (Crtc.Run (clocks s) false))
    ∷ row 0x4507 4 (λ s. To45 (Crtc.Run (clocks s) true))
    ∷ []

abbrev pub table : List Row
table = rows22 ++ (rows25 ++ (rows32 ++ rows45))

-- the frame of a word and some operands: that of the row with this word, if it has as many operands
abbrev pub found : List Row → ℕ → List ℕ → Option Frame
found [] w s = None
found (r ∷ t) w s = if w == r.word && length s == r.operands then Some (r.frame s) else found t w s

unfoldable pub called : ℕ → List ℕ → Option Frame
called w s = found table w s

-- the same of operands that may be no bytes, and of their characters
abbrev pub called_with : ℕ → Option (List ℕ) → Option Frame
called_with w None = None
called_with w (Some s) = called w s

unfoldable pub asked : ℕ → List ℕ → Option Frame
asked w l = called_with w (bytes_of l)

-- the chip's byte, the operation's, and the operands
abbrev pub of_bytes : List ℕ → Option Frame
of_bytes [] = None
of_bytes (chip ∷ []) = None
of_bytes (chip ∷ op ∷ s) = called (chip * 256 + op) s

unfoldable pub checked : Option (List ℕ) → Option Frame
checked None = None
checked (Some s) = of_bytes s

-- a line of more than 32 characters is no frame, whatever is in it
unfoldable pub frame_of : List ℕ → Option Frame
frame_of l = if nat_le (length l) 32 then checked (bytes_of l) else None
