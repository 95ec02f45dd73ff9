-- The statements of specs/Demands.antt, proved.
use Rattle.std.specs.Prelude.{Option, None, Some}
use Rattle.std.proofs.Common.{◌≡◌, ℕ, zero, suc, ◌+◌, ◌*◌, ◌/◌, ◌%◌, ◌<◌, ◌≤◌, true, false, ◌&&◌, eqb, leb, List, [], ◌∷◌, ◌++◌, length, refl, ap, ◌∙◌, ap₂, suc-le-suc, arith, le-leb, leb-true}
use Rattle.std.proofs.lemmas.Grind.{common_steps}
use Rattle.clocks.proofs.Tests.{picked}
use Rattle.calls.specs.declared.Call22.TheVariants as Via
use Rattle.calls.specs.declared.Call25.TheVariants as Tpi
use Rattle.calls.specs.declared.Call32.TheVariants as Riot
use Rattle.calls.specs.declared.Call45.TheVariants as Crtc
use Rattle.replies.specs.Hex.{digit_of, hex_of}
use Rattle.digits.specs.Hex.{value_of, joined, pair_of}
use Rattle.digits.proofs.Digits.{pair_small}
use Rattle.frames.specs.Frames.{before, bytes_of, byte, clocks, Row, rows22, rows25, rows32, rows45, table, found, called, of_bytes, checked, frame_of}
use Rattle.frames.specs.Demands.{Typed, count, line_of}
use Rattle.frames.specs.Demands as Demands
use Rattle.frames.specs.declared.Frame.TheVariants.{To22, To25, To32, To45}

-- ---- the operands of a line's call

-- bytes, if there are some, each of which is below 256
Small : Option (List ℕ) → Type 0
Small None = Unit {0}
Small (Some s) = (k : ℕ) → byte k s < 256

bytes_small : (l : List ℕ) → Small (bytes_of l)
unfolding Small
bytes_small [] = λ k. omega arith
bytes_small (h ∷ []) = tt
bytes_small (h ∷ l ∷ s) = go (pair_of h l) (bytes_of s) (pair_small h l) (bytes_small s)
  where
    go : (b : Option ℕ) (o : Option (List ℕ)) → ((x : ℕ) → b ≡ Some x → x < 256) → Small o → Small (before b o)
    go None o e i = tt
    go (Some b) None e i = tt
    go (Some b) (Some s) e i = one
      where
        one : (k : ℕ) → byte k (b ∷ s) < 256
        one zero = e b refl
        one (suc k) = i k

clocks_small : (s : List ℕ) → ((k : ℕ) → byte k s < 256) → clocks s < 4294967296
clocks_small s b = omega (arith, b 0, b 1, b 2, b 3)

-- a row whose frame is typed, whatever bytes its operands are
abbrev RowTyped : Row → Type 0
RowTyped r = (s : List ℕ) → ((k : ℕ) → byte k s < 256) → Typed (Some (r.frame s))

abbrev AllTyped : List Row → Type 0
AllTyped [] = Unit {0}
AllTyped (r ∷ t) = RowTyped r × AllTyped t

all_append : (x y : List Row) → AllTyped x → AllTyped y → AllTyped (x ++ y)
all_append [] y p q = q
all_append (r ∷ x) y p q = (p.0, all_append x y p.1 q)

typed22 : AllTyped rows22
typed22 =
    (λ s b. tt, (λ s b. (b 0, b 1), (λ s b. b 0, (λ s b. (b 0, b 1, b 2), (λ s b. clocks_small s b, (λ s b. tt, tt))))))

typed25 : AllTyped rows25
typed25 = (λ s b. tt, (λ s b. (b 0, b 1), (λ s b. b 0, (λ s b. (b 0, b 1, b 2), (λ s b. clocks_small s b, tt)))))

typed32 : AllTyped rows32
typed32 = (λ s b. tt, (λ s b. (b 0, b 1), (λ s b. b 0, (λ s b. (b 0, b 1), (λ s b. clocks_small s b, (λ s b. tt, tt))))))

typed45 : AllTyped rows45
typed45 =
    (λ s b. tt, (λ s b. (b 0, b 1), (λ s b. b 0, (λ s b. b 0, (λ s b. clocks_small s b, (λ s b. clocks_small s b, tt))))))

found_typed : (t : List Row) (w : ℕ) (s : List ℕ) → ((k : ℕ) → byte k s < 256) → AllTyped t → Typed (found t w s)
found_typed [] w s b e = tt
found_typed (r ∷ t) w s b e =
    picked Typed (eqb w r.word && eqb (length s) r.operands) (e.0 s b) (found_typed t w s b e.1)

called_typed : (w : ℕ) (s : List ℕ) → ((k : ℕ) → byte k s < 256) → Typed (called w s)
unfolding called
called_typed w s b =
    found_typed table w s b (all_append rows22 (rows25 ++ (rows32 ++ rows45)) typed22
    (all_append rows25 (rows32 ++ rows45) typed25 (all_append rows32 rows45 typed32 typed45)))

typed_bytes : (s : List ℕ) → ((k : ℕ) → byte k s < 256) → Typed (of_bytes s)
typed_bytes [] e = tt
typed_bytes (chip ∷ []) e = tt
typed_bytes (chip ∷ op ∷ s) e = called_typed (chip * 256 + op) s (λ k. e (suc (suc k)))

typed_checked : (o : Option (List ℕ)) → Small o → Typed (checked o)
unfolding checked Small
typed_checked None e = tt
typed_checked (Some s) e = typed_bytes s e

pub frames_typed : Demands.FramesTyped
unfolding frame_of
frames_typed l = picked Typed (leb (length l) 32) (typed_checked (bytes_of l) (bytes_small l)) tt

-- ---- the line of a call's bytes

value_digit : (n : ℕ) → n < 16 → value_of (digit_of n) ≡ Some n
value_digit n h = grind (arith, common_steps)

pair_back : (b : ℕ) → b < 256 → pair_of (digit_of (b / 16)) (digit_of (b % 16)) ≡ Some b
unfolding pair_of
pair_back b h =
    ap₂ (λ (x y : Option ℕ). joined 16 x y) (value_digit (b / 16) (omega arith)) (value_digit (b % 16) (omega arith)) ∙ ap (λ (n : ℕ). Some n) (omega arith)

-- operands that are bytes
data Bytes : List ℕ → Type 0 where
  no_more : Bytes []
  a_byte : {b : ℕ} {s : List ℕ} → b ≤ 255 → Bytes s → Bytes (b ∷ s)

bytes_back : {s : List ℕ} → Bytes s → bytes_of (line_of s) ≡ Some s
unfolding hex_of
bytes_back no_more = refl
bytes_back (a_byte {b} {s} h r) = rw (pair_back b (suc-le-suc h), bytes_back r)

line_length : (s : List ℕ) → length (line_of s) ≡ 2 * length s
unfolding hex_of
line_length [] = refl
line_length (b ∷ s) = let i = line_length s in omega arith

said : {s : List ℕ} → Bytes s → leb (length s) 16 ≡ true → frame_of (line_of s) ≡ of_bytes s
unfolding frame_of checked
said {s} r h =
    let u : length (line_of s) ≤ 32 = omega (arith, line_length s, leb-true (length s) 16 h) in
    rw (le-leb (length (line_of s)) 32 u, bytes_back r)

count_bytes : (n : ℕ) → Bytes (count n)
count_bytes n =
    let a : n / 16777216 % 256 ≤ 255 = omega arith in
    let b : n / 65536 % 256 ≤ 255 = omega arith in
    let c : n / 256 % 256 ≤ 255 = omega arith in
    let d : n % 256 ≤ 255 = omega arith in
    a_byte a (a_byte b (a_byte c (a_byte d no_more)))

count_back : (n : ℕ) → n < 4294967296 → clocks (count n) ≡ n
count_back n h =
    let a : n / 16777216 % 256 * 256 + n / 65536 % 256 ≡ n / 65536 = omega arith in
    let b : n / 65536 * 256 + n / 256 % 256 ≡ n / 256 = omega arith in
    let c : n / 256 * 256 + n % 256 ≡ n = omega arith in
    rw (a, b, c)

below : {b : ℕ} {s : List ℕ} → b < 256 → Bytes s → Bytes (b ∷ s)
below {b} h r = let k : b ≤ 255 = omega arith in a_byte k r

-- a chip's byte, an operation's, and operands
asked_for :
    (chip op : ℕ) {s : List ℕ} → Bytes s → leb chip 255 ≡ true → leb op 255 ≡ true → leb (length (chip ∷ op ∷ s)) 16 ≡ true
    → frame_of (line_of (chip ∷ op ∷ s)) ≡ of_bytes (chip ∷ op ∷ s)
asked_for chip op r c o h = said (a_byte (leb-true chip 255 c) (a_byte (leb-true op 255 o) r)) h

pub frames_said : Demands.FramesSaid
unfolding called
frames_said None t = said no_more refl
frames_said (Some (To22 Via.Reset)) t = asked_for 0x22 0x01 no_more refl refl refl
frames_said (Some (To22 (Via.Write r x))) t = asked_for 0x22 0x02 (below t.0 (below t.1 no_more)) refl refl refl
frames_said (Some (To22 (Via.Read r))) t = asked_for 0x22 0x03 (below t no_more) refl refl refl
frames_said (Some (To22 (Via.Pins pa pb control))) t = asked_for 0x22 0x04 (below t.0 (below t.1 (below t.2 no_more))) refl refl refl
frames_said (Some (To22 (Via.Run n))) t = asked_for 0x22 0x05 (count_bytes n) refl refl refl ∙ ap (λ (k : ℕ). Some (To22 (Via.Run k))) (count_back n t)
frames_said (Some (To22 Via.Forecast)) t = asked_for 0x22 0x06 no_more refl refl refl
frames_said (Some (To25 Tpi.Reset)) t = asked_for 0x25 0x01 no_more refl refl refl
frames_said (Some (To25 (Tpi.Write r x))) t = asked_for 0x25 0x02 (below t.0 (below t.1 no_more)) refl refl refl
frames_said (Some (To25 (Tpi.Read r))) t = asked_for 0x25 0x03 (below t no_more) refl refl refl
frames_said (Some (To25 (Tpi.Pins pa pb pc))) t = asked_for 0x25 0x04 (below t.0 (below t.1 (below t.2 no_more))) refl refl refl
frames_said (Some (To25 (Tpi.Run n))) t = asked_for 0x25 0x05 (count_bytes n) refl refl refl ∙ ap (λ (k : ℕ). Some (To25 (Tpi.Run k))) (count_back n t)
frames_said (Some (To32 Riot.Reset)) t = asked_for 0x32 0x01 no_more refl refl refl
frames_said (Some (To32 (Riot.Write a x))) t = asked_for 0x32 0x02 (below t.0 (below t.1 no_more)) refl refl refl
frames_said (Some (To32 (Riot.Read a))) t = asked_for 0x32 0x03 (below t no_more) refl refl refl
frames_said (Some (To32 (Riot.Pins pa pb))) t = asked_for 0x32 0x04 (below t.0 (below t.1 no_more)) refl refl refl
frames_said (Some (To32 (Riot.Run n))) t = asked_for 0x32 0x05 (count_bytes n) refl refl refl ∙ ap (λ (k : ℕ). Some (To32 (Riot.Run k))) (count_back n t)
frames_said (Some (To32 Riot.Forecast)) t = asked_for 0x32 0x06 no_more refl refl refl
frames_said (Some (To45 Crtc.Reset)) t = asked_for 0x45 0x01 no_more refl refl refl
frames_said (Some (To45 (Crtc.Write a x))) t = asked_for 0x45 0x02 (below t.0 (below t.1 no_more)) refl refl refl
frames_said (Some (To45 (Crtc.Read a))) t = asked_for 0x45 0x03 (below t no_more) refl refl refl
frames_said (Some (To45 (Crtc.Pins pen))) t = asked_for 0x45 0x04 (below t no_more) refl refl refl
frames_said (Some (To45 (Crtc.Run n false))) t = asked_for 0x45 0x05 (count_bytes n) refl refl refl ∙ ap (λ (k : ℕ). Some (To45 (Crtc.Run k false))) (count_back n t)
frames_said (Some (To45 (Crtc.Run n true))) t = asked_for 0x45 0x07 (count_bytes n) refl refl refl ∙ ap (λ (k : ℕ). Some (To45 (Crtc.Run k true))) (count_back n t)
