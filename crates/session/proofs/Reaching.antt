-- Whatever lines come, each chip of the bench stays a reached one; and which number a reply has.
use Rattle.std.specs.Prelude.{Option, None, Some}
use mathlib.Core.Path.{◌≡◌, refl, sym, ap, ◌∙◌}
use mathlib.Core.Bool.{true≢false}
use mathlib.Core.List.{List, [], ◌∷◌}
use Prim.Native.Nat.{ℕ}
use Rattle.frames.specs.Frames.{frame_of}
use Rattle.frames.specs.Demands as Frames
use Rattle.frames.specs.declared.Frame.{Frame}
use Rattle.frames.specs.declared.Frame.TheVariants.{To22, To25, To32, To45}
use Rattle.frames.proofs.Demands.{frames_typed}
use Rattle.replies.specs.declared.Reply.{Reply}
use Rattle.replies.specs.declared.Reply.TheVariants.{Refused, RefusedAs, Done, Data, Read, Number}
use Rattle.calls.specs.declared.Refusal.{Refusal}
use Rattle.calls.specs.declared.Refusal.TheVariants.{IllFormed, NoFrame}
use Rattle.chips.specs.Chips as Chips
use Rattle.chips.specs.Chips.{Chip, answer, at_power_up, by}
use Rattle.chips.proofs.Chips.{Lawful, reached_well, answers}
use Rattle.via6522.specs.Chip as Chip22
use Rattle.via6522.proofs.Lawful as Lawful22
use Rattle.tpi6525.specs.Chip as Chip25
use Rattle.tpi6525.proofs.Lawful as Lawful25
use Rattle.riot6532.specs.Chip as Chip32
use Rattle.riot6532.proofs.Lawful as Lawful32
use Rattle.crtc6545.specs.Chip as Chip45
use Rattle.crtc6545.proofs.Lawful as Lawful45
use Rattle.calling.specs.Told.{Kind, nothing, a_byte, a_byte_and_mask, a_forecast, turns, told, replied, kind22, kind25, kind32, kind45}
use Rattle.session.specs.Steps.{power_up, step_of}
use Rattle.session.specs.Sessions.{next_of, next_all}
use Rattle.session.specs.Demands
use Rattle.session.specs.declared.Bench.{Bench}

record Reached (b : Bench) : Type 0 where
  via : Chips.Reached Chip22.chip b.via
  tpi : Chips.Reached Chip25.chip b.tpi
  riot : Chips.Reached Chip32.chip b.riot
  crtc : Chips.Reached Chip45.chip b.crtc

-- the chip that is called is one call further, and the others are as they were
reached_step : (b : Bench) (f : Option Frame) → Frames.Typed f → Reached b → Reached (step_of b f).bench
unfolding step_of
reached_step b None t r = r
reached_step b (Some (To22 c)) t r = search (by c t r.via)
reached_step b (Some (To25 c)) t r = search (by c t r.tpi)
reached_step b (Some (To32 c)) t r = search (by c t r.riot)
reached_step b (Some (To45 c)) t r = search (by c t r.crtc)

reached_all : (b : Bench) (ls : List (List ℕ)) → Reached b → Reached (next_all b ls)
unfolding next_of
reached_all b [] r = r
reached_all b (l ∷ ls) r = reached_all (next_of b l) ls (reached_step b (frame_of l) (frames_typed l) r)

reached : (ls : List (List ℕ)) → Reached (next_all power_up ls)
unfolding power_up
reached ls = reached_all power_up ls (record { via = at_power_up; tpi = at_power_up; riot = at_power_up; crtc = at_power_up })

pub chips_reached : Demands.ChipsReached
chips_reached ls = let r = reached ls in (r.via, r.tpi, r.riot, r.crtc)

-- ---- the refusal that a reply says

refusal : Reply → Option Refusal
refusal (Refused r) = Some r
refusal (RefusedAs n) = None
refusal (Done l) = None
refusal (Data l x) = None
refusal (Read l x m) = None
refusal (Number l n) = None

refusal_replied : (n : Option Refusal) (k : Kind) (l d x : ℕ) → refusal (replied n (told k l d x)) ≡ n
unfolding refusal
refusal_replied (Some r) k l d x = refl
refusal_replied None nothing l d x = refl
refusal_replied None a_byte l d x = refl
refusal_replied None (a_byte_and_mask m) l d x = refl
refusal_replied None a_forecast l d x = refl
refusal_replied None (turns t) l d x = refl

-- where a reply's refusal is from: NoFrame is for what is no frame, and any other is the answer's of some chip, whose record is reached if
-- those of the bench are
data Says (b : Bench) : Option Frame → Option Refusal → Type 1 where
  of_none : Says b None (Some NoFrame)
  of_chip :
      {f : Option Frame} (C : Chip) (S : Lawful C) (c : C.Call) (v : C.State) → (Reached b → Chips.Reached C v)
      → Says b f (C.refusal (answer C c v))

says : (b : Bench) (f : Option Frame) → Says b f (refusal (step_of b f).reply)
unfolding step_of refusal
says b None = of_none
says b (Some (To22 c)) = rw (refusal_replied _ (kind22 c b.via) _ _ _) (of_chip Chip22.chip Lawful22.lawful c b.via (λ r. r.via))
says b (Some (To25 c)) = rw (refusal_replied _ (kind25 c b.tpi) _ _ _) (of_chip Chip25.chip Lawful25.lawful c b.tpi (λ r. r.tpi))
says b (Some (To32 c)) = rw (refusal_replied _ (kind32 c b.riot) _ _ _) (of_chip Chip32.chip Lawful32.lawful c b.riot (λ r. r.riot))
says b (Some (To45 c)) = rw (refusal_replied _ (kind45 c b.crtc) _ _ _) (of_chip Chip45.chip Lawful45.lawful c b.crtc (λ r. r.crtc))

-- a reached chip refuses no call as ill-formed, and no chip any as no frame
not_1 : {b : Bench} {f : Option Frame} {n : Option Refusal} → Says b f n → Reached b → n ≡ Some IllFormed → ⊥
not_1 of_none r e = cc
not_1 (of_chip C S c v h) r e = true≢false (sym (reached_well C S v (h r)) ∙ (answers C S).one_only_ill c v e)

only_2 : {b : Bench} {f : Option Frame} {n : Option Refusal} → Says b f n → n ≡ Some NoFrame → f ≡ None
only_2 of_none e = refl
only_2 (of_chip C S c v h) e = absurd ((answers C S).never_2 c v e)

pub never_1 : Demands.Never1
unfolding refusal
never_1 ls l e = not_1 (says (next_all power_up ls) (frame_of l)) (reached ls) (ap refusal e)

pub two_exact : Demands.TwoExact
unfolding step_of refusal
two_exact b l = (λ e. only_2 (says b (frame_of l)) (ap refusal e), λ e. ap (λ (f : Option Frame). (step_of b f).reply) e)
