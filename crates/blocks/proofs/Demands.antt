-- The proofs of the statements of specs/Demands.antt.
use Rattle.blocks.specs.Blocks.{itself}
use Rattle.blocks.specs.Demands.{WrittenAsMeant, MatchesAsMeant, MatchedExact, MarksGone, AcceptedExact, ByPlaces, PlainStays}
use Rattle.blocks.proofs.Judged.{accepted_all, accepted_by}
use Rattle.blocks.proofs.Scripts as Scripts
use Rattle.blocks.proofs.Meant as Meant
use Rattle.blocks.proofs.Texts.{written_at, refusal_at}

pub written_as_meant : WrittenAsMeant
written_as_meant = Scripts.written_as_meant

pub matches_as_meant : MatchesAsMeant
matches_as_meant = Scripts.matches_as_meant

pub matched_exact : MatchedExact
matched_exact ls = (Meant.is_meant ls, λ m. rw (← m.3) (Scripts.matches_as_meant m.0 m.1 m.2))

pub marks_gone : MarksGone
marks_gone = Meant.marks_gone

pub accepted_exact : AcceptedExact
accepted_exact n ls = (accepted_all itself n ls, λ a. accepted_by itself n ls a.0 a.1 a.2)

pub by_places : ByPlaces
by_places s ps = (written_at s ps, λ n. refusal_at s n ps)

pub plain_stays : PlainStays
plain_stays = Scripts.plain_stays
