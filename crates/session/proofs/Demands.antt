-- The statements of specs/Demands.antt, proved.
use Rattle.session.specs.Demands
use Rattle.session.proofs.Cuts as Cuts
use Rattle.session.proofs.Ones as Ones
use Rattle.session.proofs.Piecing as Piecing
use Rattle.session.proofs.Taking as Taking
use Rattle.session.proofs.Reaching as Reaching
use Rattle.session.proofs.Answering as Answering

pub any_cut : Demands.AnyCut
any_cut = Cuts.any_cut

pub taking_goes_on : Demands.TakingGoesOn
taking_goes_on = Taking.taking_goes_on

pub makes_progress : Demands.MakesProgress
makes_progress = Taking.makes_progress

pub room_for_all : Demands.RoomForAll
room_for_all = Taking.room_for_all

pub feed_and_keep : Demands.FeedAndKeep
feed_and_keep = Piecing.feed_and_keep

pub chips_reached : Demands.ChipsReached
chips_reached = Reaching.chips_reached

pub never_1 : Demands.Never1
never_1 = Reaching.never_1

pub two_exact : Demands.TwoExact
two_exact = Reaching.two_exact

pub line_for_line : Demands.LineForLine
line_for_line = Answering.line_for_line

pub feeds_one : Demands.FeedsOne
feeds_one = Ones.feeds_one

pub finishes_one : Demands.FinishesOne
finishes_one = Ones.finishes_one

pub plays_one : Demands.PlaysOne
plays_one = Ones.plays_one
