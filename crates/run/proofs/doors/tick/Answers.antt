use Rattle.run.proofs.Chain as L
use Rattle.machine.specs.Offer.{offer_tick}
use Rattle.run.proofs.doors.tick.Goals as goal

pub returns-in-Err : goal.returns-in-Err
unfolding offer_tick
returns-in-Err c = λ κ q. rw c.refused.ensures (L.refuses c.check_machine.result _ c.check_machine.ensures (L.state_names_none c.args.m) _ _ _ c.in-Err.is)

pub returns : goal.returns
unfolding offer_tick
returns c = λ κ q. rw (c.event.ensures, c.tick.ensures) (L.happens c.check_machine.result _ c.check_machine.ensures _ _ c.in_default.is)
