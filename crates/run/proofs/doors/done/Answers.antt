use Rattle.run.proofs.Chain as L
use mathlib.Core.Bool.{not, ◌&&◌}
use lib.Dec.{eqb}
use lib.ListN.{length}
use native.Mathlib.Omega.{arith}
use Rattle.machine.specs.Offer.{offer_done}
use Rattle.run.proofs.doors.done.Goals as goal

pub returns-in-Err : goal.returns-in-Err
unfolding offer_done
returns-in-Err c = rw c.refused.ensures (L.refuses c.check_event.result _ c.check_event.ensures (L.event_names_none (not (eqb (length c.args.common.now) 2048 && eqb (length c.args.private.now) 20480)) c.args.m c.args.d c.args.status) _ _ _ c.in-Err.is)

pub overflow_cast-d : goal.overflow_cast-d
overflow_cast-d c = let v = L.event_passed c.check_event.result c.args.m c.args.d c.args.status c.args.common.now c.args.private.now c.check_event.ensures c.in_default.is in omega (arith, v.device)

pub returns : goal.returns
returns c = rw c.event.ensures (L.event_taken c.check_event.result c.args.m c.args.d c.args.status c.args.common.now c.args.private.now c.check_event.ensures c.in_default.is c.args.arg _ _ _ c.device_done.ensures)
