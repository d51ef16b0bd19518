use Rattle.run.proofs.Chain as L
use Rattle.run.proofs.Shape as S
use Rattle.run.specs.Ran.{ran}
use Rattle.run.proofs.doors.run.Goals as goal

pub returns-in-Err : goal.returns-in-Err
returns-in-Err c = rw c.refused.ensures (L.run-refuses c.args.code.now c.args.m c.args.common.now c.args.private.now c.check_run.result c.check_run.ensures _ c.in-Err.is c.args.budget)

pub turns-x-requires : goal.turns-x-requires
turns-x-requires c = L.run-accepted c.args.code.now c.args.m c.args.common.now c.args.private.now c.check_run.result c.check_run.ensures c.in_default.is (S.shaped _ _ c.well_formed.0)

pub returns : goal.returns
returns c = L.run-takes c.args.code.now c.args.m c.args.common.now c.args.private.now c.check_run.result c.check_run.ensures c.in_default.is c.args.budget (ran c.turns-x.result _ _) c.turns-x.ensures
