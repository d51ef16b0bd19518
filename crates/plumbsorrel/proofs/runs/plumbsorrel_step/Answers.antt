-- An offered step is a run of one instruction.
use Rattle.layout.specs.Layout.{unpacked}
use Rattle.plumbsorrel.specs.Offers.{c_step, c_run}
use Rattle.run.proofs.Course.{one-offer}
use Rattle.run.specs.Said.{world}
use Rattle.plumbsorrel.proofs.runs.plumbsorrel_step.Goals as goal

pub returns : goal.returns
unfolding c_step c_run
returns c = rw (← one-offer c.args.code.now (world (unpacked c.args.state.now) c.args.common.now c.args.private.now)) c.plumbsorrel_run.ensures
