use mathlib.Core.Path.{ap, ◌∙◌}
use Rattle.run.specs.Said.{world, outcome}
use Rattle.run.proofs.Course.{one-offer}
use Rattle.run.proofs.doors.step.Goals as goal

-- src/doors.rt:109:1
pub returns : goal.returns
returns c = c.run.ensures ∙ ap (outcome (world c.args.m c.args.common.now c.args.private.now)) (one-offer c.args.code.now (world c.args.m c.args.common.now c.args.private.now))
