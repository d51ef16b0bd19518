use mathlib.Core.Path.{◌∙◌}
use Rattle.kernel.specs.declared.answer.Act.TheVariants.{Go}
use Rattle.machine.specs.Call.{call1}
use Rattle.kernel.proofs.Laws.{full, goes_at, push_passed, roomy}
use Rattle.kernel.proofs.small.call1.Goals as goal

pub returns-in_err-s : goal.returns-in_err-s
unfolding call1
returns-in_err-s c =
    λ m t k. let e = c.in_err-s.ensures in rw e.2 (full t _ c.from_residual.result c.from_residual.ensures.1 e.0 e.1)

pub returns : goal.returns
unfolding call1
returns c =
    λ m t k. let e = c.in_ok-s.ensures in rw c.goes.ensures (goes_at t k _ c.in_ok-s.s Go ∙ push_passed t k c.args.private.now _ c.in_ok-s.s _ e.2 ∙ rw (roomy t e.0, e.1, t.caller))
