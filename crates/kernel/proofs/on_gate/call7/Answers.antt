use mathlib.Core.Path.{refl}
use Rattle.kernel.specs.declared.answer.Act.TheVariants.{Leave}
use Rattle.machine.specs.Gate.{leave, may_leave}
use Rattle.machine.specs.Call.{call7}
use Rattle.kernel.proofs.Laws.{leave-out, gate_made, too_few}
use Rattle.kernel.proofs.on_gate.call7.Goals as goal

pub returns-in_err-gate : goal.returns-in_err-gate
unfolding call7
returns-in_err-gate c =
    λ m t g k. too_few t 1 _ c.from_residual.result c.from_residual.ensures.1 c.in_err-gate.ensures

pub returns : goal.returns
unfolding call7
returns c =
    λ m t g k. let few = rw t.caller at c.args.who.able.few in gate_made t may_leave leave (leave-out m few) k c.byte.result (Leave c.byte.result) c.in_ok-gate.ensures c.byte.ensures (c.make.ensures m t g) (λ n. refl) refl
