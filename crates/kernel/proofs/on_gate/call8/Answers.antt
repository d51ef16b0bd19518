use mathlib.Core.Path.{refl}
use Rattle.kernel.specs.declared.answer.Act.TheVariants.{Delay}
use Rattle.machine.specs.Gate.{delay, may_delay}
use Rattle.machine.specs.Call.{call8}
use Rattle.kernel.proofs.Laws.{cell_made, delay-out, delay_cell_out, too_few}
use Rattle.kernel.proofs.on_gate.call8.Goals as goal

pub returns-in_err-cell : goal.returns-in_err-cell
unfolding call8
returns-in_err-cell c =
    λ m t g k. too_few t 2 _ c.from_residual.result c.from_residual.ensures.1 c.in_err-cell.ensures

pub returns : goal.returns
unfolding call8
returns c =
    λ m t g k. let few = rw t.caller at c.args.who.able.few in cell_made t may_delay delay (delay-out m few) (delay_cell_out m) k c.byte.result c.byte-2.result (Delay c.byte.result c.byte-2.result) c.in_ok-cell.ensures c.byte-2.ensures c.byte.ensures (c.make.ensures m t g) (λ n. refl) refl
