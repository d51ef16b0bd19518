use mathlib.Core.Path.{refl}
use Rattle.kernel.specs.declared.answer.Act.TheVariants.{Continue}
use Rattle.machine.specs.Gate.{continue, may_continue}
use Rattle.machine.specs.Call.{call9}
use Rattle.kernel.proofs.Laws.{cell_made, continue-out, continue_cell_out, too_few}
use Rattle.kernel.proofs.on_gate.call9.Goals as goal

pub returns-in_err-cell : goal.returns-in_err-cell
unfolding call9
returns-in_err-cell c =
    λ m t g k. too_few t 2 _ c.from_residual.result c.from_residual.ensures.1 c.in_err-cell.ensures

pub returns : goal.returns
unfolding call9
returns c =
    λ m t g k. let few = rw t.caller at c.args.who.able.few in cell_made t may_continue continue (continue-out m few) (continue_cell_out m) k c.byte.result c.byte-2.result (Continue c.byte.result c.byte-2.result) c.in_ok-cell.ensures c.byte-2.ensures c.byte.ensures (c.make.ensures m t g) (λ n. refl) refl
