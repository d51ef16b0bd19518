-- The tests are the definition's in its order, and where `perform` faults the stores are as before, so that `settle` settles it on them.
use mathlib.Core.Path.{sym, ◌∙◌}
use native.Mathlib.Omega.{arith}
use Rattle.engine.proofs.Steps.{settles, past-code, stopped, performed}
use Rattle.engine.proofs.perform.instruct.Goals as goal

pub returns-then-v-at : goal.returns-then-v-at
returns-then-v-at c = c.settle.ensures _ ∙ past-code _ (omega arith)

pub returns-then-takes_stop : goal.returns-then-takes_stop
returns-then-takes_stop c =
    let taken = rw c.from-at.ensures at (sym c.takes_stop.ensures ∙ c.if-takes_stop.true) in
    c.went.ensures _ _ ∙ c.end_job.ensures c.args.common.now ∙ stopped _ (omega arith) taken

pub returns : goal.returns
returns c = c.settle-2.ensures c.perform-out.new.common ∙ settles _ _ c.perform-out.result _ _ c.perform-out.ensures ∙ rw c.from-at.ensures (performed _ (omega arith) (rw c.from-at.ensures at (sym c.takes_stop.ensures ∙ c.if-takes_stop.false)))
