use mathlib.Core.Path.{◌∙◌, sym}
use Rattle.word.specs.declared.Fault.TheVariants.{Pointer, Range}
use Rattle.machine.specs.Call.{call11}
use Rattle.kernel.proofs.Laws.{stops_at, too_few}
use Rattle.kernel.proofs.Records.{apart, begun, unknown}
use Rattle.kernel.proofs.io.call11.Goals as goal

pub returns-in_err-a : goal.returns-in_err-a
unfolding call11
returns-in_err-a c =
    λ m t. too_few t 2 _ c.from_residual.result c.from_residual.ensures.1 c.in_err-a.ensures

pub returns-then-not-is_whole : goal.returns-then-not-is_whole
returns-then-not-is_whole c =
    λ m t. stops_at t Pointer (apart t c.args.common.now c.in_ok-a.ensures (sym c.is_whole.ensures ∙ c.if-not-is_whole.true))

pub returns-then-d-gt4 : goal.returns-then-d-gt4
returns-then-d-gt4 c =
    λ m t. stops_at t Range (unknown t c.args.common.now c.in_ok-a.ensures c.fetch-operation.result (sym c.is_whole.ensures ∙ c.if-not-is_whole.false) c.fetch-operation.ensures c.then-d-gt4.either)

pub returns : goal.returns
returns c =
    λ m t. rw (begun t c.args.common.now c.in_ok-a.ensures c.fetch-operation.result (sym c.is_whole.ensures ∙ c.if-not-is_whole.false) c.fetch-operation.ensures c.if-d-gt4.false c.if-operation-gt3.false) (c.begin.ensures m t)
