-- The bytes that the code tests are those of the fill's words.
use Rattle.std.proofs.Common.{ℕ, ◌+◌, ◌-◌, ◌*◌, not, sym, ap, ◌∙◌, arith}
use Rattle.image.specs.Read.{refusal5}
use Rattle.image.proofs.Laws as L
use Rattle.image.proofs.reader.check_fill.Goals as goal

pub returns-then-are_zero : goal.returns-then-are_zero
unfolding refusal5
returns-then-are_zero c =
    let first : ℕ = c.from-n.result + 2 * c.from-blocks.result + 255 in
    let end : ℕ = first + (254 * c.from-blocks.result - c.from-n.result) in
    let z = L.fill_is c.args.image.now c.args.n first end _ c.are_zero.ensures (omega arith) (omega arith) c.requires in
    L.passes 5 _ (ap not (sym z ∙ c.if-are_zero.true))

pub returns-else-are_zero : goal.returns-else-are_zero
unfolding refusal5
returns-else-are_zero c =
    let first : ℕ = c.from-n.result + 2 * c.from-blocks.result + 255 in
    let end : ℕ = first + (254 * c.from-blocks.result - c.from-n.result) in
    let z = L.fill_is c.args.image.now c.args.n first end _ c.are_zero.ensures (omega arith) (omega arith) c.requires in
    L.fails 5 _ (ap not (sym z ∙ c.if-are_zero.false))
