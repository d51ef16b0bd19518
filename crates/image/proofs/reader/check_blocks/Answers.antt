-- What is left to search gives the same first bad block: the loop ends at that block, or past the last one.
use Rattle.std.proofs.Common.{◌/◌, ◌<◌, ◌≤◌, not, length, sym, ap, ◌∙◌, arith, le-ltb, lt-ltb}
use Rattle.notation.proofs.Upto.{first_here, first_next, first_through}
use Rattle.image.specs.Read.{refusal2}
use Rattle.image.proofs.Laws as L
use Rattle.image.proofs.reader.check_blocks.Goals as goal

pub returns-then-not-is_good : goal.returns-then-not-is_good
unfolding refusal2
returns-then-not-is_good c =
    let before : c.loop-i.i < length c.args.image.now / 512 = omega (arith, c.loop-i-test.true, c.as_chunks.ensures.front_len) in
    let good = rw (c.as_chunks.ensures.front, L.chunk_at _ _ c.args.image.now _ before) at c.is_good.ensures in
    rw (c.loop-i.invariant.1 ∙ first_here _ _ _ before (ap not (sym good ∙ c.if-not-is_good.true)), lt-ltb _ _ before)

pub loop-i-preserved : goal.loop-i-preserved
loop-i-preserved c =
    let before : c.loop-i.i < length c.args.image.now / 512 = omega (arith, c.loop-i-test.true, c.as_chunks.ensures.front_len) in
    let good = rw (c.as_chunks.ensures.front, L.chunk_at _ _ c.args.image.now _ before) at c.is_good.ensures in
    (omega arith, c.loop-i.invariant.1 ∙ first_next _ _ _ before (ap not (sym good ∙ c.if-not-is_good.false)))

pub returns : goal.returns
unfolding refusal2
returns c =
    let past : length c.args.image.now / 512 ≤ c.loop-i.i = omega (arith, c.loop-i-test.false, c.as_chunks.ensures.front_len) in
    rw (c.loop-i.invariant.1 ∙ first_through _ _ _ past, le-ltb _ _ past)
