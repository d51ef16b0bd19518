-- Each turn lays one word more of the block and adds it to the sum; the last word makes the sum 65,535.
use Rattle.std.proofs.Common.{◌≡◌, ◌+◌, ◌-◌, ◌%◌, sym, refl, ◌∙◌, arith}
use Rattle.notation.specs.Upto.{sum_to}
use Rattle.notation.proofs.Upto.{laid_none, laid-whole}
use Rattle.image.specs.Write.{body, check}
use Rattle.image.proofs.Laws as L
use Rattle.image.proofs.writer.write_block.Goals as goal

pub loop-j-init : goal.loop-j-init
unfolding sum_to
loop-j-init c = (sym (laid_none _ _), refl)

pub loop-j-preserved : goal.loop-j-preserved
loop-j-preserved c =
    let loop = c.loop-j in
    let word = c.body_word-w.ensures in (
      c.put_word.ensures ∙ rw loop.invariant.0 (L.word_more _ _ _ _ _ _ (omega arith) (word ∙ L.body-word _ _ _ _ c.loop-j-test.true)),
      L.sum_more _ _ _ _ loop.invariant.1 word,
    )

pub returns : goal.returns
returns c =
    let loop = c.loop-j in
    let a = c.args in
    let j : loop.j ≡ 255 = omega arith in
    let s : loop.sum ≡ sum_to (body a.h a.code.now a.i) 255 % 65536 = rw j at loop.invariant.1 in
    let w : (65535 + (65536 - loop.sum)) % 65536 ≡ check a.h a.code.now a.i = omega arith in
    c.put_word-2.ensures
    ∙ rw (loop.invariant.0, j)
    (L.word_more _ _ _ 255 _ a.block.now (omega arith) (w ∙ L.check-word _ _ _)
    ∙ laid-whole _ _ a.block.now c.requires)
