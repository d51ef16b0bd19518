-- Each turn lays the content of one block more over the buffer; what is left of the code stands in one more block, or there is none.
use Rattle.std.proofs.Common.{◌≡◌, ◌+◌, ◌*◌, ◌/◌, sym, arith}
use Rattle.notation.proofs.Upto.{laid_none}
use Rattle.image.proofs.Laws as L
use Rattle.image.proofs.reader.lay_code.Goals as goal

pub loop-i-init : goal.loop-i-init
loop-i-init c = sym (laid_none _ _)

pub loop-i-preserved : goal.loop-i-preserved
loop-i-preserved c =
    let i = c.loop-i.i in
    let z : 254 * (i + 1) ≡ 254 * i + 254 = omega arith in
    rw z (L.part_more (254 * i) (254 * i + 254) i c.loop-i.code _ c.args.image.now c.args.code.now c.loop-i.invariant c.lay_words.ensures (omega arith) (omega arith) (omega arith) (omega (arith, c.requires.0)))

pub returns : goal.returns
returns c =
    let n = c.from-words.result in
    let i : c.loop-i.i ≡ n / 254 = omega arith in
    let before = rw i at c.loop-i.invariant in
    rw (← c.from-words.ensures) (L.part_more (254 * (n / 254)) n (n / 254) c.loop-i.code _ c.args.image.now c.args.code.now before c.lay_words-2.ensures (omega arith) (omega arith) (omega arith) (omega (arith, c.requires.0)))
