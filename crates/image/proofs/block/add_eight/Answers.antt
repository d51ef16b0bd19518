-- One word of each strip more, eight times.
use Rattle.std.proofs.Common.{◌≡◌, ℕ, ◌+◌, ◌*◌, ◌%◌, arith}
use Rattle.notation.specs.Upto.{sum_to}
use Rattle.image.specs.Block.{word_at}
use Rattle.image.proofs.Laws.{sum-from}
use Rattle.image.proofs.block.add_eight.Goals as goal

pub returns : goal.returns
unfolding sum_to
returns c =
    let k = c.args.k in
    let s = c.args.s in
    let f : ℕ → ℕ = λ j. word_at c.args.block.now (32 * j + k) in
    let z : 32 * 0 + k ≡ k = omega arith in
    let e0 : s ≡ (s + sum_to f 0) % 65536 = omega (arith, c.ranges) in
    let e1 = sum-from f s 0 _ _ e0 (rw z c.word.ensures) in
    let e2 = sum-from f s 1 _ _ e1 c.word-2.ensures in
    let e3 = sum-from f s 2 _ _ e2 c.word-3.ensures in
    let e4 = sum-from f s 3 _ _ e3 c.word-4.ensures in
    let e5 = sum-from f s 4 _ _ e4 c.word-5.ensures in
    let e6 = sum-from f s 5 _ _ e5 c.word-6.ensures in
    let e7 = sum-from f s 6 _ _ e6 c.word-7.ensures in
    sum-from f s 7 _ _ e7 c.word-8.ensures
