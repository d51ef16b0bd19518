use Rattle.std.proofs.Common.{◌≡◌, ℕ, ◌+◌, ◌*◌, List, ◌%◌}
use Rattle.notation.specs.Upto.{sum_to}
use Rattle.image.specs.Block.{word_at}
use Rattle.image.proofs.block.sum.Given as goal

-- what turn k adds
abbrev pub eight : List ℕ → ℕ → ℕ
eight block k = sum_to (λ j. word_at block (32 * j + k)) 8

abbrev pub invariant-loop-k : goal.invariant-loop-k
invariant-loop-k l = l.s ≡ sum_to (eight l.block) l.k % 65536
