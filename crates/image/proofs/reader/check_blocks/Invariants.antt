use Rattle.std.proofs.Common.{◌≡◌, ◌-◌, ◌/◌, ◌≤◌, not, length}
use Rattle.notation.specs.Upto.{first_from}
use Rattle.image.specs.Block.{block_at, good_block}
use Rattle.image.specs.Read.{first_bad}
use Rattle.image.proofs.reader.check_blocks.Given as goal

abbrev pub invariant-loop-i : goal.invariant-loop-i
invariant-loop-i l =
    (l.i ≤ length l.image / 512)
    × (first_bad l.image ≡ first_from (λ k. not (good_block (block_at l.image k) k)) l.i (length l.image / 512 - l.i))
