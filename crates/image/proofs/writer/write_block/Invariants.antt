use Rattle.std.proofs.Common.{◌≡◌, ◌*◌, ◌%◌}
use Rattle.notation.specs.Upto.{sum_to, laid}
use Rattle.image.specs.Write.{body, block_byte}
use Rattle.image.proofs.writer.write_block.Given as goal

abbrev pub invariant-loop-j : goal.invariant-loop-j
invariant-loop-j l = (l.block ≡ laid (block_byte l.h l.code l.i) (2 * l.j) l.initial.block) × (l.sum ≡ sum_to (body l.h l.code l.i) l.j % 65536)
