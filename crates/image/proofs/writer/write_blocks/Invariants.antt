use Rattle.std.proofs.Common.{◌≡◌, ◌*◌}
use Rattle.notation.specs.Upto.{laid}
use Rattle.image.specs.Write.{image_byte}
use Rattle.image.proofs.writer.write_blocks.Given as goal

abbrev pub invariant-loop-i : goal.invariant-loop-i
invariant-loop-i l = l.out ≡ laid (image_byte l.h l.code) (512 * l.i) l.initial.out
