-- No byte has a bit where all are zero.
use Rattle.std.proofs.Common.{◌≡◌, fold, rules}
use Rattle.std.specs.Int.Bits.{bit_or}
use Rattle.image.proofs.Laws.{none_zero}
use Rattle.image.proofs.block.are_zero.Goals as goal

pub returns : goal.returns
returns c = let f : c.fold.result ≡ fold bit_or 0 c.args.bytes.now = search rules in rw f (none_zero c.args.bytes.now)
