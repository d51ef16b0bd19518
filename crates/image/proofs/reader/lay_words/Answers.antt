-- Each turn lays one word more over the part.
use Rattle.std.proofs.Common.{sym, arith}
use Rattle.notation.proofs.Upto.{laid_none, laid_more}
use Rattle.image.proofs.reader.lay_words.Goals as goal

pub loop-k-init : goal.loop-k-init
loop-k-init c = sym (laid_none _ _)

pub loop-k-preserved : goal.loop-k-preserved
loop-k-preserved c = rw (c.loop-k.invariant, c.word.ensures) (laid_more _ _ _ (omega arith))
