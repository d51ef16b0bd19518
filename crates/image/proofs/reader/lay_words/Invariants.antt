use Rattle.std.proofs.Common.{◌≡◌, ◌+◌}
use Rattle.notation.specs.Upto.{laid}
use Rattle.image.specs.Block.{word_at}
use Rattle.image.proofs.reader.lay_words.Given as goal

abbrev pub invariant-loop-k : goal.invariant-loop-k
invariant-loop-k l = l.part ≡ laid (λ j. word_at l.image (l.at + j)) l.k l.initial.part
