use lib.Dec.{ltb}
use mathlib.Core.Bool.{true, ◌&&◌}
use mathlib.Core.Path.{◌∙◌}
use borrow.Author.Rules.{rules}
use Rattle.std.proofs.lemmas.Iterator.{YieldsList-from_slice}
use Rattle.std.proofs.lemmas.Iterator.Consumers.{fold_from_yields_List}
use Rattle.layout.proofs.Tests.{bytes_row}
use Rattle.layout.proofs.test.are_bytes.Goals as goal

pub returns : goal.returns
returns c =
    fold_from_yields_List _ (λ ok w. ok && ltb w 256) true c.fold.result c.fold.ensures.ran
    (YieldsList-from_slice _ c.iter.ensures.rest)
    (λ a x b q k. search rules)
    ∙ bytes_row c.args.words.now c.args.at c.args.n (search rules)
