use Prim.Native.Nat.{◌*◌}
use Rattle.layout.proofs.Tests.{places_below}
use Rattle.layout.specs.Layout.{from, process_fits}
use Rattle.std.proofs.lemmas.Iterator.{YieldsList-from_range}
use Rattle.std.proofs.lemmas.Iterator.Search.{all_from_yields_List}
use borrow.Author.Rules.{rules}
use mathlib.Core.Path.{refl, ◌∙◌}
use Rattle.layout.proofs.test.processes_fit.Goals as goal

pub returns : goal.returns
returns c =
    all_from_yields_List (λ i. process_fits (from c.args.words.now (24 * i))) _ _ c.all.result c.all.ensures.ran
    (YieldsList-from_range 0 10 10 refl refl)
    (λ x b q k. search rules)
    ∙ places_below _ 10
