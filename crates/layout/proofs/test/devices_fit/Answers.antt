use Prim.Native.Nat.{◌+◌, ◌*◌}
use Rattle.layout.proofs.Tests.{places_below}
use Rattle.layout.specs.Layout.{from, bytes}
use Rattle.std.proofs.lemmas.Iterator.{YieldsList-from_range}
use Rattle.std.proofs.lemmas.Iterator.Search.{all_from_yields_List}
use borrow.Author.Rules.{rules}
use mathlib.Core.Path.{refl, ◌∙◌}
use Rattle.layout.proofs.test.devices_fit.Goals as goal

pub returns : goal.returns
returns c =
    all_from_yields_List (λ d. bytes (from c.args.words.now (795 + 3 * d)) 2) _ _ c.all.result c.all.ensures.ran
    (YieldsList-from_range 0 5 5 refl refl)
    (λ x b q k. search rules)
    ∙ places_below _ 5
