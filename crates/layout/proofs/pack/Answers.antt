-- By the number of words.
use Rattle.layout.proofs.Laws.{whole}
use Rattle.layout.specs.Layout.{state_words}
use borrow.Author.Tests.{eq-eqb}
use lib.ListN.{length}
use mathlib.Core.Path.{refl}
use Rattle.layout.proofs.pack.Goals as goal

pub returns : goal.returns
returns c =
    let e = eq-eqb (length c.args.words.now) state_words c.in-Some.ensures.cases.long in
    rw e (refl, whole c.put.ensures (rw c.in-Some.ensures.cases.same c.in-Some.ensures.cases.long))
