use mathlib.Core.Path.{refl, sym, ◌∙◌}
use mathlib.Core.Bool.{false, and-true}
use borrow.Author.Tests.{le-ltb}
use Rattle.machine.specs.Classes.{best}
use Rattle.machine.proofs.Laws.{unless_all, unless_marked}
use Rattle.run.proofs.turn.selects.Goals as goal

pub returns-then-m-ge-NOBODY : goal.returns-then-m-ge-NOBODY
returns-then-m-ge-NOBODY c =
    let m = c.args.m.now in
    c.is_better_ready.ensures m refl ∙ sym (and-true _) ∙ unless_all m (best m) refl 3 false (rw (le-ltb _ _ c.if-m-ge-NOBODY.true)) (rw (le-ltb _ _ c.if-m-ge-NOBODY.true))

pub returns-then-is_better_ready : goal.returns-then-is_better_ready
returns-then-is_better_ready c =
    let m = c.args.m.now in
    let b = rw c.from.ensures at (c.is_better_ready-2.ensures m refl) in
    rw (sym b ∙ c.if-is_better_ready.true) at (unless_marked m (best m) refl c.if-m-ge-NOBODY.false)

pub returns-else-is_better_ready : goal.returns-else-is_better_ready
returns-else-is_better_ready c =
    let m = c.args.m.now in
    let b = rw c.from.ensures at (c.is_better_ready-2.ensures m refl) in
    c.if-is_better_ready.false ∙ rw (sym b ∙ c.if-is_better_ready.false) at (unless_marked m (best m) refl c.if-m-ge-NOBODY.false)
