use mathlib.Core.Path.{◌≡◌, ◌∙◌, refl, sym}
use borrow.Author.Tests.{le-leb, lt-leb, le-ltb, lt-ltb}
use Rattle.notation.proofs.Upto.{below?}
use Rattle.machine.specs.declared.Machine.{Machine}
use Rattle.machine.specs.State.{nobody}
use Rattle.machine.specs.Classes.{aside, push, select, set_running, wake}
use Rattle.machine.proofs.Laws.{over_told}
use Rattle.machine.proofs.classes.selected.Goals as goal

pub returns-then-is_better_ready : goal.returns-then-is_better_ready
unfolding select aside wake push set_running
returns-then-is_better_ready c =
    λ m q r k n t.
    let e = sym (over_told m _ refl _ _ _ _ r k t c.class_over.ensures) ∙ sym (c.is_better_ready.ensures m q) ∙ c.if-is_better_ready.true in
    below? c.args.i 10
    (λ l.
    let u : Machine = wake (set_running m nobody) m.running in
    let j : u.ready ≡ c.aside.result = rw (c.aside.ensures, lt-ltb _ _ l, ← k l, ← q, ← r) in
    rw (e, lt-leb _ _ (rw (← r) at l)) (c.choose.ensures u j n))
    (λ l.
    let j : m.ready ≡ c.aside.result = rw (c.aside.ensures, le-ltb _ _ l) q in
    rw (e, le-leb _ _ (rw (← r) at l)) (c.choose.ensures m j n))

pub returns : goal.returns
unfolding select
returns c =
    λ m q r k n t.
    let e = sym (over_told m _ refl _ _ _ _ r k t c.class_over.ensures) ∙ sym (c.is_better_ready.ensures m q) ∙ c.if-is_better_ready.false in
    rw (e, q, r, n, t)
