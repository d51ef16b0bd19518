use mathlib.Core.Path.{refl, ◌∙◌}
use borrow.Author.Tests.{le-leb, lt-leb}
use Rattle.word.specs.declared.Fault.TheVariants.{Gate, Limit}
use Rattle.kernel.specs.declared.answer.Act.TheVariants.{MakeGate}
use Rattle.machine.specs.Call.{call10}
use Rattle.kernel.proofs.Laws.{full, goes_at, push_made, roomy, stops_at}
use Rattle.kernel.proofs.on_gate.call10.Goals as goal

pub returns-then-who-ge-GATES : goal.returns-then-who-ge-GATES
unfolding call10
returns-then-who-ge-GATES c =
    λ m t k. rw (rw t.caller at (le-leb _ _ c.if-who-ge-GATES.true)) (stops_at t Limit refl)

pub returns-then-who-ge-HELD : goal.returns-then-who-ge-HELD
unfolding call10
returns-then-who-ge-HELD c =
    λ m t k. rw (rw t.caller at (lt-leb _ _ c.if-who-ge-GATES.false), rw t.caller at (le-leb _ _ c.if-who-ge-HELD.true)) (stops_at t Gate refl)

pub returns-in_err-s : goal.returns-in_err-s
unfolding call10
returns-in_err-s c =
    λ m t k. let e = c.in_err-s.ensures in
    rw (e.2, rw t.caller at (lt-leb _ _ c.if-who-ge-GATES.false), rw t.caller at (lt-leb _ _ c.if-who-ge-HELD.false)) (full t _ c.from_residual.result c.from_residual.ensures.1 e.0 e.1)

pub returns : goal.returns
unfolding call10
returns c =
    λ m t k. let e = c.in_ok-s.ensures in
    rw c.goes.ensures (goes_at t k _ c.in_ok-s.s MakeGate ∙ push_made t k c.args.private.now _ c.in_ok-s.s _ e.2 ∙ rw (rw t.caller at (lt-leb _ _ c.if-who-ge-GATES.false), rw t.caller at (lt-leb _ _ c.if-who-ge-HELD.false), roomy t e.0, e.1, c.from.ensures, t.caller))
