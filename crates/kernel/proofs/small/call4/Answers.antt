use mathlib.Core.Path.{◌≡◌, refl, ◌∙◌}
use Prim.Native.Nat.{◌+◌}
use native.Mathlib.Omega.{arith}
use borrow.Author.Tests.{le-ltb, lt-ltb}
use Rattle.word.specs.declared.Fault.TheVariants.{Gate}
use Rattle.kernel.specs.declared.answer.Act.TheVariants.{Finish}
use Rattle.machine.specs.Call.{call4}
use Rattle.kernel.proofs.Laws.{goes_at, regs, stops_at}
use Rattle.kernel.proofs.small.call4.Goals as goal

pub returns-then-who-gt0 : goal.returns-then-who-gt0
unfolding call4
returns-then-who-gt0 c =
    λ m t k q. rw (rw t.caller at (lt-ltb _ _ c.if-who-gt0.true)) (stops_at t Gate refl)

pub returns : goal.returns
unfolding call4
returns c =
    λ m t k q. let z : (regs m).s + 0 ≡ (regs m).s = omega arith in
    rw c.goes.ensures (goes_at t k q c.args.who.caller.process.regs.s Finish ∙ rw (rw t.caller at (le-ltb _ _ c.if-who-gt0.false), t.caller, z))
