use mathlib.Core.Path.{◌≡◌, ◌∙◌}
use Prim.Native.Nat.{◌+◌}
use native.Mathlib.Omega.{arith}
use Rattle.kernel.specs.declared.answer.Act.TheVariants.{WaitClock}
use Rattle.machine.specs.Call.{call0}
use Rattle.kernel.proofs.Laws.{goes_at, regs}
use Rattle.kernel.proofs.small.call0.Goals as goal

pub returns : goal.returns
unfolding call0
returns c =
    λ m t k q. let z : (regs m).s + 0 ≡ (regs m).s = omega arith in rw c.goes.ensures (goes_at t k q c.args.who.caller.process.regs.s WaitClock ∙ rw (t.caller, z))
