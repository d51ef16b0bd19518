use mathlib.Core.Path.{◌≡◌}
use Prim.Native.Nat.{ℕ, ◌<◌, ◌+◌}
use lib.ListN.{length, get_or}
use Rattle.notation.specs.Upto.{sum_to}
use Rattle.machine.specs.Sound.{sits, in_queue}
use Rattle.machine.specs.State.{no_queue}
use Rattle.sound.proofs.tally.of_ready.Given as goal

abbrev pub invariant-loop-w : goal.invariant-loop-w
invariant-loop-w l = (length l.t ≡ 10) × ((q : ℕ) → q < 10 → get_or l.t q 0 ≡ sits q l.running + sum_to (λ c. in_queue q (get_or l.ready c no_queue)) l.w-index)
