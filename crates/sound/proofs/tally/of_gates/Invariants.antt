use mathlib.Core.Path.{◌≡◌}
use Prim.Native.Nat.{ℕ, ◌<◌}
use lib.ListN.{length, get_or}
use Rattle.notation.specs.Upto.{sum_to}
use Rattle.machine.specs.Sound.{at_gate}
use Rattle.machine.specs.State.{no_gate}
use Rattle.sound.proofs.tally.of_gates.Given as goal

abbrev pub invariant-loop-w : goal.invariant-loop-w
invariant-loop-w l = (length l.t ≡ 10) × ((q : ℕ) → q < 10 → get_or l.t q 0 ≡ sum_to (λ g. at_gate q (get_or l.gates g no_gate)) l.w-index)
