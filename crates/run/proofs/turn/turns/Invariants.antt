use Prim.Native.Nat.{◌-◌}
use Rattle.run.specs.Said.{world}
use Rattle.run.proofs.Course as L
use Rattle.run.proofs.turn.turns.Given as goal

abbrev pub invariant-loop-count : goal.invariant-loop-count
invariant-loop-count l =
    L.Left l.code l.budget (world l.initial.m l.initial.common l.initial.private) l.count (world l.m l.common l.private)

abbrev pub decreases-loop-count : goal.decreases-loop-count
decreases-loop-count l = l.budget - l.count
