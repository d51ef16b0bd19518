use mathlib.Core.Path.{◌≡◌}
use Prim.Native.Nat.{◌-◌, ◌≤◌}
use lib.ListN.{length}
use Rattle.laws.specs.Marks.{Fit}
use Rattle.engine.specs.Burst.{goes_on}
use Rattle.engine.specs.Did.{seen}
use Rattle.engine.proofs.burst.go_on.Given as goal

-- v, whose registers are written, is a tuple here: code, floor, holding, regs
abbrev pub invariant-loop-count : goal.invariant-loop-count
invariant-loop-count l =
    Fit (seen l.v.0.now l.v.1.0 l.v.1.1.0 l.v.1.1.1.0 l.common l.own)
    × (length l.v.0.now ≤ 16256)
    × (goes_on 0 l.budget (seen l.initial.v.0.now l.initial.v.1.0 l.initial.v.1.1.0 l.initial.v.1.1.1.0 l.initial.common l.initial.own) ≡ goes_on l.count (l.budget - l.count) (seen l.v.0.now l.v.1.0 l.v.1.1.0 l.v.1.1.1.0 l.common l.own))
