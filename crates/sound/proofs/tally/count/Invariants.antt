use lib.ListN.{take}
use Rattle.std.specs.List.{sum_by}
use Rattle.machine.specs.Sound.{sits}
use Rattle.sound.specs.Tally.{Grown}
use Rattle.sound.proofs.tally.count.Given as goal

abbrev pub invariant-loop-x : goal.invariant-loop-x
invariant-loop-x g l = Grown g.row.N l.initial.t l.t (λ q. sum_by (sits q) (take l.x-index l.seats))
