-- A run is its turns: the first turn, and the run of what is left of the budget from the world after it
use Rattle.std.specs.Prelude.{◌≡◌, true, List, ℕ, suc, ◌-◌, ◌<◌, ◌≤◌, length}
use Rattle.machine.specs.State.{nobody}
use Rattle.machine.specs.Store.{World}
use Rattle.machine.specs.Sound.{sound}
use Rattle.machine.specs.Step.{idle, Stepped, stepped}
use Rattle.machine.specs.Run.{run, goes_on}
use Rattle.machine.specs.Offer.{stores_fit}
use Rattle.machine.specs.Shape.{Shaped}
use Rattle.run.specs.Turn.{turn, quota_of}

-- a turn counts 1 to the budget, and the world after it is as this law asks of the world before it
pub record Turns (code : List ℕ) (budget : ℕ) (w : World) (t : Stepped) : Type 0 where
  pub law : run code budget w ≡ goes_on t.ended t (run code (budget - t.count) t.world)
  pub some : 1 ≤ t.count
  pub most : t.count ≤ budget
  pub shape : Shaped t.world.machine
  pub whole : sound t.world.machine ≡ true
  pub stores : stores_fit t.world.common t.world.private ≡ true
  pub length : t.world.machine.length ≡ w.machine.length

abbrev pub TurnRun : Type 0
TurnRun =
    (code : List ℕ) (budget : ℕ) (w : World)
    → Shaped w.machine
    → sound w.machine ≡ true
    → stores_fit w.common w.private ≡ true
    → length code ≡ w.machine.length
    → w.machine.running < nobody
    → 0 < budget
    → Turns code budget w (turn code (quota_of w.machine budget) w)

-- where nobody runs, the run ends at once
abbrev pub IdleRun : Type 0
IdleRun =
    (code : List ℕ) (budget : ℕ) (w : World) → nobody ≤ w.machine.running → run code (suc budget) w ≡ stepped w idle 0
