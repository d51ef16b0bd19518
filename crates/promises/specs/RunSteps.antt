-- A run equals that many single steps: it ends at its budget, at idle, at a device start or at a stop
use Rattle.std.specs.Prelude.{◌≡◌, List, ℕ, suc, ◌<◌, ◌≤◌, replicate}
use Rattle.machine.specs.Store.{World}
use Rattle.machine.specs.Step.{Ended, onward, idle, starting, stopped, Stepped, stepped}
use Rattle.machine.specs.Offer.{did, offer_run, a_step, offer, after_all}
use Rattle.machine.specs.Shape.{Shaped}

-- k single steps from the world w to the world v: each is offered and taken, and counts 1; each ends onward, but the last ends as e
pub data Steps (code : List ℕ) : ℕ → World → Ended → World → Type 0 where
  none : {w : World} → Steps code 0 w onward w
  last : {w v : World} {e : Ended} → offer code w a_step ≡ did (stepped v e 1) → Steps code 1 w e v
  first : {k : ℕ} {w u v : World} {e : Ended} → offer code w a_step ≡ did (stepped u onward 1) → Steps code k u e v → Steps code (suc k) w e v

-- how a run ended: its budget is used; the next step is idle; its last step started a device, or stopped the machine
abbrev pub Ran : List ℕ → ℕ → World → Stepped → Ended → Type 0
Ran code budget w s onward = (s.count ≡ budget) × Steps code s.count w onward s.world
Ran code budget w s idle =
    (s.count < budget) × Steps code s.count w onward s.world × (offer code s.world a_step ≡ did (stepped s.world idle 0))
Ran code budget w s (starting d) = (s.count ≤ budget) × Steps code s.count w (starting d) s.world
Ran code budget w s stopped = (s.count ≤ budget) × Steps code s.count w stopped s.world

abbrev pub RunSteps : Type 0
RunSteps =
    (code : List ℕ) (budget : ℕ) (w : World) (s : Stepped)
    → Shaped w.machine
    → offer_run code budget w ≡ did s
    → Ran code budget w s s.ended

-- so the world after it is the world after that many steps, offered one by one
abbrev pub RunWorld : Type 0
RunWorld =
    (code : List ℕ) (budget : ℕ) (w : World) (s : Stepped)
    → Shaped w.machine
    → offer_run code budget w ≡ did s
    → (s.count ≤ budget) × (s.world ≡ after_all code w (replicate s.count a_step))
