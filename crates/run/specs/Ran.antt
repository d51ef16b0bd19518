-- What the functions of a turn are given and answer, in the words of the definitions
use Rattle.std.specs.Prelude.{◌≡◌, Bool, true, false, List, ℕ, ◌+◌, ◌<◌, length}
use Rattle.notation.specs.If.{if}
use Rattle.machine.specs.declared.Regs.{Regs}
use Rattle.machine.specs.declared.Machine.{Machine}
use Rattle.machine.specs.State.{proc, with_process, with_regs}
use Rattle.machine.specs.Store.{World, with_part}
use Rattle.machine.specs.Sound.{sound}
use Rattle.machine.specs.Call.{stops}
use Rattle.machine.specs.Step.{Ended, onward, idle, starting, stopped, Stepped, stepped, selected}
use Rattle.machine.specs.Offer.{stores_fit}
use Rattle.machine.specs.Shape.{Shaped}
use Rattle.engine.specs.declared.burst.Burst.{Burst}
use Rattle.engine.specs.Burst.{Ending, at_budget, at_call, at_fault, at_jobs_end, unfit, Bursted, end_says}
use Rattle.kernel.specs.Did.{Outcome, outcome, able, caller_of, traps}
use Rattle.run.specs.declared.answer.Ended.{Ended as End}
use Rattle.run.specs.declared.answer.Ended.TheVariants.{Onward, Idle, Starting, Stopped}
use Rattle.run.specs.declared.answer.Ran.{Ran}
use Rattle.run.specs.Said.{world, end_of}

abbrev pub ran : Ran → List ℕ → List ℕ → Stepped
ran x c q = stepped (world x.machine c q) (end_of x.ended) x.count

abbrev pub is_onward : End → Bool
is_onward Onward = true
is_onward Idle = false
is_onward (Starting d) = false
is_onward Stopped = false

-- a world whose checks have passed
pub record Accepted (code : List ℕ) (w : World) : Type 0 where
  pub shape : Shaped w.machine
  pub sound : sound w.machine ≡ true
  pub stores : stores_fit w.common w.private ≡ true
  pub long : length code ≡ w.machine.length

-- the machine with other registers of the running process
abbrev pub moved_on : Machine → Regs → Machine
moved_on m r = with_process m m.running (with_regs (proc m m.running) r)

-- ---- a burst of the running process
pub record Leaves (b : Bursted) (m : Machine) (x : Burst) (q c' q' : List ℕ) : Type 0 where
  pub regs : x.regs ≡ b.regs
  pub count : x.count ≡ b.count
  pub end : end_says x.end ≡ b.ending
  pub common : c' ≡ b.common
  pub private : q' ≡ with_part m.running b.own q

-- ---- what follows a burst that led to the world v, before the selection
abbrev pub following : Ending → World → Outcome
following at_budget v = record { machine = v.machine; common = v.common; private = v.private; end = onward }
following at_jobs_end v = record { machine = v.machine; common = v.common; private = v.private; end = onward }
following (at_call k) v = traps v k
following (at_fault f) v = outcome v (stops f)
following unfit v = record { machine = v.machine; common = v.common; private = v.private; end = stopped }

-- a call and a fault are not counted by their burst
abbrev pub counted : Ending → ℕ → ℕ
counted at_budget k = k
counted at_jobs_end k = k
counted (at_call c) k = k + 1
counted (at_fault f) k = k + 1
counted unfit k = 0

abbrev pub Countable : Ending → ℕ → Type 0
Countable at_budget k = Unit {0}
Countable at_jobs_end k = Unit {0}
Countable (at_call c) k = k < 4294967295
Countable (at_fault f) k = k < 4294967295
Countable unfit k = Unit {0}

-- ---- the selection, but for a stop
abbrev pub is_stopped : Ended → Bool
is_stopped onward = false
is_stopped idle = false
is_stopped (starting d) = false
is_stopped stopped = true

abbrev pub settled : Outcome → ℕ → Stepped
settled o k =
    let v : World = record { machine = o.machine; common = o.common; private = o.private } in
    stepped (if (is_stopped o.end) v (selected v)) o.end k

-- what a kernel call needs of a world
pub record Callable (w : World) : Type 0 where
  pub stores : stores_fit w.common w.private ≡ true
  pub able : able (caller_of w.machine) ≡ true
