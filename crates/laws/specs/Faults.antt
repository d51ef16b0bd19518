-- A faulting instruction does none of its own work, and one that calls the kernel leaves all of it to the kernel
use Rattle.std.specs.Prelude.{◌≡◌, ℕ}
use Rattle.machine.specs.View.{View, faults, calls, effect, faulted}
use Rattle.machine.specs.Instruction.{perform, instruct}

-- an instruction by its code, which in a job may still end the job
abbrev pub FaultsKeep : Type 0
FaultsKeep = (v : View) (code f : ℕ) → (perform v code).out ≡ faults f → perform v code ≡ faulted v f

-- one instruction with its job: where a fault is left, it stops the machine
abbrev pub StopsKeep : Type 0
StopsKeep = (v : View) (f : ℕ) → (instruct v).out ≡ faults f → instruct v ≡ faulted v f

abbrev pub CallsKeep : Type 0
CallsKeep = (v : View) (k : ℕ) → (instruct v).out ≡ calls k → instruct v ≡ effect (calls k) v.common v.own
