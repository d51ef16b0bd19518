-- What a fault leaves of a whole step, with its kernel call
use Rattle.std.specs.Prelude.{◌≡◌, true, false, List, ℕ, ◌-◌, ◌<◌, set}
use Rattle.machine.specs.declared.Process.{Process}
use Rattle.machine.specs.State.{nobody, floor_of, with_process, with_regs}
use Rattle.machine.specs.Store.{World, part_of, with_part}
use Rattle.machine.specs.View.{faults}
use Rattle.machine.specs.Job.{after_job, takes_stop}
use Rattle.machine.specs.Instruction.{execute}
use Rattle.machine.specs.Call.{caller}
use Rattle.machine.specs.Step.{view, onward, stopped, stepped, selected, halted, step}

-- "When a fault or call 2 stops the machine, all else stays as before that instruction": but for the stop's number and line
abbrev pub StoppingStep : Type 0
StoppingStep =
    (code : List ℕ) (w : World) → (step code w).ended ≡ stopped → step code w ≡ halted w (step code w).world.machine.stop

-- what document 01 gives the end of a job: C, B and S are as before the call, the process goes on after it, and the result is pushed
abbrev pub job_ended : World → ℕ → World
job_ended w result =
    let i : ℕ = w.machine.running in
    let p : Process = caller w in
    let s : ℕ = p.regs.saved_s - 1 in
    record { machine = with_process w.machine i (with_regs p (after_job p.regs s)); common = w.common; private = with_part i (set (part_of i w.private) (s - 2048) result) w.private }

-- a step whose fault ends a job leaves all else; where there is no room for the result, the machine stops
abbrev pub FaultEndsJob : Type 0
FaultEndsJob =
    (code : List ℕ) (w : World) (f : ℕ)
    → w.machine.running < nobody
    → (caller w).regs.in_job ≡ true
    → takes_stop (view code w) ≡ false
    → (execute (view code w)).out ≡ faults f
    → floor_of (caller w) < (caller w).regs.saved_s
    → step code w ≡ stepped (selected (job_ended w f)) onward 1
