-- A step that stops the machine, and one whose fault ends a job
use mathlib.Core.Path.{◌≡◌, refl, sym, ap, ◌∙◌}
use mathlib.Core.Bool.{Bool, true, false}
use mathlib.Core.List.{List}
use Prim.Native.Nat.{ℕ}
use lib.Dec.{leb}
use borrow.Author.Tests.{lt-ltb, lt-leb}
use Rattle.notation.proofs.Upto.{split, never}
use Rattle.machine.specs.View.{Out, next, faults, calls, Effect, n}
use Rattle.machine.specs.Job.{end_job}
use Rattle.machine.specs.Instruction.{instruct}
use Rattle.machine.specs.State.{nobody}
use Rattle.machine.specs.Store.{World}
use Rattle.machine.specs.Call.{Called, on, starts, stops, kernel}
use Rattle.machine.specs.Step.{view, Ended, onward, idle, starting, stopped, Stepped, halted, called, resulted, step}
use Rattle.promises.specs.Faults.{StoppingStep, FaultEndsJob}

-- a step that stops, told from the others
abbrev is_stopped : Ended → Bool
is_stopped onward = false
is_stopped idle = false
is_stopped (starting d) = false
is_stopped stopped = true

clash : {X : Type 0} {e : Ended} → e ≡ stopped → is_stopped e ≡ false → X
clash e n = never (sym (ap is_stopped e) ∙ n)

-- the number of a stop stands in the machine
stops_so : (w : World) (s : Stepped) (f : ℕ) → s ≡ halted w f → s ≡ halted w s.world.machine.stop
unfolding halted
stops_so w s f e = e ∙ ap (halted w) (sym (ap (λ (x : Stepped). x.world.machine.stop) e))

called_stops : (w : World) (c : Called) → (called w c).ended ≡ stopped → called w c ≡ halted w (called w c).world.machine.stop
called_stops w (on v) e = clash e refl
called_stops w (starts d v) e = clash e refl
called_stops w (stops f) e = stops_so w _ f refl

result_stops : (w : World) (o : Out) (c q : List ℕ) → (resulted w o c q).ended ≡ stopped
    → resulted w o c q ≡ halted w (resulted w o c q).world.machine.stop
result_stops w (next r) c q e = clash e refl
result_stops w (faults f) c q e = stops_so w _ f refl
result_stops w (calls k) c q e = called_stops w (kernel w k) e

pub stopping-step : StoppingStep
unfolding step
stopping-step code w e =
    let d : Effect = instruct (view code w) in
    split (leb nobody w.machine.running) (λ t. clash (rw t at e) refl) (λ t. rw t (result_stops w d.out d.common d.own (rw t at e)))

pub fault_ends_job : FaultEndsJob
unfolding step instruct end_job
fault_ends_job code w f runs job free e room =
    rw (lt-leb nobody w.machine.running runs, free, e, job, lt-ltb _ _ room)
