-- In which offers a process is taken. Document 01: "After each instruction and event, a running process with a strictly better
-- class ready goes to the tail of its own and the head of the best class runs; (..). Taking a process so is a selection"; from which class, document 02, W-212, says
use Rattle.std.specs.Prelude.{◌≡◌, Bool, true, false, ◌&&◌, List, ℕ, leb, eqb}
use Rattle.notation.specs.If.{if}
use Rattle.machine.specs.declared.Machine.{Machine}
use Rattle.machine.specs.State.{nobody, proc, with_process, with_regs}
use Rattle.machine.specs.Store.{World}
use Rattle.machine.specs.View.{Out, next, faults, calls}
use Rattle.machine.specs.Instruction.{instruct}
use Rattle.machine.specs.Classes.{source, aside, selects, select}
use Rattle.machine.specs.Clock.{time_passes, slice_passes, bell_wake}
use Rattle.machine.specs.Device.{device_end}
use Rattle.machine.specs.Call.{Called, on, starts, stops, kernel}
use Rattle.machine.specs.Step.{view}
use Rattle.machine.specs.Offer.{Offer, a_step, a_tick, a_done, a_bell, offer, after}
use Rattle.waiting.specs.Count.{accepted}

-- what a step or an event ends with: the selection from a machine, or none, where the machine stops or nobody runs
pub data Ending : Type 0 where
  choosing : Machine → Ending
  none : Ending

abbrev pub call_ends : Called → Ending
call_ends (on v) = choosing v.machine
call_ends (starts d v) = choosing v.machine
call_ends (stops f) = none

abbrev pub out_ends : World → Out → Ending
out_ends w (next r) =
    choosing (with_process w.machine w.machine.running (with_regs (proc w.machine w.machine.running) r))
out_ends w (faults f) = none
out_ends w (calls k) = call_ends (kernel w k)

unfoldable pub step_ends : List ℕ → World → Ending
step_ends code w = if (leb nobody w.machine.running) none (out_ends w (instruct (view code w)).out)

unfoldable pub tick_ends : Machine → Ending
tick_ends m = choosing (if (leb nobody m.running) (time_passes m) (slice_passes (time_passes m) m.running))

unfoldable pub done_ends : Machine → ℕ → Ending
done_ends m d = choosing (device_end m d)

unfoldable pub bell_ends : Machine → Ending
bell_ends m = choosing (bell_wake m.bell.len m)

abbrev pub ends : List ℕ → World → Offer → Ending
ends code w a_step = step_ends code w
ends code w a_tick = tick_ends w.machine
ends code w (a_done d status arg) = done_ends w.machine d
ends code w a_bell = bell_ends w.machine

-- a process is taken there
abbrev pub takes : Ending → Bool
takes (choosing m) = selects m
takes none = false

-- it is taken from class c, where the running process stands at the tail of its own
abbrev pub takes_from : ℕ → Ending → Bool
takes_from c (choosing m) = selects m && eqb (source (aside m)) c
takes_from c none = false

-- the offer is accepted, and a process is taken in its selection; from class c
abbrev pub selects_at : List ℕ → World → Offer → Bool
selects_at code w x = accepted (offer code w x) && takes (ends code w x)

abbrev pub selects_from : List ℕ → ℕ → World → Offer → Bool
selects_from code c w x = accepted (offer code w x) && takes_from c (ends code w x)

-- ---- that the machine after an accepted offer is that selection; where there is none, the same process runs, the same are ready, and the count is the same
abbrev pub Chosen : Machine → Ending → Machine → Type 0
Chosen m (choosing v) after = after ≡ select v
Chosen m none after = (after.running ≡ m.running) × (after.ready ≡ m.ready) × (after.count ≡ m.count)

abbrev pub EndsSo : Type 0
EndsSo =
    (code : List ℕ) (w : World) (x : Offer)
    → accepted (offer code w x) ≡ true
    → Chosen w.machine (ends code w x) (after w (offer code w x)).machine
