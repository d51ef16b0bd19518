-- One step: an instruction of the running process, with its kernel call and the selection after it
use Rattle.std.specs.Prelude.{List, ℕ, ltb, leb}
use Rattle.notation.specs.If.{if}
use Rattle.machine.specs.declared.Machine.{Machine}
use Rattle.machine.specs.State.{nobody, proc, floor_of, timed, with_process, with_regs}
use Rattle.machine.specs.Store.{World, part_of, with_part}
use Rattle.machine.specs.View.{View, Out, next, faults, calls, Effect}
use Rattle.machine.specs.Instruction.{instruct}
use Rattle.machine.specs.Classes.{select}
use Rattle.machine.specs.Call.{Called, on, starts, stops, kernel}

-- ---- what an instruction of the running process sees
abbrev pub view : List ℕ → World → View
view code w =
    let i : ℕ = w.machine.running in
    record { code = code; floor = floor_of (proc w.machine i); holding = ltb 0 (proc w.machine i).holds; regs = (proc w.machine i).regs; common = w.common; own = part_of i w.private }

-- ---- how a step ended: with nothing to tell, also where nobody is left to run; nobody ran; a device has started; the machine has stopped
pub data Ended : Type 0 where
  onward : Ended
  idle : Ended
  starting : ℕ → Ended
  stopped : Ended

-- the world after a step, how it ended, and how many instructions it counts
pub record Stepped : Type 0 where
  pub world : World
  pub ended : Ended
  pub count : ℕ

abbrev pub stepped : World → Ended → ℕ → Stepped
stepped w e k = record { world = w; ended = e; count = k }

abbrev pub with_machine : World → Machine → World
with_machine w m = record { machine = m; common = w.common; private = w.private }

-- "After each instruction and event" the selection follows
abbrev pub selected : World → World
selected w = with_machine w (select w.machine)

-- "When a fault or call 2 stops the machine, all else stays as before that instruction"; the line is the process's last NEWLINE
unfoldable pub halted : World → ℕ → Stepped
halted w f =
    stepped (with_machine w (timed w.machine f (proc w.machine w.machine.running).regs.line w.machine.seconds w.machine.fraction)) stopped 1

abbrev pub called : World → Called → Stepped
called w (on v) = stepped (selected v) onward 1
called w (starts d v) = stepped (selected v) (starting d) 1
called w (stops f) = halted w f

abbrev pub resulted : World → Out → List ℕ → List ℕ → Stepped
resulted w (next r) common part =
    stepped (selected (record { machine = with_process w.machine w.machine.running (with_regs (proc w.machine w.machine.running) r); common = common; private = with_part w.machine.running part w.private })) onward 1
resulted w (faults f) common part = halted w f
resulted w (calls k) common part = called w (kernel w k)

-- "a step on an idle machine changes nothing and counts 0"
unfoldable pub step : List ℕ → World → Stepped
step code w =
    let d : Effect = instruct (view code w) in
    if (leb nobody w.machine.running) (stepped w idle 0) (resulted w d.out d.common d.own)
