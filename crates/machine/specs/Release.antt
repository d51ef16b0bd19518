-- "A release is a leave, a delay, or a continue on an empty cell": what a step of the running process does at gate g, without a fault
use Rattle.std.specs.Prelude.{Bool, true, false, ◌&&◌, ◌||◌, List, ℕ, leb, ltb, eqb}
use Rattle.machine.specs.State.{nobody}
use Rattle.machine.specs.Store.{World}
use Rattle.machine.specs.View.{Out, next, faults, calls}
use Rattle.machine.specs.Instruction.{instruct}
use Rattle.machine.specs.Gate.{cell}
use Rattle.machine.specs.Call.{Called, on, starts, stops, stack_word, kernel}
use Rattle.machine.specs.Step.{view}

-- a call that stops nothing is completed
abbrev pub is_completed : Called → Bool
is_completed (on w) = true
is_completed (starts d w) = true
is_completed (stops f) = false

-- call 7 on gate g; calls 8 and 9, which pop the cell first
abbrev pub leaves_by : World → ℕ → ℕ → Bool
leaves_by w g k = eqb k 7 && eqb (stack_word w 0) g && is_completed (kernel w k)

abbrev pub delays_by : World → ℕ → ℕ → Bool
delays_by w g k = eqb k 8 && eqb (stack_word w 1) g && is_completed (kernel w k)

abbrev pub continues_by : World → ℕ → ℕ → Bool
continues_by w g k = eqb k 9 && eqb (stack_word w 1) g && is_completed (kernel w k)

abbrev pub on_empty_cell : World → Bool
on_empty_cell w = leb nobody (cell w.machine (stack_word w 1) (stack_word w 0))

-- a test of the kernel call that the next instruction of the running process makes, if it makes one
abbrev pub by_call : Out → (ℕ → Bool) → Bool
by_call (next r) f = false
by_call (faults n) f = false
by_call (calls k) f = f k

abbrev pub at_call : List ℕ → World → (ℕ → Bool) → Bool
at_call code w f = ltb w.machine.running nobody && by_call (instruct (view code w)).out f

-- a release of gate g; a completed leave, delay or continue on it
unfoldable pub releases : List ℕ → World → ℕ → Bool
releases code w g = at_call code w (λ k. leaves_by w g k || delays_by w g k || (continues_by w g k && on_empty_cell w))

unfoldable pub completes : List ℕ → World → ℕ → Bool
completes code w g = at_call code w (λ k. leaves_by w g k || delays_by w g k || continues_by w g k)
