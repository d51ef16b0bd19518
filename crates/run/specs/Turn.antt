-- A turn: a burst of the running process, and what follows it
use Rattle.std.specs.Prelude.{List, ℕ, ◌+◌}
use Rattle.notation.specs.If.{if}
use Rattle.machine.specs.declared.Regs.{Regs}
use Rattle.machine.specs.declared.Machine.{Machine}
use Rattle.machine.specs.State.{proc, with_process, with_regs}
use Rattle.machine.specs.Store.{World, with_part}
use Rattle.machine.specs.Classes.{selects}
use Rattle.machine.specs.Call.{kernel}
use Rattle.machine.specs.Step.{view, onward, stopped, Stepped, stepped, selected, halted, called}
use Rattle.engine.specs.Burst.{Ending, at_budget, at_call, at_fault, at_jobs_end, unfit, Bursted, bursts}

-- the world with other registers of the running process, and other words of the common store and of that process's part
abbrev pub put : World → Regs → List ℕ → List ℕ → World
put w r common own =
    let i : ℕ = w.machine.running in
    record { machine = with_process w.machine i (with_regs (proc w.machine i) r); common = common; private = with_part i own w.private }

-- a step after k instructions
abbrev pub later : ℕ → Stepped → Stepped
later k s = stepped s.world s.ended (k + s.count)

-- after k instructions that led to the world v: the selection; the kernel call; the stop. From a sound state none is unfit
abbrev pub follows : Ending → World → ℕ → Stepped
follows at_budget v k = stepped (selected v) onward k
follows at_jobs_end v k = stepped (selected v) onward k
follows (at_call c) v k = later k (called v (kernel v c))
follows (at_fault f) v k = later k (halted v f)
follows unfit v k = stepped v stopped 0

abbrev pub turned : World → Bursted → Stepped
turned w x = follows x.ending (put w x.regs x.common x.own) x.count

unfoldable pub turn : List ℕ → ℕ → World → Stepped
turn code quota w = turned w (bursts quota (view code w))

-- a better class that is ready when the turn begins displaces the process after one instruction, unless it has the mark; and none becomes so
-- without the kernel
abbrev pub quota_of : Machine → ℕ → ℕ
quota_of m budget = if (selects m) 1 budget
