-- What moves do to the parts of the machine that they change, as the code does it: no definition of document 01 rests on this,
-- and that each move of the machine is so made is proved
use Rattle.std.specs.Prelude.{List, ℕ, zero, suc, ◌+◌, leb, get_or}
use Rattle.notation.specs.If.{if}
use Rattle.machine.specs.declared.Queue.{Queue}
use Rattle.machine.specs.declared.Process.{Process}
use Rattle.machine.specs.declared.Machine.{Machine}
use Rattle.machine.specs.declared.classes.Selection.{Selection}
use Rattle.machine.specs.State.{no_process, with, counted}
use Rattle.machine.specs.Queue.{first, rest}
use Rattle.machine.specs.Classes.{joined}
use Rattle.machine.specs.Clock.{fallen, sliced}

-- ---- the machine with what a selection changes
abbrev pub afterwards : Machine → Selection → Machine
afterwards m r = counted (with m m.processes m.gates r.ready r.running) r.count r.mark

-- ---- who waits for the clock or the bell wakes: the ready queues, and who still waits
pub record Waking : Type 0 where
  pub ready : List Queue
  pub waiters : Queue

unfoldable pub one_woken : List Process → Waking → Waking
one_woken ps w =
    let h : ℕ = first w.waiters in
    record { ready = joined w.ready (get_or ps h no_process).class h; waiters = rest w.waiters }

unfoldable pub woken : ℕ → List Process → Waking → Waking
woken zero ps w = w
woken (suc k) ps w = woken k ps (one_woken ps w)

-- ---- a process's own record as its slice grows
abbrev pub aged : Process → Process
aged p = if (leb 200 (p.slice + 10)) (sliced p 0 (fallen p.class)) (sliced p (p.slice + 10) p.class)
