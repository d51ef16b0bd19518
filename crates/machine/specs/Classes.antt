-- Ready processes by their classes, and the selection
use Rattle.std.specs.Prelude.{ℕ, ltb, leb, eqb, get_or, set, Bool, false, ◌&&◌, not, List}
use Rattle.notation.specs.If.{if}
use Rattle.machine.specs.declared.Queue.{Queue}
use Rattle.machine.specs.declared.Machine.{Machine}
use Rattle.machine.specs.State.{nobody, no_queue, proc, ready, with, counted, more, with_process, with_class}
use Rattle.machine.specs.Queue.{first, pushed, rest}

-- h runs, or nobody does; no mark outlives who ran
unfoldable pub set_running : Machine → ℕ → Machine
set_running m h = counted (with m m.processes m.gates m.ready h) m.count false

-- h joins the tail of class c; the head of class c is taken off
abbrev pub joined : List Queue → ℕ → ℕ → List Queue
joined qs c h = set qs c (pushed (get_or qs c no_queue) h)

unfoldable pub push : Machine → ℕ → ℕ → Machine
push m c h = with m m.processes m.gates (joined m.ready c h) m.running

unfoldable pub pull : Machine → ℕ → Machine
pull m c = with m m.processes m.gates (set m.ready c (rest (ready m c))) m.running

-- "Woken processes and new holders join the tail of their class"
unfoldable pub wake : Machine → ℕ → Machine
wake m h = push m (proc m h).class h

-- the class of h is c
unfoldable pub set_class : Machine → ℕ → ℕ → Machine
set_class m h c = with_process m h (with_class (proc m h) c)

abbrev pub some_ready : Machine → ℕ → Bool
some_ready m c = ltb 0 (ready m c).len

-- the best class that is ready, or 3
unfoldable pub best : Machine → ℕ
best m = if (some_ready m 0) 0 (if (some_ready m 1) 1 (if (some_ready m 2) 2 3))

-- the head of class c runs
unfoldable pub start : Machine → ℕ → Machine
start m c = set_running (pull m c) (first (ready m c))

-- W-212: "after 8 of them the next selection, if class 2 is not empty, comes from it", and who is so taken has the mark
unfoldable pub due : Machine → Bool
due m = leb 8 m.count && some_ready m 2

-- the class that the next selection comes from, or 3
unfoldable pub source : Machine → ℕ
source m = if (due m) 2 (best m)

-- W-212: "Count selections made from class 0 or 1 while class 2 is not empty; (..) the count is 0 after any selection from class 2"
unfoldable pub count_from : Machine → ℕ → ℕ
count_from m c = if (eqb c 2) 0 (if (some_ready m 2) (more m.count 8) m.count)

-- a selection, where nobody runs and somebody is ready
unfoldable pub selection : Machine → Machine
selection m = counted (start m (source m)) (count_from m (source m)) (due m)

-- a running process goes to the tail of its own class
unfoldable pub aside : Machine → Machine
aside m = if (leb nobody m.running) m (wake (set_running m nobody) m.running)

-- "a running process with a strictly better class ready goes to the tail of its own and the head of the best class runs;
-- with nobody running likewise; with nobody ready the machine idles"
-- W-212: "A strictly better class no longer displaces a process so selected"
unfoldable pub selects : Machine → Bool
selects m =
    if (leb nobody m.running) (ltb (best m) 3)
    (not m.mark && ltb (best m) (proc m m.running).class && ltb (best m) 3)

unfoldable pub select : Machine → Machine
select m = if (selects m) (selection (aside m)) m
