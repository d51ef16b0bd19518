-- Gates: enter, leave, delay, continue, new gate
use Rattle.std.specs.Prelude.{Bool, ◌&&◌, not, ℕ, ◌+◌, ◌-◌, ltb, leb, eqb, get_or, set, List}
use Rattle.notation.specs.If.{if}
use Rattle.machine.specs.declared.Queue.{Queue}
use Rattle.machine.specs.declared.Process.{Process}
use Rattle.machine.specs.declared.Machine.{Machine}
use Rattle.machine.specs.State.{nobody, proc, gate, with, parts, more, changed}
use Rattle.machine.specs.Queue.{first, pushed, rest}
use Rattle.machine.specs.Classes.{set_running, wake}

-- ---- the gates that a process holds, in the order entered: with g as the latest, for which a sound state has room (else nothing changes), and without the latest
-- "Class 0 while holding a gate"; "Giving up the last gate held, by a delay too, makes it 2"
abbrev pub latest : Process → ℕ
latest p = get_or p.held (p.holds - 1) 0

unfoldable pub entered : Process → ℕ → Process
entered p g =
    if (ltb p.holds 8) (changed p p.regs p.slice 0 (p.holds + 1) (set p.held p.holds g) p.ended) p

unfoldable pub given : Process → Process
given p = changed p p.regs p.slice (if (leb p.holds 1) 2 0) (p.holds - 1) p.held p.ended

-- ---- a gate with its holder, its waiters and its cells
abbrev pub with_gate : Machine → ℕ → ℕ → Queue → List ℕ → Machine
with_gate m g holder queue cells =
    with m m.processes (set m.gates g (record { holder = holder; queue = queue; cells = cells })) m.ready m.running

-- h waits last at g; the first waiter of g is taken off; x sits in cell c of g
unfoldable pub join : Machine → ℕ → ℕ → Machine
join m g h = with_gate m g (gate m g).holder (pushed (gate m g).queue h) (gate m g).cells

unfoldable pub advance : Machine → ℕ → Machine
advance m g = with_gate m g (gate m g).holder (rest (gate m g).queue) (gate m g).cells

unfoldable pub sit : Machine → ℕ → ℕ → ℕ → Machine
sit m g c x = with_gate m g (gate m g).holder (gate m g).queue (set (gate m g).cells c x)

-- h becomes holder of g; h gives g up
unfoldable pub grant : Machine → ℕ → ℕ → Machine
grant m g h =
    with m
    (set m.processes h (entered (proc m h) g))
    (set m.gates g (record { holder = h; queue = (gate m g).queue; cells = (gate m g).cells }))
    m.ready
    m.running

unfoldable pub give_up : Machine → ℕ → ℕ → Machine
give_up m g h =
    with m
    (set m.processes h (given (proc m h)))
    (set m.gates g (record { holder = nobody; queue = (gate m g).queue; cells = (gate m g).cells }))
    m.ready
    m.running

-- a process that waited or sat holds g, and is ready; the first waiter holds, else the gate, given up before, is open
unfoldable pub pass : Machine → ℕ → ℕ → Machine
pass m g h = wake (grant m g h) h

unfoldable pub hand_on : Machine → ℕ → Machine
hand_on m g = if (eqb (gate m g).queue.len 0) m (pass (advance m g) g (first (gate m g).queue))

-- ---- the operations of the running process, where no fault forbids them
-- "Enter: open, the caller holds it; shut, the caller waits last"
unfoldable pub enter : Machine → ℕ → Machine
enter m g =
    if (leb nobody (gate m g).holder) (grant m g m.running) (join (set_running m nobody) g m.running)

-- "Leave: the first waiter holds, else the gate opens"
unfoldable pub leave : Machine → ℕ → Machine
leave m g = hand_on (give_up m g m.running) g

-- "Delay: the caller sits in the cell, and the gate is given up as in leave"
unfoldable pub delay : Machine → ℕ → ℕ → Machine
delay m g c = hand_on (sit (give_up (set_running m nobody) g m.running) g c m.running) g

abbrev pub cell : Machine → ℕ → ℕ → ℕ
cell m g c = get_or (gate m g).cells c 0

-- "Continue: the caller is out; the process in the cell holds, or if the cell is empty, as in leave"
unfoldable pub continue : Machine → ℕ → ℕ → Machine
continue m g c =
    if (leb nobody (cell m g c)) (leave m g)
    (pass (sit (give_up m g m.running) g c nobody) g (cell m g c))

-- "new gate, shut and held by the caller"
unfoldable pub make_gate : Machine → Machine
make_gate m =
    grant (parts m m.processes m.gates m.ready m.clock m.bell m.devices m.running m.created (more m.made 25))
    m.made
    m.running

-- ---- "Fault 8: no such gate; entering one already held or a ninth; leave, delay or continue on other than the latest entered;
-- cell not 0 to 7; delay on a filled cell"
unfoldable pub may_enter : Machine → ℕ → Bool
may_enter m g =
    ltb g m.made && not (eqb (gate m g).holder m.running) && ltb (proc m m.running).holds 8

unfoldable pub may_leave : Machine → ℕ → Bool
may_leave m g =
    ltb g m.made && ltb 0 (proc m m.running).holds && eqb (latest (proc m m.running)) g

unfoldable pub may_continue : Machine → ℕ → ℕ → Bool
may_continue m g c = may_leave m g && leb c 7

unfoldable pub may_delay : Machine → ℕ → ℕ → Bool
may_delay m g c = may_continue m g c && leb nobody (cell m g c)
