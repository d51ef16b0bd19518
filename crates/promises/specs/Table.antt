-- Document 01's worked examples: one statement over the definitions
use Rattle.std.specs.Prelude.{◌≡◌, true, false, List, [], ◌∷◌, ℕ, ◌-◌, negsuc, get_or, set, replicate}
use Rattle.word.specs.Word.{word_of, word, fault, add_w, div_w, range_w}
use Rattle.machine.specs.declared.Regs.{Regs}
use Rattle.machine.specs.declared.Machine.{Machine}
use Rattle.machine.specs.State.{nobody, gate, fresh, timed}
use Rattle.machine.specs.Queue.{queue_of}
use Rattle.machine.specs.View.{View, next}
use Rattle.machine.specs.Instruction.{instruct}
use Rattle.machine.specs.Classes.{select}
use Rattle.machine.specs.Gate.{cell, enter, leave, delay, continue, make_gate, may_enter, may_leave, may_delay, may_continue}
use Rattle.machine.specs.Clock.{clock_wait, clock_wake, tick}
use Rattle.machine.specs.Call.{create_process}

-- ---- a machine with processes 0 to 3 and gate 0, which process 0, running, has left
abbrev pub begun : Machine
begun = make_gate (fresh (record { edition = 1; length = 2; devices = 1; variables = 0 }))

abbrev pub child : Machine → Machine
child m = select (create_process m 0 0)

abbrev pub four : Machine
four = leave (child (child (child begun))) 0

-- the running process waits for the clock, and the next runs; all who wait for it wake
abbrev pub rests : Machine → Machine
rests m = select (clock_wait m)

abbrev pub wakes : Machine → Machine
wakes m = select (clock_wake m.clock.len m)

-- process 0 holds gate 0 and runs; processes 1 and 2 wait there, in this order
abbrev pub two_wait : Machine
two_wait = wakes (select (enter (select (enter (rests (enter four 0)) 0)) 0))

-- processes 1 and 2 are delayed in cells 0 and 1 of gate 0; process 0 holds it and runs; process 3 waits in place 1
abbrev pub delays : Machine → ℕ → Machine
delays m c = select (delay (enter m 0) 0 c)

abbrev pub two_delayed : Machine
two_delayed = wakes (select (enter (rests (enter (wakes (rests (delays (delays (rests four) 0) 1))) 0)) 0))

-- the operations one after the other, each followed by the selection
abbrev pub once : Machine
once = select (continue two_delayed 0 0)

abbrev pub twice : Machine
twice = select (continue once 0 1)

abbrev pub thrice : Machine
thrice = select (leave twice 0)

abbrev pub holder : Machine → ℕ
holder m = (gate m 0).holder

abbrev pub waiters : Machine → List ℕ
waiters m = queue_of (gate m 0).queue

-- ---- a job with stop 20 pending, at a FALSEJUMP on 1
abbrev pub job_regs : Regs
job_regs = record { address = 0; line = 5; s = 4001; b = 4002; c = 4002; in_job = true; saved_s = 4002; saved_b = 4010; saved_address = 1; p = 0; reason = 20 }

abbrev pub stop_pending : View
stop_pending =
    record { code = 21 ∷ 0 ∷ []; floor = 2048; holding = false; regs = job_regs; common = []; own = set (replicate 2048 0) (4001 - 2048) 1 }

abbrev pub gone_regs : Regs
gone_regs = record { address = 1; line = 5; s = 4001; b = 4010; c = 4096; in_job = false; saved_s = 0; saved_b = 0; saved_address = 0; p = 0; reason = 0 }

-- ---- the table
abbrev pub Table : Type 0
Table =
    -- 32767+1 fault 1; -32768 DIV -1 fault 1; -7 DIV 3 = -2; 7 DIV 0 fault 1; RANGE 1 10 at 10 and 11
    (add_w 32767 1 ≡ fault 1)
    × (div_w (word_of (negsuc 32767)) (word_of (negsuc 0)) ≡ fault 1)
    × (div_w (word_of (negsuc 6)) 3 ≡ word (word_of (negsuc 1)))
    × (div_w 7 0 ≡ fault 1)
    × (range_w 10 1 10 ≡ word 10)
    × (range_w 11 1 10 ≡ fault 3)
    -- enter open
    × (may_enter four 0 ≡ true)
    × (holder four ≡ nobody)
    × (holder (enter four 0) ≡ 0)
    -- leave with two waiters
    × (may_leave two_wait 0 ≡ true)
    × (waiters two_wait ≡ 1 ∷ 2 ∷ [])
    × (holder (leave two_wait 0) ≡ 1)
    × (waiters (leave two_wait 0) ≡ 2 ∷ [])
    -- delay and continue with none
    × (may_delay (enter four 0) 0 3 ≡ true)
    × (holder (delay (enter four 0) 0 3) ≡ nobody)
    × (cell (delay (enter four 0) 0 3) 0 3 ≡ 0)
    × (may_continue (enter four 0) 0 3 ≡ true)
    × (holder (continue (enter four 0) 0 3) ≡ nobody)
    -- k=1, d=2 held at the third operation
    × (waiters two_delayed ≡ 3 ∷ [])
    × (may_continue two_delayed 0 0 ≡ true)
    × (holder once ≡ 1)
    × (may_continue once 0 1 ≡ true)
    × (holder twice ≡ 2)
    × (may_leave twice 0 ≡ true)
    × (holder thrice ≡ 3)
    -- tick at 32,767 s and 9,990
    × ((tick (timed four 10 0 32767 9990)).seconds ≡ 0)
    × ((tick (timed four 10 0 32767 9990)).fraction ≡ 0)
    -- stop 20 at a FALSEJUMP on 1 gives 20
    × ((instruct stop_pending).out ≡ next gone_regs)
    × (get_or (instruct stop_pending).own (4001 - 2048) 0 ≡ 20)
