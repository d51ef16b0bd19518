-- What the kernel's functions are given and answer, in the words of the definitions
use Rattle.std.specs.Prelude.{◌≡◌, Bool, true, false, ◌&&◌, List, [], Result, Ok, Err, ℕ, ◌+◌, ◌≤◌, ◌<◌, ltb, leb, length, get_or, set}
use Rattle.notation.specs.If.{if}
use Rattle.word.specs.declared.Fault.{Fault}
use Rattle.word.specs.Word.{number_of}
use Rattle.machine.specs.declared.Device.{Device}
use Rattle.machine.specs.declared.Gate.{Gate}
use Rattle.machine.specs.declared.Process.{Process}
use Rattle.machine.specs.declared.Machine.{Machine}
use Rattle.machine.specs.declared.Regs.{Regs}
use Rattle.machine.specs.State.{nobody, proc, device, timed, with_process, with_regs}
use Rattle.machine.specs.View.{marks}
use Rattle.machine.specs.Store.{World, own, whole}
use Rattle.machine.specs.Gate.{enter, leave, delay, continue, make_gate, may_enter, may_leave, may_delay, may_continue}
use Rattle.machine.specs.Clock.{clock_wait, bell_wait}
use Rattle.machine.specs.Device.{record_of, device_start, device_done}
use Rattle.machine.specs.Call.{Called, on, starts, stops, caller, create_process, finish, stop_job, kernel}
use Rattle.machine.specs.Step.{Ended, onward, starting, stopped}
use Rattle.machine.specs.Offer.{stores_fit}
use Rattle.kernel.specs.declared.answer.Act.{Act}
use Rattle.kernel.specs.declared.answer.Act.TheVariants.{Unfit, Stop, Go, WaitClock, WaitBell, Create, Finish, StopJob, Enter, Leave, Delay, Continue, MakeGate, Start}
use Rattle.kernel.specs.declared.answer.Decision.{Decision}
use Rattle.kernel.specs.declared.caller.Caller.{Caller}

-- a machine with its stores
abbrev pub world : Machine → List ℕ → List ℕ → World
world m c q = record { machine = m; common = c; private = q }

-- ---- what a call decides is a record of its caller and a move of the machine; what the move gives, and how the call ends
abbrev pub performed : Machine → Act → Machine
performed m Unfit = m
performed m (Stop f line) = timed m f line m.seconds m.fraction
performed m Go = m
performed m WaitClock = clock_wait m
performed m WaitBell = bell_wait m
performed m (Create t v) = create_process m t v
performed m Finish = finish m
performed m (StopJob q reason) = stop_job m q reason
performed m (Enter g) = enter m g
performed m (Leave g) = leave m g
performed m (Delay g c) = delay m g c
performed m (Continue g c) = continue m g c
performed m MakeGate = make_gate m
performed m (Start d operation a) = device_start m d operation a

abbrev pub end_of : Act → Ended
end_of Unfit = stopped
end_of (Stop f line) = stopped
end_of Go = onward
end_of WaitClock = onward
end_of WaitBell = onward
end_of (Create t v) = onward
end_of Finish = onward
end_of (StopJob q reason) = onward
end_of (Enter g) = onward
end_of (Leave g) = onward
end_of (Delay g c) = onward
end_of (Continue g c) = onward
end_of MakeGate = onward
end_of (Start d operation a) = starting d

-- the machine and the stores after a call, before the selection, and how it ended
pub record Outcome : Type 0 where
  pub machine : Machine
  pub common : List ℕ
  pub private : List ℕ
  pub end : Ended

-- the caller's record is put in its place, and the move is made
abbrev pub decided : Machine → Decision → List ℕ → List ℕ → Outcome
decided m x c q =
    record { machine = performed (with_process m m.running x.process) x.act; common = c; private = q; end = end_of x.act }

-- the cases of the definition: a call that stops the machine, at the caller's last line, changes nothing else
abbrev pub outcome : World → Called → Outcome
outcome w (on v) = record { machine = v.machine; common = v.common; private = v.private; end = onward }
outcome w (starts d v) = record { machine = v.machine; common = v.common; private = v.private; end = starting d }
outcome w (stops f) =
    record { machine = timed w.machine f (caller w).regs.line w.machine.seconds w.machine.fraction; common = w.common; private = w.private; end = stopped }

-- how a call leaves its caller: past KTRAP, with S at s; or with a fault, with which the machine stops at the caller's last line
abbrev pub gone : Caller → ℕ → Act → Decision
gone who s act =
    let r : Regs = who.process.regs in
    record { process = with_regs who.process (marks r (r.address + 2) r.line s r.b); act = act }

abbrev pub answered : Caller → Result Decision Fault → Decision
answered who (Ok x) = x
answered who (Err f) = record { process = who.process; act = Stop (number_of f) who.process.regs.line }

-- whether a move of a gate is no fault
abbrev pub may_make : Machine → Act → Bool
may_make m (Enter g) = may_enter m g
may_make m (Leave g) = may_leave m g
may_make m (Delay g c) = may_delay m g c
may_make m (Continue g c) = may_continue m g c
may_make m _ = true

-- word j of its caller's stack; and that a list is the k words that were pushed last, the last first
abbrev pub word_at : Caller → List ℕ → ℕ → ℕ
word_at who q j = get_or q (own who.number (who.process.regs.s + j)) 0

pub record Words (who : Caller) (k : ℕ) (q l : List ℕ) : Type 0 where
  pub there : who.process.regs.s + k ≤ who.process.regs.b
  pub each : (j : ℕ) → j < k → get_or l j 0 ≡ word_at who q j

-- ---- a function that is passed only a part of the world does what the definition does, whatever the rest is
abbrev pub OnMachine : Decision → Machine → (World → Called) → Type 0
OnMachine x m f = (c q : List ℕ) → decided m x c q ≡ outcome (world m c q) (f (world m c q))

abbrev pub OnPrivate : Decision → Machine → List ℕ → List ℕ → (World → Called) → Type 0
OnPrivate x m q q' f = (c : List ℕ) → decided m x c q' ≡ outcome (world m c q) (f (world m c q))

abbrev pub OnStores : Decision → Machine → List ℕ → List ℕ → List ℕ → List ℕ → (World → Called) → Type 0
OnStores x m c c' q q' f = decided m x c' q' ≡ outcome (world m c q) (f (world m c q))

-- ---- what a sound state gives of the caller: it runs, its stack lies in its part, and there is a KTRAP behind its address
pub record Able (who : Caller) : Type 0 where
  pub runs : who.number < 10
  pub made : 1 ≤ who.created
  pub few : who.made ≤ 25
  pub low : 2048 ≤ who.process.regs.s
  pub framed : who.process.regs.s ≤ who.process.regs.b
  pub high : who.process.regs.b ≤ 4096
  pub near : who.process.regs.address ≤ 16256

abbrev pub able : Caller → Bool
able who =
    let r : Regs = who.process.regs in
    ltb who.number 10
    && leb 1 who.created
    && leb who.made 25
    && leb 2048 r.s
    && leb r.s r.b
    && leb r.b 4096
    && leb r.address 16256

-- the caller, as a call is told of it
abbrev pub caller_of : Machine → Caller
caller_of m =
    record {
      number = m.running;
      process = proc m m.running;
      seconds = m.seconds;
      created = m.created;
      made = m.made;
      length = m.length;
      present = m.present;
      devices = m.devices;
    }

pub record Told (who : Caller) (m : Machine) : Type 0 where
  pub caller : who ≡ caller_of m
  pub there : m.running < length m.processes

-- ---- a decision for a caller, the processes, where the caller's own record is the one that is told, and the gates: for every
-- machine that has them, it comes to what the definition gives
abbrev pub Decides : Caller → List Process → List Gate → Decision → List ℕ → List ℕ → List ℕ → List ℕ → (World → Outcome) → Type 0
Decides who processes gates x c c' q q' f =
    (m : Machine)
    → who ≡ caller_of m
    → m.processes ≡ set processes who.number who.process
    → m.gates ≡ gates
    → decided m x c' q' ≡ f (world m c q)

-- of a caller that is not able there may be no such machine: nothing is done
abbrev pub LeavesUnfit : Caller → Decision → List ℕ → List ℕ → List ℕ → List ℕ → Type 0
LeavesUnfit who x c c' q q' = able who ≡ false → (x ≡ record { process = who.process; act = Unfit }) × (c' ≡ c) × (q' ≡ q)

-- the same of a caller that is able, by the call's own definition
abbrev pub CallOf : Caller → List Process → List Gate → ℕ → Decision → List ℕ → List ℕ → List ℕ → List ℕ → Type 0
CallOf who processes gates k x c c' q q' =
    (m : Machine)
    → Told who m
    → m.processes ≡ set processes who.number who.process
    → m.gates ≡ gates
    → OnStores x m c c' q q' (λ w. kernel w k)

-- the device, the operation and the record's address that call 11 has found on its caller's stack
abbrev pub Begins : Caller → ℕ → ℕ → ℕ → List ℕ → Type 0
Begins who d operation a q =
    (who.process.regs.s + 2 ≤ who.process.regs.b)
    × (d ≤ 4)
    × (operation ≤ 3)
    × (a ≤ 4092)
    × (a ≡ get_or q (own who.number (who.process.regs.s + 0)) 0)

-- the call, where the caller and the stores are as in a sound state; else it is not fit to begin, and nothing changes
unfoldable pub traps : World → ℕ → Outcome
traps w k =
    if (stores_fit w.common w.private && able (caller_of w.machine)) (outcome w (kernel w k))
    (record { machine = w.machine; common = w.common; private = w.private; end = stopped })

abbrev pub CallDecided : Caller → List Process → List Gate → ℕ → Decision → List ℕ → List ℕ → List ℕ → List ℕ → Type 0
CallDecided who processes gates k x c c' q q' =
    Decides who processes gates x c c' q q' (λ w. traps w k) × LeavesUnfit who x c c' q q'

-- ---- the record of a busy device; no words where there is no such device, it is not busy, or a store has the wrong length
unfoldable pub handed_back : World → ℕ → List ℕ
handed_back w d =
    if (stores_fit w.common w.private && ltb d 5 && whole (device w.machine d).address) (record_of w d) []

-- ---- the done event of a busy device with a record whole in one store; else nothing happens
unfoldable pub ends : World → ℕ → ℕ → ℕ → World
ends w d status arg =
    let x : Device = device w.machine d in
    if (stores_fit w.common w.private && ltb d 5 && (whole x.address && ltb x.process nobody)) (device_done w d status arg) w
