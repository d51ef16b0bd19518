-- The clock and the bell: who waits for them, and how they wake
use Rattle.std.specs.Prelude.{ℕ, zero, suc, ◌+◌, false, leb, ltb, eqb}
use Rattle.notation.specs.If.{if}
use Rattle.machine.specs.declared.Process.{Process}
use Rattle.machine.specs.declared.Machine.{Machine}
use Rattle.machine.specs.State.{nobody, proc, timed, counted, with_waits, with_process, changed}
use Rattle.machine.specs.Queue.{first, pushed, rest}
use Rattle.machine.specs.Classes.{set_running, wake, best, select}

-- the running process waits for the next second; it waits for the bell
unfoldable pub clock_wait : Machine → Machine
clock_wait m = with_waits (set_running m nobody) (pushed m.clock m.running) m.bell m.devices

unfoldable pub bell_wait : Machine → Machine
bell_wait m = with_waits (set_running m nobody) m.clock (pushed m.bell m.running) m.devices

-- the first waiter wakes; n of them wake, in order
unfoldable pub clock_one : Machine → Machine
clock_one m = wake (with_waits m (rest m.clock) m.bell m.devices) (first m.clock)

unfoldable pub clock_wake : ℕ → Machine → Machine
clock_wake zero m = m
clock_wake (suc k) m = clock_wake k (clock_one m)

unfoldable pub bell_one : Machine → Machine
bell_one m = wake (with_waits m m.clock (rest m.bell) m.devices) (first m.bell)

unfoldable pub bell_wake : ℕ → Machine → Machine
bell_wake zero m = m
bell_wake (suc k) m = bell_wake k (bell_one m)

-- "At 10,000 the fraction returns to 0, seconds grow (32,767 goes to 0), and all waiting for the clock wake in order"
abbrev pub next_second : ℕ → ℕ
next_second s = if (ltb s 32767) (s + 1) 0

unfoldable pub time_passes : Machine → Machine
time_passes m =
    if (leb 10000 (m.fraction + 10))
    (clock_wake m.clock.len (timed m m.stop m.line (next_second m.seconds) 0))
    (timed m m.stop m.line m.seconds (m.fraction + 10))

-- "class 1 falls to 2, and the process goes to the tail if one of its class or better is ready"
abbrev pub fallen : ℕ → ℕ
fallen c = if (eqb c 1) 2 c

abbrev pub sliced : Process → ℕ → ℕ → Process
sliced p slice class = changed p p.regs slice class p.holds p.held p.ended

unfoldable pub yields : Machine → ℕ → Machine
yields m h = if (leb (best m) (proc m h).class) (wake (set_running m nobody) h) m

-- "The running process's slice grows by 10; at 200 it is 0 again"; the mark ends there, also of one that runs on
unfoldable pub slice_passes : Machine → ℕ → Machine
slice_passes m h =
    let p : Process = proc m h in
    if (leb 200 (p.slice + 10))
    (yields (with_process (counted m m.count false) h (sliced p 0 (fallen p.class))) h)
    (with_process m h (sliced p (p.slice + 10) p.class))

-- "Tick: 10 units of 1/10,000 s", and the selection after it
unfoldable pub tick : Machine → Machine
tick m = select (if (leb nobody m.running) (time_passes m) (slice_passes (time_passes m) m.running))

-- "Bell: all its waiters wake in order"
unfoldable pub bell : Machine → Machine
bell m = select (bell_wake m.bell.len m)
