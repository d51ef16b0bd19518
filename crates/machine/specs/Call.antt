-- The kernel calls of document 01, numbers 0 to 11, by the running process
use Rattle.std.specs.Prelude.{Bool, true, ◌&&◌, ◌||◌, not, List, ◌++◌, ℕ, ◌+◌, ◌-◌, ◌*◌, ltb, leb, eqb, get_or, set, take, drop, replicate}
use Rattle.notation.specs.If.{if}
use Rattle.notation.specs.Upto.{list_to}
use Rattle.machine.specs.declared.Regs.{Regs}
use Rattle.machine.specs.declared.Process.{Process}
use Rattle.machine.specs.declared.Machine.{Machine}
use Rattle.machine.specs.State.{nobody, proc, floor_of, parts, more, started, with_process, with_regs, changed}
use Rattle.machine.specs.Store.{World, own, place_of, whole, word_in}
use Rattle.machine.specs.View.{marks}
use Rattle.machine.specs.Classes.{set_running, wake}
use Rattle.machine.specs.Gate.{enter, leave, delay, continue, make_gate, may_enter, may_leave, may_delay, may_continue}
use Rattle.machine.specs.Clock.{clock_wait, bell_wait}
use Rattle.machine.specs.Device.{is_present, is_busy, device_start, with_word}

-- what a call does: the world goes on; it goes on and a device has started; the machine stops with a number, and nothing else changes
pub data Called : Type 0 where
  on : World → Called
  starts : ℕ → World → Called
  stops : ℕ → Called

-- ---- the caller, its floor L, and word j of its stack
abbrev pub caller : World → Process
caller w = proc w.machine w.machine.running

abbrev pub floor : World → ℕ
floor w = floor_of (caller w)

abbrev pub stack_word : World → ℕ → ℕ
stack_word w j = get_or w.private (own w.machine.running ((caller w).regs.s + j)) 0

abbrev pub has_words : World → ℕ → Called → Called
has_words w k x = if (leb ((caller w).regs.s + k) (caller w).regs.b) x (stops 7)

abbrev pub has_room : World → Called → Called
has_room w x = if (leb (floor w + 1) (caller w).regs.s) x (stops 6)

-- the caller has gone past KTRAP, with S at s
unfoldable pub passed : Machine → ℕ → Machine
passed m s =
    let p : Process = proc m m.running in
    let r : Regs = p.regs in
    with_process m m.running (with_regs p (marks r (r.address + 2) r.line s r.b))

-- the caller has gone past KTRAP, and its stack is k words shorter
abbrev pub popped : World → ℕ → Machine
popped w k = passed w.machine ((caller w).regs.s + k)

abbrev pub same : World → Machine → World
same w m = record { machine = m; common = w.common; private = w.private }

-- and a word stands at the caller's S
abbrev pub with_top : World → Machine → ℕ → World
with_top w m x =
    record { machine = m; common = w.common; private = set w.private (own m.running (proc m m.running).regs.s) x }

-- ---- 0 wait for the next second. 1 push seconds. 2 pop r, stop the machine with r (0 to 6, else 7)
unfoldable pub call0 : World → Called
call0 w = on (same w (clock_wait (popped w 0)))

unfoldable pub call1 : World → Called
call1 w = has_room w (on (with_top w (passed w.machine ((caller w).regs.s - 1)) w.machine.seconds))

unfoldable pub call2 : World → Called
call2 w = has_words w 1 (stops (if (leb (stack_word w 0) 6) (stack_word w 0) 7))

-- ---- 3 new process: pop t, v, p, then p words
-- the child's record, as process 0 started
unfoldable pub born : Machine → ℕ → ℕ → Machine
born m t v =
    parts m
    (set m.processes m.created (started t v))
    m.gates
    m.ready
    m.clock
    m.bell
    m.devices
    m.running
    (more m.created 10)
    m.made

-- W-212: "the parent goes to the tail of its class as before, a new child then always joins class 2, and a selection follows":
-- it starts in class 2
unfoldable pub create_process : Machine → ℕ → ℕ → Machine
create_process m t v = wake (born (wake (set_running m nobody) m.running) t v) m.created

-- "its part is cleared, then the p words stand first in the order pushed": the first pushed lies deepest
unfoldable pub new_part : World → ℕ → List ℕ
new_part w p =
    let at : ℕ = 2048 * w.machine.created in
    take at w.private ++ (list_to (λ k. stack_word w (2 + p - k)) p ++ (replicate (2048 - p) 0 ++ drop (at + 2048) w.private))

-- "by process 0 only and ten at most (9), v 0 to 1,024 and p 0 to v (3); fewer than p further words is 7, tested after these"
unfoldable pub call3 : World → Called
call3 w =
    let t : ℕ = stack_word w 0 in
    let v : ℕ = stack_word w 1 in
    let p : ℕ = stack_word w 2 in
    has_words w 3
    (if (not (eqb w.machine.running 0) || leb 10 w.machine.created) (stops 9)
    (if (ltb 1024 v || ltb v p) (stops 3)
    (has_words w (3 + p)
    (if (leb w.machine.length t) (stops 7)
    (on (record { machine = create_process (popped w (3 + p)) t v; common = w.common; private = new_part w p }))))))

-- ---- 4 end (8 while holding)
abbrev pub over : Process → Process
over p = changed p p.regs p.slice p.class p.holds p.held true

unfoldable pub finish : Machine → Machine
finish m = with_process (set_running m nobody) m.running (over (proc m m.running))

unfoldable pub call4 : World → Called
call4 w = if (ltb 0 (caller w).holds) (stops 8) (on (same w (finish (popped w 0))))

-- ---- 5 stop job: pop reason, process; "push 0, or 1 no such process, 2 no job, 3 reason outside 16 to 255, 4 already stopped"
unfoldable pub stop_answer : Machine → ℕ → ℕ → ℕ
stop_answer m q reason =
    if (leb m.created q) 1
    (if (not (proc m q).regs.in_job) 2
    (if (ltb reason 16 || ltb 255 reason) 3
    (if (not (eqb (proc m q).regs.reason 0)) 4
    0)))

abbrev pub stopping : Regs → ℕ → Regs
stopping r reason =
    record { address = r.address; line = r.line; s = r.s; b = r.b; c = r.c; in_job = r.in_job; saved_s = r.saved_s; saved_b = r.saved_b; saved_address = r.saved_address; p = r.p; reason = reason }

unfoldable pub stop_job : Machine → ℕ → ℕ → Machine
stop_job m q reason =
    if (eqb (stop_answer m q reason) 0)
    (with_process m q (with_regs (proc m q) (stopping (proc m q).regs reason)))
    m

unfoldable pub call5 : World → Called
call5 w =
    has_words w 2
    (on (with_top w (stop_job (popped w 1) (stack_word w 1) (stack_word w 0)) (stop_answer w.machine (stack_word w 1) (stack_word w 0))))

-- ---- 6 enter, 7 leave: pop gate
abbrev pub on_gate : World → (Machine → ℕ → Bool) → (Machine → ℕ → Machine) → Called
on_gate w may act =
    has_words w 1 (if (may w.machine (stack_word w 0)) (on (same w (act (popped w 1) (stack_word w 0)))) (stops 8))

unfoldable pub call6 : World → Called
call6 w = on_gate w may_enter enter

unfoldable pub call7 : World → Called
call7 w = on_gate w may_leave leave

-- 8 delay, 9 continue: pop cell, gate
abbrev pub on_cell : World → (Machine → ℕ → ℕ → Bool) → (Machine → ℕ → ℕ → Machine) → Called
on_cell w may act =
    has_words w 2
    (if (may w.machine (stack_word w 1) (stack_word w 0)) (on (same w (act (popped w 2) (stack_word w 1) (stack_word w 0)))) (stops 8))

unfoldable pub call8 : World → Called
call8 w = on_cell w may_delay delay

unfoldable pub call9 : World → Called
call9 w = on_cell w may_continue continue

-- ---- 10 new gate; push its number (9, then 8)
unfoldable pub call10 : World → Called
call10 w =
    if (leb 25 w.machine.made) (stops 9)
    (if (leb 8 (caller w).holds) (stops 8)
    (has_room w (on (with_top w (make_gate (passed w.machine ((caller w).regs.s - 1))) w.machine.made))))

-- ---- 11 I/O: pop record address, device
-- the caller goes on or waits, with the status in its record
abbrev pub reports : World → Machine → ℕ → World
reports w m status = with_word (same w m) w.machine.running (stack_word w 0 + 1) status

-- "Absent or busy device: status 3, caller goes on. Else status 0, the caller waits and the device starts.
-- Control (3) on device 0, if present, busy or not, sets status 0, waits for the bell instead"
unfoldable pub io_begins : World → ℕ → ℕ → Called
io_begins w d operation =
    let m : Machine = w.machine in
    if (eqb d 0 && eqb operation 3 && is_present m 0) (on (reports w (bell_wait (popped w 2)) 0))
    (if (not (is_present m d) || is_busy m d) (on (reports w (popped w 2) 3))
    (starts d (reports w (device_start (popped w 2) d operation (stack_word w 0)) 0)))

-- "The four words (..) lie whole in one store, else 2"; "Device and operation out of range are 3"
unfoldable pub call11 : World → Called
call11 w =
    let d : ℕ = stack_word w 1 in
    let operation : ℕ = word_in (place_of (stack_word w 0)) w.machine.running w.common w.private in
    has_words w 2
    (if (whole (stack_word w 0)) (if (leb d 4 && leb operation 3) (io_begins w d operation) (stops 3)) (stops 2))

-- ---- KTRAP k
unfoldable pub kernel : World → ℕ → Called
kernel w k =
    if (eqb k 0) (call0 w)
    (if (eqb k 1) (call1 w)
    (if (eqb k 2) (call2 w)
    (if (eqb k 3) (call3 w)
    (if (eqb k 4) (call4 w)
    (if (eqb k 5) (call5 w)
    (if (eqb k 6) (call6 w)
    (if (eqb k 7) (call7 w)
    (if (eqb k 8) (call8 w)
    (if (eqb k 9) (call9 w)
    (if (eqb k 10) (call10 w)
    (if (eqb k 11) (call11 w)
    (stops 7))))))))))))
