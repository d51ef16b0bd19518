-- Waiting and waking, the slices, the end of a process and a new one keep every process in its place
use mathlib.Core.Path.{◌≡◌, refl, subst}
use mathlib.Core.Bool.{Bool, true, false}
use Prim.Native.Nat.{ℕ, zero, suc, ◌+◌, ◌-◌, ◌<◌, ◌≤◌}
use native.Mathlib.Omega.{arith}
use lib.Dec.{ltb, leb, eqb}
use borrow.Author.Tests.{eq-eqb, ne_eqb, leb-false, ltb-true}
use Rattle.notation.specs.If.{if}
use Rattle.notation.proofs.Upto.{split}
use Rattle.machine.specs.declared.Process.{Process}
use Rattle.machine.specs.declared.Device.{Device}
use Rattle.machine.specs.declared.Machine.{Machine}
use Rattle.machine.specs.State.{nobody, proc, device, with_process}
use Rattle.machine.specs.Queue.{first, rest}
use Rattle.machine.specs.Classes.{set_running, push, wake, set_class, best}
use Rattle.machine.specs.Clock.{clock_wait, bell_wait, clock_one, clock_wake, bell_one, bell_wake, next_second, time_passes, fallen, sliced, yields, slice_passes, tick, bell}
use Rattle.machine.specs.Device.{with_device, device_start, device_end}
use Rattle.machine.specs.Call.{born, create_process, finish}
use Rattle.kept.proofs.Steady.{Steady, steady_sliced}
use Rattle.kept.proofs.Nearly.{works, Nearly, Placed, Sound, Alone, in_hand, in_run}
use Rattle.kept.proofs.Moves.{empty_hand, unmark, take_running, put-ready, line, with_line, lined, put-line, take-line, seat, put-device, remade, finished}
use Rattle.kept.proofs.Frames.{retimed}
use Rattle.kept.proofs.Born.{one-born}
use Rattle.kept.proofs.Selected.{select-sound}

-- ---- the running process, in no job, waits
module _ {m : Machine} (runs : m.running < nobody) (free : (proc m m.running).regs.in_job ≡ false) (f : Placed m) where
  pub clock_wait_kept : Placed (clock_wait m)
  unfolding clock_wait set_running
  clock_wait_kept = put-line true runs (λ _. free) (take_running f)

  pub bell_wait_kept : Placed (bell_wait m)
  unfolding bell_wait set_running
  bell_wait_kept = put-line false runs (λ _. free) (take_running f)

  pub device_start_kept : (d operation address : ℕ) → d < 5 → nobody ≤ (device m d).process
      → works m.present d (seat m.running operation address) ≡ true → Placed (device_start m d operation address)
  unfolding device_start set_running
  device_start_kept d operation address b n ok = empty_hand n (put-device d operation address b (λ _. free) (λ _. ok) (take_running f))

  -- it ends, where it holds none
  pub finish_kept : (proc m m.running).holds ≡ 0 → Placed (finish m)
  unfolding finish set_running
  finish_kept z = finished runs z (λ _. free) (take_running f)

-- ---- the waiters of the clock (true), or of the bell (false), wake in order
abbrev wakes_first : Bool → Machine → Machine
wakes_first b m = wake (with_line b m (rest (line b m))) (first (line b m))

first-woken : {m : Machine} (b : Bool) → 0 < (line b m).len → Placed m → Placed (wakes_first b m)
first-woken b l f = let c = (lined b f).each 0 l in put-ready (omega (arith, f.numbers.few)) (take-line b l f)

one_less : (b : Bool) (m : Machine) → (line b (wakes_first b m)).len ≡ (line b m).len - 1
unfolding wake push rest
one_less true m = refl
one_less false m = refl

abbrev wakes : Bool → ℕ → Machine → Machine
wakes true n m = clock_wake n m
wakes false n m = bell_wake n m

all_woken : {m : Machine} (b : Bool) (n : ℕ) → n ≤ (line b m).len → Placed m → Placed (wakes b n m)
unfolding clock_wake clock_one bell_wake bell_one
all_woken true zero l f = f
all_woken false zero l f = f
all_woken {m} true (suc n) l f = let e = one_less true m in all_woken {m = wakes_first true m} true n (omega arith) (first-woken true (omega arith) f)
all_woken {m} false (suc n) l f = let e = one_less false m in all_woken {m = wakes_first false m} false n (omega arith) (first-woken false (omega arith) f)

pub bell-sound : {m : Machine} → Placed m → Sound (bell m)
unfolding bell
bell-sound {m} f = select-sound (all_woken false m.bell.len (omega arith) f)

-- ---- another slice and class of one that is nowhere else
resliced : {m : Machine} {h x : ℕ} (p slice class : ℕ) → Alone m p → Steady m.length (sliced (proc m p) slice class) → Nearly m h x
    → Nearly (with_process m p (sliced (proc m p) slice class)) h x
resliced {m} p slice class o s f =
    remade p (sliced (proc m p) slice class) o.made refl refl refl s (λ c i t. absurd (omega (arith, o.ready c i)))
    (λ t. rw o.alive (omega (arith, o.waits))) f

-- ---- a device ends, and its process wakes
device-wakes : {m : Machine} {h x : ℕ} → h < nobody → Nearly m h x → Nearly (wake (set_class m h (if (eqb (proc m h).holds 0) 1 0)) h) nobody x
unfolding set_class
device-wakes {m} {h} b f =
    let p : Process = proc m h in
    let o = in_hand f b in
    let s = f.processes.each h o.made in
    let c : ℕ = if (eqb p.holds 0) 1 0 in
    put-ready b
    (resliced h p.slice c o
    (steady_sliced s p.slice c s.marks.short s.marks.tens
    (λ l. rw (ne_eqb p.holds 0 (λ e. omega arith)))
    (λ e. rw (eq-eqb p.holds 0 e) (omega arith))
    (split (eqb p.holds 0) (λ t. rw t (omega arith)) (λ t. rw t (omega arith)))) f)

pub device_end_kept : {m : Machine} (d : ℕ) → d < 5 → (device m d).process < nobody → Placed m → Placed (device_end m d)
unfolding device_end with_device
device_end_kept {m} d b busy f =
    let x : Device = device m d in
    device-wakes busy (put-device d x.operation x.address b (λ t. absurd (omega arith)) (λ t. absurd (omega arith)) f)

-- ---- a tick
next_second_lem : (s : ℕ) → next_second s ≤ 32767
next_second_lem s = split (ltb s 32767) (λ t. rw t (omega (arith, ltb-true s 32767 t))) (λ t. rw t (omega arith))

time_kept : {m : Machine} → Placed m → Placed (time_passes m)
unfolding time_passes
time_kept {m} f =
    let n = f.numbers in
    let k : ℕ = m.fraction + 10 in
    split (leb 10000 k)
    (λ t. rw t
    (all_woken true m.clock.len (omega arith)
    (retimed m.stop m.line (next_second m.seconds) 0 (omega arith) refl (next_second_lem m.seconds) n.stop f)))
    (λ t.
    let l = leb-false 10000 k t in
    rw t (retimed m.stop m.line m.seconds k (omega (arith, n.tens)) (omega (arith, n.tens)) n.seconds n.stop f))

-- time passes over who runs
clock-runs : (n : ℕ) (m : Machine) → (clock_wake n m).running ≡ m.running
unfolding clock_wake clock_one wake push
clock-runs zero m = refl
clock-runs (suc n) m = clock-runs n (clock_one m)

time_runs : (m : Machine) → (time_passes m).running ≡ m.running
unfolding time_passes
time_runs m = split (leb 10000 (m.fraction + 10)) (λ t. rw t (clock-runs m.clock.len _)) (λ t. rw t)

yields_kept : {m : Machine} → m.running < nobody → Placed m → Placed (yields m m.running)
unfolding yields
yields_kept {m} b f = split (leb (best m) (proc m m.running).class) (λ t. rw t (put-ready b (take_running f))) (λ t. rw t f)

slice_kept : {m : Machine} → m.running < nobody → Placed m → Placed (slice_passes m m.running)
unfolding slice_passes with_process
slice_kept {m} b f =
    let r : ℕ = m.running in
    let p : Process = proc m r in
    let o = in_run f b in
    let s = f.processes.each r o.made in
    split (leb 200 (p.slice + 10))
    (λ t. rw t
    (yields_kept b
    (resliced r 0 (fallen p.class) (in_run (unmark f) b)
    (steady_sliced s 0 (fallen p.class) (omega arith) refl
    (λ l. rw (ne_eqb p.class 1 (λ u. omega (arith, s.zero l))) (s.zero l))
    (λ e. split (eqb p.class 1) (λ u. rw u (omega arith)) (λ u. rw u (s.some e)))
    (split (eqb p.class 1) (λ u. rw u (omega arith)) (λ u. rw u s.two))) (unmark f))))
    (λ t.
    let l = leb-false 200 (p.slice + 10) t in
    let tens = s.marks.tens in
    rw t
    (resliced r (p.slice + 10) p.class o
    (steady_sliced s (p.slice + 10) p.class (omega arith) (omega arith) s.zero s.some s.two) f))

pub tick-sound : {m : Machine} → Placed m → Sound (tick m)
unfolding tick
tick-sound {m} f =
    split (leb nobody m.running)
    (λ t. rw t (select-sound (time_kept f)))
    (λ t.
    let e = time_runs m in
    let b : (time_passes m).running < nobody = omega (arith, leb-false nobody m.running t) in
    rw t (select-sound (subst (λ h. Placed (slice_passes (time_passes m) h)) e (slice_kept b (time_kept f)))))

-- ---- a new process: the parent goes to the tail of its class
pub create_kept : {m : Machine} (address v : ℕ) → m.running < nobody → m.created < nobody → address ≤ m.length → v ≤ 1024
    → Placed m → Placed (create_process m address v)
unfolding create_process set_running wake push born
create_kept {m} address v b c code small f =
    put-ready c (one-born address v c code small (put-ready b (take_running f)))
