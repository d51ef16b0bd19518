-- What leaves every gate as it was: the selection, the clock, the bell, the devices, a process that starts or ends
use mathlib.Core.Path.{◌≡◌, refl, ◌∙◌}
use Prim.Native.Nat.{ℕ, zero, suc, ◌+◌}
use lib.Dec.{leb, eqb}
use Rattle.notation.proofs.Upto.{split}
use Rattle.machine.specs.declared.Machine.{Machine}
use Rattle.machine.specs.State.{nobody, proc, with_process}
use Rattle.machine.specs.Classes.{set_running, push, pull, wake, set_class, best, start, selection, aside, selects, select}
use Rattle.machine.specs.Clock.{clock_one, clock_wake, bell_one, bell_wake, time_passes, yields, slice_passes, tick, bell}
use Rattle.machine.specs.Device.{with_device, device_end}
use Rattle.machine.specs.Call.{stop_answer, stop_job, born, create_process}

pub select-gates : (m : Machine) → (select m).gates ≡ m.gates
unfolding select selection aside start set_running pull wake push
select-gates m =
    split (selects m)
    (λ t. split (leb nobody m.running) (λ u. rw (t, u)) (λ u. rw (t, u)))
    (λ t. rw t)

clock-gates : (n : ℕ) (m : Machine) → (clock_wake n m).gates ≡ m.gates
unfolding clock_wake clock_one wake push
clock-gates zero m = refl
clock-gates (suc n) m = clock-gates n (clock_one m)

bells_gates : (n : ℕ) (m : Machine) → (bell_wake n m).gates ≡ m.gates
unfolding bell_wake bell_one wake push
bells_gates zero m = refl
bells_gates (suc n) m = bells_gates n (bell_one m)

time_gates : (m : Machine) → (time_passes m).gates ≡ m.gates
unfolding time_passes
time_gates m = split (leb 10000 (m.fraction + 10)) (λ t. rw t (clock-gates m.clock.len _)) (λ t. rw t)

yields-gates : (m : Machine) (h : ℕ) → (yields m h).gates ≡ m.gates
unfolding yields wake push set_running
yields-gates m h = split (leb (best m) (proc m h).class) (λ t. rw t) (λ t. rw t)

slice_gates : (m : Machine) (h : ℕ) → (slice_passes m h).gates ≡ m.gates
unfolding slice_passes with_process
slice_gates m h = split (leb 200 ((proc m h).slice + 10)) (λ t. rw t (yields-gates _ h)) (λ t. rw t)

pub tick-gates : (m : Machine) → (tick m).gates ≡ m.gates
unfolding tick
tick-gates m =
    select-gates _
    ∙ split (leb nobody m.running) (λ t. rw t (time_gates m)) (λ t. rw t (slice_gates (time_passes m) m.running ∙ time_gates m))

pub bell-gates : (m : Machine) → (bell m).gates ≡ m.gates
unfolding bell
bell-gates m = select-gates _ ∙ bells_gates m.bell.len m

pub done_gates : (m : Machine) (d : ℕ) → (select (device_end m d)).gates ≡ m.gates
unfolding device_end wake push set_class with_process with_device
done_gates m d = select-gates (device_end m d)

pub create_gates : (m : Machine) (t v : ℕ) → (create_process m t v).gates ≡ m.gates
unfolding create_process born wake push set_running
create_gates m t v = refl

pub stop_gates : (m : Machine) (q reason : ℕ) → (stop_job m q reason).gates ≡ m.gates
unfolding stop_job with_process
stop_gates m q reason = split (eqb (stop_answer m q reason) 0) (λ t. rw t) (λ t. rw t)
