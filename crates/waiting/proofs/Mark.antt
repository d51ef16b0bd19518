-- A mark holds against every selection; waking changes neither who runs nor the mark
use mathlib.Core.Path.{◌≡◌, refl, sym, ap, subst, ◌∙◌}
use mathlib.Core.Bool.{Bool, true, false, ◌&&◌, not}
use Prim.Native.Nat.{ℕ, zero, suc, ◌+◌, ◌<◌, ◌≤◌}
use native.Mathlib.Omega.{arith}
use lib.Dec.{leb, ltb, eqb}
use borrow.Author.Tests.{lt-leb, le-leb}
use Rattle.notation.specs.If.{if}
use Rattle.notation.proofs.Upto.{split}
use Rattle.machine.specs.declared.Machine.{Machine}
use Rattle.machine.specs.State.{nobody, proc, gate, with_process}
use Rattle.machine.specs.Classes.{push, wake, set_class, best, selects, select}
use Rattle.machine.specs.Clock.{clock_one, clock_wake, bell_one, bell_wake, time_passes, slice_passes, tick, bell}
use Rattle.machine.specs.Device.{with_device, device_end}
use Rattle.machine.specs.Gate.{cell, advance, sit, grant, give_up, pass, hand_on, enter, leave, continue, make_gate}
use Rattle.waiting.specs.Mark.{KeepsIt, MarkHolds}

-- who runs, and the mark
record Same (m v : Machine) : Type 0 where
  runs : v.running ≡ m.running
  mark : v.mark ≡ m.mark

no_selection : (m : Machine) → m.running < nobody → m.mark ≡ true → selects m ≡ false
unfolding selects
no_selection m b e =
    subst (λ (k : Bool). if (leb nobody m.running) (ltb (best m) 3) (not k && ltb (best m) (proc m m.running).class && ltb (best m) 3) ≡ false) (sym e)
    (rw (lt-leb nobody m.running b))

stays : (m : Machine) → m.running < nobody → m.mark ≡ true → select m ≡ m
unfolding select
stays m b e = rw (no_selection m b e)

keeps : (m v : Machine) → m.running < nobody → m.mark ≡ true → Same m v → KeepsIt m (select v)
keeps m v b e s =
    let z = stays v (omega (arith, s.runs)) (s.mark ∙ e) in
    (ap (λ (x : Machine). x.running) z ∙ s.runs, ap (λ (x : Machine). x.mark) z ∙ s.mark ∙ e)

clock-same : (n : ℕ) (m v : Machine) → Same m v → Same m (clock_wake n v)
unfolding clock_wake clock_one wake push
clock-same zero m v s = s
clock-same (suc n) m v s = clock-same n m (clock_one v) (record { runs = s.runs; mark = s.mark })

bell-same : (n : ℕ) (m v : Machine) → Same m v → Same m (bell_wake n v)
unfolding bell_wake bell_one wake push
bell-same zero m v s = s
bell-same (suc n) m v s = bell-same n m (bell_one v) (record { runs = s.runs; mark = s.mark })

clock-processes : (n : ℕ) (m : Machine) → (clock_wake n m).processes ≡ m.processes
unfolding clock_wake clock_one wake push
clock-processes zero m = refl
clock-processes (suc n) m = clock-processes n (clock_one m)

time_same : (m : Machine) → Same m (time_passes m)
unfolding time_passes
time_same m =
    split (leb 10000 (m.fraction + 10))
    (λ t. rw t (clock-same m.clock.len m _ (record { runs = refl; mark = refl })))
    (λ t. rw t (record { runs = refl; mark = refl }))

time_processes : (m : Machine) → (time_passes m).processes ≡ m.processes
unfolding time_passes
time_processes m = split (leb 10000 (m.fraction + 10)) (λ t. rw t (clock-processes m.clock.len _)) (λ t. rw t)

slice_same : (m : Machine) (h : ℕ) → (proc m h).slice + 10 < 200 → Same m (slice_passes m h)
unfolding slice_passes with_process
slice_same m h b = rw (lt-leb 200 ((proc m h).slice + 10) b) (record { runs = refl; mark = refl })

then_same : {m v u : Machine} → Same m v → Same v u → Same m u
then_same a b = record { runs = b.runs ∙ a.runs; mark = b.mark ∙ a.mark }

-- ---- at a gate
on_same : (m v : Machine) (g : ℕ) → Same m v → Same m (hand_on v g)
unfolding hand_on pass advance grant wake push
on_same m v g s =
    split (eqb (gate v g).queue.len 0)
    (λ t. rw t s)
    (λ t. rw t (record { runs = s.runs; mark = s.mark }))

leave_same : (m : Machine) (g : ℕ) → Same m (leave m g)
unfolding leave give_up
leave_same m g = on_same m (give_up m g m.running) g (record { runs = refl; mark = refl })

continue-same : (m : Machine) (g c : ℕ) → Same m (continue m g c)
unfolding continue pass sit give_up grant wake push
continue-same m g c =
    split (leb nobody (cell m g c))
    (λ t. rw t (leave_same m g))
    (λ t. rw t (record { runs = refl; mark = refl }))

enter-same : (m : Machine) (g : ℕ) → nobody ≤ (gate m g).holder → Same m (enter m g)
unfolding enter grant
enter-same m g l = rw (le-leb nobody (gate m g).holder l) (record { runs = refl; mark = refl })

pub mark-holds : MarkHolds
unfolding bell tick device_end set_class with_process with_device wake push make_gate grant
mark-holds m b e = (
  stays m b e,
  keeps m _ b e (bell-same m.bell.len m m (record { runs = refl; mark = refl })),
  λ d. keeps m (device_end m d) b e (record { runs = refl; mark = refl }),
  λ l.
      let p : (proc (time_passes m) m.running).slice + 10 < 200 = rw (time_processes m) l in
      rw (lt-leb nobody m.running b) (keeps m _ b e (then_same (time_same m) (slice_same (time_passes m) m.running p))),
  λ g l. keeps m (enter m g) b e (enter-same m g l),
  λ g. keeps m (leave m g) b e (leave_same m g),
  λ g c. keeps m (continue m g c) b e (continue-same m g c),
  keeps m (make_gate m) b e (record { runs = refl; mark = refl }),
)
