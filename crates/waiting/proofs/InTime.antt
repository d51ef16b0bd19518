-- Place j of class 0 runs no later than selection j + j/8 rounded up, place i of class 2 by the 9i-th, and nobody is passed over
use mathlib.Core.Path.{◌≡◌, refl}
use mathlib.Core.List.{List}
use Prim.Native.Nat.{ℕ, suc, ◌+◌, ◌-◌, ◌*◌, ◌/◌, ◌<◌, ◌≤◌}
use native.Mathlib.Omega.{arith}
use Rattle.machine.specs.declared.Machine.{Machine}
use Rattle.machine.specs.State.{ready}
use Rattle.machine.specs.Store.{World}
use Rattle.machine.specs.Sound.{in_queue, is_ready, places}
use Rattle.machine.specs.Offer.{Offer, after_all}
use Rattle.kept.proofs.Counts.{stands}
use Rattle.waiting.specs.Waiting.{InPlace, selections_in, selections_from, ReadyStill, RunsThen, RunsAtSelection, RunsWithin, bound0, bound2, RunsBy, RunsInTime, RunsSooner}
use Rattle.waiting.proofs.Places.{Stands, stands_of, place_of}
use Rattle.waiting.proofs.Good.{Good, is_sound_lem, later_good}
use Rattle.waiting.proofs.Ready.{line, Tidy}
use Rattle.waiting.proofs.Room.{Rule, Room0, rule0, Room2, rule2}
use Rattle.waiting.proofs.Running.{runs, moves_up, in_time}
use Rattle.machine.proofs.Sits.{sits_self}
use Rattle.notation.proofs.Upto.{sum-get}

-- ---- what a sound state tells
is_tidy : {m : Machine} → Good m → Tidy (line m)
is_tidy h =
    let f = (is_sound_lem h).placed in
    record { three = f.classes.three; few = λ c b. (f.classes.each c b).few; low = f.numbers.low }

-- who is ready does not run
not_running : {m : Machine} (c k i : ℕ) → c < 3 → Good m → Stands (ready m c) k i → m.running ≡ i → ⊥
unfolding places is_ready
not_running {m} c k i small h s e =
    let f = (is_sound_lem h).placed in
    let l = rw s.there at ((f.classes.each c small).each k s.within).0 in
    let z = rw s.there at (stands (ready m c) k s.within) in
    let p = rw e at (f.each i l) in
    let t = sum-get (λ c. in_queue i (ready m c)) 3 c small in
    omega (arith, sits_self i)

-- ---- nobody is passed over
module _ (code : List ℕ) (w : World) (c k i : ℕ) (xs : List Offer) (small : c < 3) (h : Good w.machine) (p : InPlace (ready w.machine c) k i) where
  abbrev n : ℕ
  n = selections_from code c w xs

  moved : n < k → Stands (ready (after_all code w xs).machine c) (k - 1 - n) i
  moved l =
      let e : k - 1 ≡ n + (k - 1 - n) = omega arith in
      moves_up code c small w xs n (k - 1 - n) i (is_tidy h) refl (rw (← e) (stands_of p))

  before : ReadyStill code w c k i xs
  before l =
      let s = moved l in
      (place_of (k - n) (k - 1 - n) (omega arith) (omega arith) s, not_running c (k - 1 - n) i small (later_good code w xs h) s)

  then : RunsThen code w c k i xs
  then x e u =
      let z : k - 1 - n ≡ 0 = omega arith in
      runs code c small (after_all code w xs) x (is_tidy (later_good code w xs h)) i u (rw z at (moved (omega arith)))

pub runs_at_selection : RunsAtSelection
runs_at_selection code w c k i xs small a b p =
    let h : Good w.machine = record { shaped = a; sound = b } in
    (before code w c k i xs small h p, then code w c k i xs small h p)

-- ---- in time
by : (c : ℕ) → c < 3 → (Room : ℕ → ℕ → ℕ → Type 0) → Rule c Room → (code : List ℕ) (w : World) (k r i : ℕ) (xs : List Offer)
    → Tidy (line w.machine) → InPlace (ready w.machine c) k i → Room (k - 1) w.machine.count r → r ≤ selections_in code w xs
    → RunsWithin code w c k r i xs
by c small Room rule code w k r i xs t p m l =
    let e : suc (k - 1) ≡ k = omega (arith, p.first) in
    rw e at (in_time code c small i Room rule w xs (k - 1) r t (stands_of p) m l)

class_0_in_time : RunsBy 0 bound0
class_0_in_time code w k i xs a b p l =
    let t = is_tidy (record { shaped = a; sound = b }) in
    by 0 (omega arith) Room0 rule0 code w k (bound0 k) i xs t p (omega (arith, t.low, p.first)) l

class_2_in_time : RunsBy 2 bound2
class_2_in_time code w k i xs a b p l =
    let t = is_tidy (record { shaped = a; sound = b }) in
    by 2 (omega arith) Room2 rule2 code w k (bound2 k) i xs t p (omega (arith, p.first)) l

pub runs_in_time : RunsInTime
runs_in_time = (class_0_in_time, class_2_in_time)

pub runs_sooner : RunsSooner
runs_sooner = (
  λ code w k i xs a b p l.
      let t = is_tidy (record { shaped = a; sound = b }) in
      by 0 (omega arith) Room0 rule0 code w k (k + (k + w.machine.count - 1) / 8) i xs t p (omega (arith, p.first)) l,
  λ code w k i xs a b p l.
      let t = is_tidy (record { shaped = a; sound = b }) in
      by 2 (omega arith) Room2 rule2 code w k (9 * k - w.machine.count) i xs t p (omega (arith, p.first)) l,
)
