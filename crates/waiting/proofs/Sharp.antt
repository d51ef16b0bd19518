-- Both examples by computing; that the process does not hold sooner, by the number of releases
use mathlib.Core.Path.{◌≡◌, refl}
use mathlib.Core.Bool.{Bool, true, false, ◌&&◌, and-false}
use mathlib.Core.List.{List, [], ◌∷◌, ◌++◌}
use Prim.Native.Nat.{ℕ, ◌+◌, ◌<◌}
use native.Mathlib.Omega.{arith}
use lib.Dec.{eqb}
use lib.ListN.{length}
use borrow.Author.Tests.{eqb-true}
use Rattle.notation.specs.Upto.{sum_to, all_to}
use Rattle.notation.proofs.Upto.{all_at}
use Rattle.machine.specs.declared.Machine.{Machine}
use Rattle.machine.specs.State.{proc, gate, ready, started, fresh, with_process}
use Rattle.machine.specs.Store.{World}
use Rattle.machine.specs.Queue.{pushed, rest}
use Rattle.machine.specs.Job.{takes_stop}
use Rattle.machine.specs.Instruction.{instruct, execute, perform, ktrap}
use Rattle.machine.specs.Classes.{set_running, push, pull, wake, best, start, due, source, count_from, selection, aside, selects, select}
use Rattle.machine.specs.Gate.{entered, given, join, advance, sit, grant, give_up, pass, hand_on, enter, leave, delay, continue, make_gate, may_leave, may_continue, may_delay}
use Rattle.machine.specs.Clock.{clock_wait, clock_one, clock_wake}
use Rattle.machine.specs.Call.{passed, born, create_process, call8, call9, kernel}
use Rattle.machine.specs.Step.{step}
use Rattle.machine.specs.Sound.{in_queue, in_cells, at_gate, is_ready, places, queue_ok, class_ok, held_of, gate_ok, is_at_gates, holds_ok, job_ok, marks_ok, process_ok, device_ok, numbers_ok, sound}
use Rattle.machine.specs.Release.{releases, completes}
use Rattle.machine.specs.Offer.{offer_step, Offer, a_step, offer, after_all}
use Rattle.machine.specs.Shape.{Shaped}
use Rattle.waiting.specs.Count.{count_in}
use Rattle.waiting.specs.Waiting.{holder, Waits, delayed, releases_at, releases_in, completes_in, bound}
use Rattle.waiting.specs.Sharp.{SharpAt, continues, one_waits, delays_continues, two_wait, Sharp}
use Rattle.waiting.proofs.Offers.{count-first}
use Rattle.waiting.proofs.Waiting.{holds_at_release}
use Rattle.notation.proofs.Test.{part, equal}

-- ---- the lengths of the arrays, tested
abbrev pub fits : Machine → Bool
fits m =
    eqb (length m.processes) 10
    && eqb (length m.gates) 25
    && eqb (length m.ready) 3
    && eqb (length m.devices) 5
    && eqb (length m.clock.at) 10
    && eqb (length m.bell.at) 10
    && all_to (λ c. eqb (length (ready m c).at) 10) 3
    && all_to (λ q. eqb (length (proc m q).held) 8) 10
    && all_to (λ g. eqb (length (gate m g).queue.at) 10) 25
    && all_to (λ g. eqb (length (gate m g).cells) 8) 25

each : {whole : Bool} (f : ℕ → ℕ) (size n : ℕ) → whole ≡ true → (all_to (λ k. eqb (f k) size) n ≡ false → whole ≡ false)
    → (k : ℕ) → k < n → f k ≡ size
each f size n t e k l = eqb-true (f k) size (all_at (λ k. eqb (f k) size) n k (part (all_to (λ k. eqb (f k) size) n) t e) l)

pub shape : (m : Machine) → fits m ≡ true → Shaped m
shape m t =
    record {
      processes = equal (length m.processes) 10 t (λ u. rw u);
      gates = equal (length m.gates) 25 t (λ u. simp (u, and-false));
      classes = equal (length m.ready) 3 t (λ u. simp (u, and-false));
      devices = equal (length m.devices) 5 t (λ u. simp (u, and-false));
      ready = each (λ c. length (ready m c).at) 10 3 t (λ u. simp (u, and-false));
      clock = equal (length m.clock.at) 10 t (λ u. simp (u, and-false));
      bell = equal (length m.bell.at) 10 t (λ u. simp (u, and-false));
      held = each (λ q. length (proc m q).held) 8 10 t (λ u. simp (u, and-false));
      queues = each (λ g. length (gate m g).queue.at) 10 25 t (λ u. simp (u, and-false));
      cells = each (λ g. length (gate m g).cells) 8 25 t (λ u. simp (u, and-false));
    }

-- ---- with fewer than k releases in xs, the process holds after no first part of xs
not_yet_lem : (code : List ℕ) (w : World) (g k i : ℕ) (xs : List Offer) → Shaped w.machine → sound w.machine ≡ true → Waits w g k i
    → releases_in code w g xs < k → (ys zs : List Offer) → xs ≡ ys ++ zs → holder (after_all code w ys) g ≡ i → ⊥
not_yet_lem code w g k i xs a b p l ys zs e =
    let f = count-first code (releases_at code g) w ys zs in
    let l' : releases_in code w g (ys ++ zs) < k = rw (← e) l in
    ((holds_at_release code w g k i ys a b p).0 (omega arith)).1

-- ---- what is computed
record Computed (code : List ℕ) (w : World) (g k d i : ℕ) (xs : List Offer) (x : Offer) : Type 0 where
  fit : fits w.machine ≡ true
  is_sound : sound w.machine ≡ true
  waits : Waits w g k i
  sitting : delayed w g ≡ d
  fewer : completes_in code w g xs + 1 ≡ bound k d
  releases : releases_in code w g xs + 1 ≡ k
  last : completes_in code w g (xs ++ x ∷ []) ≡ bound k d
  holds : holder (after_all code w (xs ++ x ∷ [])) g ≡ i

sharp_at : {code : List ℕ} {w : World} {g k d i : ℕ} {xs : List Offer} {x : Offer} → Computed code w g k d i xs x → SharpAt code w g k d i xs x
sharp_at {code} {w} {g} {k} {d} {i} {xs} c =
    let a = shape w.machine c.fit in
    record {
      shaped = a;
      is_sound = c.is_sound;
      waits = c.waits;
      sitting = c.sitting;
      fewer = c.fewer;
      not_yet = not_yet_lem code w g k i xs a c.is_sound c.waits (omega (arith, c.releases));
      last = c.last;
      holds = c.holds;
    }

computed : Computed continues one_waits 0 1 2 3 (a_step ∷ a_step ∷ []) a_step × Computed delays_continues two_wait 0 2 0 2 (a_step ∷ a_step ∷ []) a_step
unfolding sum_to all_to started fresh with_process pushed rest takes_stop instruct execute perform ktrap set_running push pull wake best start due source count_from selection aside selects select entered given join advance sit grant give_up pass hand_on enter leave delay continue make_gate may_leave may_continue may_delay clock_wait clock_one clock_wake passed born create_process call8 call9 kernel step in_queue in_cells at_gate is_ready places queue_ok class_ok held_of gate_ok is_at_gates holds_ok job_ok marks_ok process_ok device_ok numbers_ok sound releases completes offer_step offer after_all count_in
computed = (
  record {
    fit = refl;
    is_sound = refl;
    waits = record { first = omega arith; last = omega arith; there = refl };
    sitting = refl;
    fewer = refl;
    releases = refl;
    last = refl;
    holds = refl;
  },
  record {
    fit = refl;
    is_sound = refl;
    waits = record { first = omega arith; last = omega arith; there = refl };
    sitting = refl;
    fewer = refl;
    releases = refl;
    last = refl;
    holds = refl;
  },
)

pub sharp : Sharp
sharp = (sharp_at computed.0, sharp_at computed.1)
