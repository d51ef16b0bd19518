-- Each world by computing; that the process does not run sooner, by the number of selections from its class
use mathlib.Core.Path.{◌≡◌, refl}
use mathlib.Core.Bool.{true}
use mathlib.Core.List.{List, [], ◌∷◌, ◌++◌}
use Prim.Native.Nat.{ℕ, ◌+◌, ◌<◌}
use native.Mathlib.Omega.{arith}
use Rattle.notation.specs.Upto.{sum_to, all_to, list_from}
use Rattle.machine.specs.State.{ready, started, with_process}
use Rattle.machine.specs.Store.{World}
use Rattle.machine.specs.Queue.{pushed, rest}
use Rattle.machine.specs.Job.{takes_stop}
use Rattle.machine.specs.Instruction.{instruct, execute, perform, newline, ktrap}
use Rattle.machine.specs.Classes.{set_running, push, pull, wake, best, start, due, source, count_from, selection, aside, selects, select}
use Rattle.machine.specs.Gate.{entered}
use Rattle.machine.specs.Clock.{clock_wait, clock_one, clock_wake, time_passes, yields, slice_passes, tick}
use Rattle.machine.specs.Call.{passed, call0, kernel}
use Rattle.machine.specs.Step.{step}
use Rattle.machine.specs.Sound.{in_queue, in_cells, at_gate, is_ready, places, queue_ok, class_ok, held_of, gate_ok, is_at_gates, holds_ok, job_ok, marks_ok, process_ok, device_ok, numbers_ok, sound}
use Rattle.machine.specs.Offer.{offer_step, offer_tick, Offer, a_step, a_tick, offer, after_all}
use Rattle.machine.specs.Shape.{Shaped}
use Rattle.waiting.specs.Count.{count_in}
use Rattle.waiting.specs.Selection.{selects_from, step_ends, tick_ends}
use Rattle.waiting.specs.Waiting.{InPlace, selections_in, selections_from}
use Rattle.waiting.specs.SharpClasses.{SharpRun, waiting, steps, behind, last, SharpRuns}
use Rattle.waiting.proofs.Offers.{count-first}
use Rattle.waiting.proofs.Sharp.{fits, shape}
use Rattle.waiting.proofs.InTime.{runs_at_selection}

not_yet_lem : (code : List ℕ) (w : World) (c k i : ℕ) (xs : List Offer) → c < 3 → Shaped w.machine → sound w.machine ≡ true
    → InPlace (ready w.machine c) k i → selections_from code c w xs < k
    → (ys zs : List Offer) → xs ≡ ys ++ zs → (after_all code w ys).machine.running ≡ i → ⊥
not_yet_lem code w c k i xs small a b p l ys zs e =
    let f = count-first code (selects_from code c) w ys zs in
    let l' : selections_from code c w (ys ++ zs) < k = rw (← e) l in
    ((runs_at_selection code w c k i ys small a b p).0 (omega arith)).1

-- ---- what is computed
record Computed (code : List ℕ) (w : World) (c k n i : ℕ) (xs : List Offer) (x : Offer) : Type 0 where
  fit : fits w.machine ≡ true
  is_sound : sound w.machine ≡ true
  stands : InPlace (ready w.machine c) k i
  fewer : selections_in code w xs + 1 ≡ n
  from : selections_from code c w xs + 1 ≡ k
  last : selections_in code w (xs ++ x ∷ []) ≡ n
  runs : (after_all code w (xs ++ x ∷ [])).machine.running ≡ i

sharp_run : {code : List ℕ} {w : World} {c k n i : ℕ} {xs : List Offer} {x : Offer} → c < 3 → Computed code w c k n i xs x → SharpRun code w c k n i xs x
sharp_run {code} {w} {c} {k} {n} {i} {xs} small t =
    let a = shape w.machine t.fit in
    record {
      shaped = a;
      is_sound = t.is_sound;
      stands = t.stands;
      fewer = t.fewer;
      not_yet = not_yet_lem code w c k i xs small a t.is_sound t.stands (omega (arith, t.from));
      last = t.last;
      runs = t.runs;
    }

second : Computed waiting (behind 1) 0 1 2 1 (steps 1) a_step
unfolding list_from sum_to all_to started with_process pushed rest takes_stop instruct execute perform newline ktrap set_running push pull wake best start due source count_from selection aside selects select entered clock_wait clock_one clock_wake time_passes yields slice_passes tick passed call0 kernel step in_queue in_cells at_gate is_ready places queue_ok class_ok held_of gate_ok is_at_gates holds_ok job_ok marks_ok process_ok device_ok numbers_ok sound offer_step offer_tick offer step_ends tick_ends after_all count_in
second =
    record {
      fit = refl;
      is_sound = refl;
      stands = record { first = omega arith; last = omega arith; there = refl };
      fewer = refl;
      from = refl;
      last = refl;
      runs = refl;
    }

eleventh : Computed waiting (behind 9) 0 9 11 9 (a_step ∷ a_tick ∷ steps 8) a_step
unfolding list_from sum_to all_to started with_process pushed rest takes_stop instruct execute perform newline ktrap set_running push pull wake best start due source count_from selection aside selects select entered clock_wait clock_one clock_wake time_passes yields slice_passes tick passed call0 kernel step in_queue in_cells at_gate is_ready places queue_ok class_ok held_of gate_ok is_at_gates holds_ok job_ok marks_ok process_ok device_ok numbers_ok sound offer_step offer_tick offer step_ends tick_ends after_all count_in
eleventh =
    record {
      fit = refl;
      is_sound = refl;
      stands = record { first = omega arith; last = omega arith; there = refl };
      fewer = refl;
      from = refl;
      last = refl;
      runs = refl;
    }

ninth : Computed waiting last 2 1 9 9 (steps 8) a_step
unfolding list_from sum_to all_to started with_process pushed rest takes_stop instruct execute perform newline ktrap set_running push pull wake best start due source count_from selection aside selects select entered clock_wait clock_one clock_wake time_passes yields slice_passes tick passed call0 kernel step in_queue in_cells at_gate is_ready places queue_ok class_ok held_of gate_ok is_at_gates holds_ok job_ok marks_ok process_ok device_ok numbers_ok sound offer_step offer_tick offer step_ends tick_ends after_all count_in
ninth =
    record {
      fit = refl;
      is_sound = refl;
      stands = record { first = omega arith; last = omega arith; there = refl };
      fewer = refl;
      from = refl;
      last = refl;
      runs = refl;
    }

pub sharp_runs : SharpRuns
sharp_runs = (sharp_run (omega arith) second, sharp_run (omega arith) eleventh, sharp_run (omega arith) ninth)
