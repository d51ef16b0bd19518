-- Why the test of the parts is the definition: each part's test is the definition's, and the tallies are its counts
use mathlib.Core.Path.{◌≡◌, sym, ◌∙◌}
use mathlib.Core.Bool.{true, false, ◌&&◌, ◌||◌, and-false, and_assoc}
use mathlib.Core.List.{List}
use Prim.Native.Nat.{ℕ, ◌+◌, ◌/◌, ◌%◌, ◌^◌, ◌≤◌, ◌<◌}
use native.Mathlib.Omega.{arith}
use lib.Dec.{ltb, leb, eqb}
use lib.ListN.{length, get_or, take}
use Rattle.std.specs.List.{list_all, enumerate_from}
use Rattle.notation.specs.Upto.{sum_to, all_to}
use Rattle.notation.proofs.Upto.{all_at}
use Rattle.notation.proofs.Test.{part, at_most}
use Rattle.word.specs.Word.{bit}
use Rattle.machine.specs.declared.Queue.{Queue}
use Rattle.machine.specs.declared.Process.{Process}
use Rattle.machine.specs.declared.Machine.{Machine}
use Rattle.machine.specs.State.{no_queue, no_gate, no_device, no_process, proc, gate, ready, device}
use Rattle.machine.specs.Sound.{sits, in_queue, at_gate, is_ready, is_at_gates, places, held_of, queue_ok, class_ok, gate_ok, device_ok, holds_ok, process_ok, numbers_ok, sound}
use Rattle.sound.specs.Tally.{Counts}
use Rattle.sound.specs.Test.{queue_in, class_in, shut_in, gate_in, device_in, list_in, process_in, parts_ok, processes_ok}
use Rattle.sound.proofs.Listed.{all_numbered, all_numbered_first}
use Rattle.sound.proofs.Laws.{all_same, all_first}

module _ (m : Machine) where
  -- ---- the numbers give the created, and sound parts have no queue longer than ten
  pub created_few : numbers_ok m ≡ true → m.created ≤ 10
  unfolding numbers_ok
  created_few e = at_most m.created 10 e (λ t. simp (t, and-false))

  few_of : (w : Queue) → queue_ok m w ≡ true → w.len ≤ 10
  unfolding queue_ok
  few_of w e = at_most w.len 10 e (λ t. simp t)

  module _ (e : parts_ok m ≡ true) where
    pub clock-few : m.clock.len ≤ 10
    unfolding parts_ok
    clock-few = few_of m.clock (part (queue_ok m m.clock) e (λ t. simp (t, and-false)))

    pub bell-few : m.bell.len ≤ 10
    unfolding parts_ok
    bell-few = few_of m.bell (part (queue_ok m m.bell) e (λ t. simp (t, and-false)))

    ready_ok : (c : ℕ) → c < 3 → class_ok m c ≡ true
    unfolding parts_ok
    ready_ok c l = all_at (class_ok m) 3 c (part (all_to (class_ok m) 3) e (λ t. simp t)) l

    pub ready-few : (c : ℕ) → c < 3 → (ready m c).len ≤ 10
    unfolding class_ok
    ready-few c l = few_of (ready m c) (part (queue_ok m (ready m c)) (ready_ok c l) (λ t. simp t))

    gates_ok : (g : ℕ) → g < 25 → gate_ok m g ≡ true
    unfolding parts_ok
    gates_ok g l = all_at (gate_ok m) 25 g (part (all_to (gate_ok m) 25) e (λ t. simp (t, and-false))) l

    pub gate-few : (g : ℕ) → g < 25 → (gate m g).queue.len ≤ 10
    unfolding gate_ok
    gate-few g l = few_of (gate m g).queue (part (queue_ok m (gate m g).queue) (gates_ok g l) (λ t. simp (t, and-false)))

  -- ---- the parts, by their lists
  pub parts_row : length m.ready ≡ 3 → length m.devices ≡ 5 → length m.gates ≡ 25 → parts_ok m ≡
      list_all (λ x. class_in m.created m.processes x.0 x.1) (enumerate_from 0 m.ready)
      && queue_in m.created m.clock
      && queue_in m.created m.bell
      && list_all (λ x. device_in m.created (eqb (m.present / 2 ^ x.0 % 2) 1) x.1) (enumerate_from 0 m.devices)
      && list_all (λ x. gate_in m.created (ltb x.0 m.made) x.1) (enumerate_from 0 m.gates)
  unfolding parts_ok class_ok queue_ok device_ok gate_ok class_in queue_in shut_in gate_in
  parts_row a b c =
      rw (
        all_numbered m.ready no_queue 3 a (class_in m.created m.processes),
        all_numbered m.devices no_device 5 b (λ d x. device_in m.created (eqb (m.present / 2 ^ d % 2) 1) x),
        all_numbered m.gates no_gate 25 c (λ g w. gate_in m.created (ltb g m.made) w),
      )

  -- ---- a process, by the tallies
  module _ (holders here gates elsewhere : List ℕ) (hold : (g : ℕ) → g < 25 → get_or holders g 0 ≡ (gate m g).holder)
      (a : Counts here (λ q. sits q m.running + sum_to (λ c. in_queue q (ready m c)) 3))
      (b : Counts gates (λ q. sum_to (λ g. at_gate q (gate m g)) 25))
      (c : Counts elsewhere (λ q. in_queue q m.clock + in_queue q m.bell + sum_to (λ d. sits q (device m d).process) 5)) where
    placed : (q : ℕ) → q < 10 → get_or here q 0 + get_or gates q 0 + get_or elsewhere q 0 + bit (proc m q).ended ≡ places m q
    unfolding places is_ready
    placed q l = omega (arith, a.1 q l, b.1 q l, c.1 q l)

    listed : (q : ℕ) (p : Process) → list_in holders q p.held p.holds ≡
        leb p.holds 8 && all_to (λ k. leb p.holds k || ltb (get_or p.held k 0) 25) 8 && all_to (λ g. eqb (held_of p g) (bit (eqb (gate m g).holder q))) 25
    unfolding list_in held_of
    listed q p = rw (all_same (λ g. eqb (held_of p g) (bit (eqb (get_or holders g 0) q))) (λ g. eqb (held_of p g) (bit (eqb (gate m g).holder q))) 25 (λ g l. rw (hold g l)))

    process_in_lem : (q : ℕ) → q < 10 → process_in m.length holders q (get_or here q 0) (get_or gates q 0) (get_or elsewhere q 0) (proc m q) ≡ process_ok m q
    unfolding process_in process_ok holds_ok is_ready is_at_gates
    process_in_lem q l = rw (placed q l, listed q (proc m q), a.1 q l, b.1 q l) (simp and_assoc)

    pub processes_in : length m.processes ≡ 10 → m.created ≤ 10
        → processes_ok m ≡ list_all (λ x. process_in m.length holders x.0 (get_or here x.0 0) (get_or gates x.0 0) (get_or elsewhere x.0 0) x.1) (enumerate_from 0 (take m.created m.processes))
    unfolding processes_ok
    processes_in e h =
        all_first (process_ok m) m.created 10 h
        ∙ all_same (process_ok m) (λ q. process_in m.length holders q (get_or here q 0) (get_or gates q 0) (get_or elsewhere q 0) (proc m q)) m.created (λ q l. sym (process_in_lem q (omega arith)))
        ∙ sym (all_numbered_first m.processes no_process m.created (omega arith) (λ q p. process_in m.length holders q (get_or here q 0) (get_or gates q 0) (get_or elsewhere q 0) p))

  -- ---- the whole
  pub numbers_bad : numbers_ok m ≡ false → sound m ≡ false
  unfolding sound
  numbers_bad e = rw e

  pub parts_bad : numbers_ok m ≡ true → parts_ok m ≡ false → sound m ≡ false
  unfolding sound parts_ok
  parts_bad e f = rw (e, f)

  pub rest-whole : numbers_ok m ≡ true → parts_ok m ≡ true → sound m ≡ processes_ok m
  unfolding sound parts_ok processes_ok
  rest-whole e f = rw (e, f)

pub ruleset few = (clock-few, bell-few, ready-few, gate-few)

pub ruleset tested = (created_few, numbers_bad, parts_bad, rest-whole)
