-- Why the test of a part is the definition: a queue, the ready of a class, a gate, a list of held gates
use mathlib.Core.Path.{◌≡◌, sym, ◌∙◌}
use mathlib.Core.Bool.{Bool, true, false, ◌&&◌, ◌||◌, not, not-not, and-true, and-false, and_assoc, or-true, or-false}
use mathlib.Core.List.{List}
use Prim.Native.Nat.{ℕ, ◌≤◌, ◌<◌}
use native.Mathlib.Omega.{arith}
use lib.Dec.{ltb, leb, eqb}
use lib.ListN.{length, get_or, take, replicate}
use Rattle.std.specs.List.{list_all, list_any, fold, sum_by, zip}
use borrow.Author.Tests.{leb-true, eqb-true, eqb-false, le-leb, lt-leb, lt-ltb, le-ltb, eq-eqb, ne_eqb}
use Rattle.notation.specs.Upto.{sum_to, all_to}
use Rattle.notation.proofs.Upto.{split, both, all_at, all_of, sum-none}
use Rattle.word.specs.Word.{bit}
use Rattle.machine.specs.Sound.{sits, in_queue, in_cells, at_gate}
use Rattle.machine.specs.State.{nobody, no_process}
use Rattle.machine.proofs.Sits.{sits_other}
use Rattle.machine.specs.declared.Queue.{Queue}
use Rattle.machine.specs.declared.Gate.{Gate}
use Rattle.machine.specs.declared.Process.{Process}
use Rattle.sound.specs.Tally.{Grown}
use Rattle.sound.specs.Test.{someone_in, queue_in, class_in, shut_in, quiet_in, gate_in, list_in}
use Rattle.sound.proofs.Laws.{all_same, all_both, all_first, none_of_two, none_of}
use Rattle.sound.proofs.Listed.{all_first_of, sum_first_of, all_taken, all_listed, all_zipped, none_any, folded}
use Rattle.sound.proofs.Tallies.{zeros}

-- ---- a queue
module _ (created : ℕ) (w : Queue) where
  pub queue_to : w.len ≤ 10 → queue_in created w ≡ all_to (λ k. ltb (get_or w.at k 0) created) w.len
  unfolding queue_in
  queue_to h = rw (le-leb w.len 10 h) (all_first (λ k. ltb (get_or w.at k 0) created) w.len 10 h)

  pub queue_row : length (take w.len w.at) ≡ w.len → w.len ≤ 10 → queue_in created w ≡ list_all (λ x. ltb x created) (take w.len w.at)
  queue_row e h = queue_to h ∙ sym (all_taken w.at 0 w.len e (λ x. ltb x created))

  pub queue_long : 10 < w.len → queue_in created w ≡ false
  unfolding queue_in
  queue_long h = rw (lt-leb w.len 10 h)

  pub queue_few : queue_in created w ≡ true → w.len ≤ 10
  unfolding queue_in
  queue_few e = leb-true w.len 10 (both _ _ e).0

-- ---- the ready
module _ (created : ℕ) (ps : List Process) (c : ℕ) (w : Queue) where
  pub class_long : 10 < w.len → class_in created ps c w ≡ false
  unfolding class_in
  class_long h = rw (queue_long created w h)

  pub class_row : length (take w.len w.at) ≡ w.len → w.len ≤ 10
      → class_in created ps c w ≡ list_all (λ x. ltb x created && eqb (get_or ps x no_process).class c) (take w.len w.at)
  unfolding class_in
  class_row e h =
      rw (queue_to created w h, all_first (λ k. eqb (get_or ps (get_or w.at k 0) no_process).class c) w.len 10 h)
      (all_both (λ k. ltb (get_or w.at k 0) created) (λ k. eqb (get_or ps (get_or w.at k 0) no_process).class c) w.len
      ∙ sym (all_taken w.at 0 w.len e (λ x. ltb x created && eqb (get_or ps x no_process).class c)))

-- ---- a gate
module _ (created : ℕ) (w : Gate) where
  pub shut_bad : queue_in created w.queue ≡ false → shut_in created w ≡ false
  unfolding shut_in
  shut_bad e = rw (e, and-false)

  pub shut_ill : length w.cells ≡ 8 → list_all (someone_in created) w.cells ≡ false → shut_in created w ≡ false
  unfolding shut_in
  shut_ill l e = rw (sym (all_listed w.cells 0 8 l (someone_in created)) ∙ e, and-false)

  module _ (l : length w.cells ≡ 8) (q : queue_in created w.queue ≡ true) (e : list_all (someone_in created) w.cells ≡ true) where
    pub shut_open : w.holder ≡ 10 → shut_in created w ≡ eqb w.queue.len 0
    unfolding shut_in
    shut_open h = rw (h, q, sym (all_listed w.cells 0 8 l (someone_in created)) ∙ e) (and-true _)

    pub shut_past : (w.holder ≡ 10 → ⊥) → created ≤ w.holder → shut_in created w ≡ false
    unfolding shut_in
    shut_past n h = rw (ne_eqb w.holder 10 n, le-ltb w.holder created h)

    pub shut_held : (w.holder ≡ 10 → ⊥) → w.holder < created → shut_in created w ≡ eqb (at_gate w.holder w) 0
    unfolding shut_in
    shut_held n h = rw (ne_eqb w.holder 10 n, lt-ltb w.holder created h, q, sym (all_listed w.cells 0 8 l (someone_in created)) ∙ e)

pub ruleset shut = (queue_few, shut_bad, shut_ill, shut_open, shut_past, shut_held, not-not)

module _ (w : Gate) (x : ℕ) (f : length (take w.queue.len w.queue.at) ≡ w.queue.len) where
  parted : eqb (at_gate x w) 0 ≡ eqb (in_queue x w.queue) 0 && eqb (in_cells x w) 0
  unfolding at_gate
  parted = none_of_two (in_queue x w.queue) (in_cells x w)

  waiting : eqb (in_queue x w.queue) 0 ≡ not (list_any (λ y. eqb y x) (take w.queue.len w.queue.at))
  unfolding in_queue
  waiting = none_of (λ k. eqb (get_or w.queue.at k 0) x) w.queue.len ∙ sym (all_taken w.queue.at 0 w.queue.len f (λ y. not (eqb y x))) ∙ sym (none_any (λ y. eqb y x) _)

  delayed : length w.cells ≡ 8 → eqb (in_cells x w) 0 ≡ not (list_any (λ y. eqb y x) w.cells)
  unfolding in_cells
  delayed e = none_of (λ k. eqb (get_or w.cells k 0) x) 8 ∙ sym (all_listed w.cells 0 8 e (λ y. not (eqb y x))) ∙ sym (none_any (λ y. eqb y x) _)

  pub waits_there : list_any (λ y. eqb y x) (take w.queue.len w.queue.at) ≡ true → not (eqb (at_gate x w) 0) ≡ true
  waits_there t = rw (parted, waiting, t)

  pub delayed_there : list_any (λ y. eqb y x) (take w.queue.len w.queue.at) ≡ false → length w.cells ≡ 8 → not (eqb (at_gate x w) 0) ≡ list_any (λ y. eqb y x) w.cells
  delayed_there t e = rw (parted, waiting, t, delayed e) (not-not _)

pub ruleset there = (waits_there, delayed_there)

-- ---- a quiet gate
pub quiet_cells : (l : List ℕ) → length l ≡ 8 → fold (λ ok x. ok && eqb x 10) true l ≡ all_to (λ c. eqb (get_or l c 0) nobody) 8
quiet_cells l e = folded (λ x. eqb x 10) l ∙ all_listed l 0 8 e (λ x. eqb x 10)

module _ (w : Gate) (e : quiet_in w ≡ true) where
  no_waiter : w.queue.len ≡ 0
  unfolding quiet_in
  no_waiter = eqb-true w.queue.len 0 (both (eqb w.queue.len 0) _ e).0

  no_delayed : (c : ℕ) → c < 8 → get_or w.cells c 0 ≡ nobody
  unfolding quiet_in
  no_delayed c l = eqb-true (get_or w.cells c 0) nobody (all_at (λ c. eqb (get_or w.cells c 0) nobody) 8 c (both (eqb w.queue.len 0) _ e).1 l)

  -- nobody but nobody is there
  pub quiet_none : (q : ℕ) → (q ≡ nobody → ⊥) → at_gate q w ≡ 0
  unfolding at_gate in_queue in_cells sum_to
  quiet_none q n =
      let d : sum_to (λ c. sits q (get_or w.cells c 0)) 8 ≡ 0 = sum-none (λ c. sits q (get_or w.cells c 0)) 8 (λ c l. rw (no_delayed c l, sits_other q nobody n)) in
      rw no_waiter (omega (arith, d))

  pub quiet_away : (q : ℕ) → q < 10 → at_gate q w ≡ 0
  quiet_away q l = quiet_none q (λ e. omega arith)

  quiet_queue : (created : ℕ) → queue_in created w.queue ≡ true
  unfolding all_to
  quiet_queue created = queue_to created w.queue (omega (arith, no_waiter)) ∙ rw no_waiter

  quiet_known : (created : ℕ) → all_to (λ c. someone_in created (get_or w.cells c 0)) 8 ≡ true
  quiet_known created = all_of (λ c. someone_in created (get_or w.cells c 0)) 8 (λ c l. rw (no_delayed c l))

  -- where the holder is nobody nothing is asked, and no holder is there
  quiet_holder : eqb w.holder nobody || eqb (at_gate w.holder w) 0 ≡ true
  quiet_holder = split (eqb w.holder nobody) (λ t. rw t) (λ f. rw (f, quiet_none w.holder (eqb-false w.holder nobody f)))

  pub quiet_shut : (created : ℕ) → shut_in created w ≡ someone_in created w.holder
  unfolding shut_in
  quiet_shut created = simp (quiet_queue created, quiet_known created, eq-eqb w.queue.len 0 no_waiter, quiet_holder, or-true, and-true)

module _ (created : ℕ) (made : Bool) (w : Gate) where
  module _ (e : quiet_in w ≡ true) where
    gate_quiet : gate_in created made w ≡ someone_in created w.holder && (made || eqb w.holder nobody)
    unfolding gate_in quiet_in
    gate_quiet = rw (quiet_shut w e created, and_assoc (eqb w.holder nobody), e, and-true (eqb w.holder nobody))

    pub quiet_open : w.holder ≡ 10 → gate_in created made w ≡ true
    quiet_open h = rw (gate_quiet, h) (or-true made)

    pub quiet_held : (w.holder ≡ 10 → ⊥) → made ≡ true → gate_in created made w ≡ ltb w.holder created
    quiet_held n m = rw (gate_quiet, ne_eqb w.holder 10 n, m) (and-true _)

    pub quiet_unmade : (w.holder ≡ 10 → ⊥) → made ≡ false → gate_in created made w ≡ false
    quiet_unmade n m = rw (gate_quiet, ne_eqb w.holder 10 n, m) (and-false _)

  module _ (e : quiet_in w ≡ false) where
    gate_busy : gate_in created made w ≡ shut_in created w && made
    unfolding gate_in quiet_in
    gate_busy = rw (and_assoc (eqb w.holder nobody), e, and-false (eqb w.holder nobody), or-false made)

    pub busy_made : made ≡ true → gate_in created made w ≡ shut_in created w
    busy_made m = rw (gate_busy, m) (and-true _)

    pub busy_unmade : made ≡ false → gate_in created made w ≡ false
    busy_unmade m = rw (gate_busy, m) (and-false _)

pub ruleset told = (quiet_open, quiet_held, quiet_unmade, busy_made, busy_unmade)

-- ---- a list of held gates
module _ (holders : List ℕ) (q : ℕ) (held : List ℕ) (holds : ℕ) where
  pub list_long : 8 < holds → list_in holders q held holds ≡ false
  unfolding list_in
  list_long h = rw (lt-leb holds 8 h)

  module _ (l : length held ≡ 8) (h : holds ≤ 8) where
    below : all_to (λ k. leb holds k || ltb (get_or held k 0) 25) 8 ≡ list_all (λ g. ltb g 25) (take holds held)
    below = all_first (λ k. ltb (get_or held k 0) 25) holds 8 h ∙ sym (all_first_of held 0 (λ g. ltb g 25) holds (omega arith))

    pub list_ill : list_all (λ g. ltb g 25) (take holds held) ≡ false → list_in holders q held holds ≡ false
    unfolding list_in
    list_ill f = rw (below, f, and-false)

    -- with the gates counted
    pub list_row : (t : List ℕ) → list_all (λ g. ltb g 25) (take holds held) ≡ true → length holders ≡ 25
        → Grown 25 (replicate 25 0) t (λ g. sum_by (sits g) (take holds held))
        → list_in holders q held holds ≡ fold (λ ok p. ok && eqb p.0 (bit (eqb p.1 q))) true (zip t holders)
    unfolding list_in
    list_row t f e g =
        rw (le-leb holds 8 h, below, f)
        (all_same (λ g. eqb (sum_to (λ k. sits g (get_or held k 0)) holds) (bit (eqb (get_or holders g 0) q)))
        (λ g. eqb (get_or t g 0) (bit (eqb (get_or holders g 0) q))) 25
        (λ k b. let e : get_or t k 0 ≡ sum_to (λ i. sits k (get_or held i 0)) holds = omega (arith, g.1 k b, zeros 25 k b, sum_first_of held 0 (sits k) holds (omega arith)) in rw e)
        ∙ sym (folded (λ p. eqb p.0 (bit (eqb p.1 q))) (zip t holders) ∙ all_zipped t holders 0 0 25 g.0 e (λ n h. eqb n (bit (eqb h q)))))

pub ruleset listed = (list_long, list_ill, list_row)
