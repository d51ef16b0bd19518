-- Each operation on gates, as a turn of gate g
use mathlib.Core.Path.{◌≡◌, refl, sym, ap, ◌∙◌}
use mathlib.Core.Bool.{true, false, ◌&&◌}
use Prim.Native.Nat.{ℕ, ◌+◌, ◌<◌, ◌≤◌}
use native.Mathlib.Omega.{arith}
use lib.Dec.{ltb, leb, eqb}
use lib.ListN.{length, set, length-set}
use lib.Seq.{get_or-set_same, get_or-set_other}
use borrow.Author.Tests.{eqb-true, eqb-false, leb-false, lt-ltb, ne_eqb}
use Rattle.notation.proofs.Upto.{split}
use Rattle.machine.specs.declared.Queue.{Queue}
use Rattle.machine.specs.declared.Gate.{Gate}
use Rattle.machine.specs.declared.Machine.{Machine}
use Rattle.machine.specs.State.{nobody, no_gate, gate, parts, more}
use Rattle.machine.specs.Queue.{first, pushed, rest}
use Rattle.machine.specs.Classes.{set_running, push, wake}
use Rattle.machine.specs.Gate.{join, advance, sit, grant, give_up, pass, hand_on, enter, leave, delay, cell, continue, make_gate}
use Rattle.kept.proofs.Counts.{sum-set}
use Rattle.waiting.proofs.Places.{stands-pushed}
use Rattle.waiting.proofs.Turns.{taken, filled, Quiet, Freed, Turn, calm, frees_up, alike, still, freed}

-- ---- gate g after a move of its own
abbrev with_queue : Gate → Queue → Gate
with_queue w q = record { holder = w.holder; queue = q; cells = w.cells }

abbrev with-holder : Gate → ℕ → Gate
with-holder w h = record { holder = h; queue = w.queue; cells = w.cells }

module _ (m : Machine) (g : ℕ) (l : g < length m.gates) where
  join-own : (x : ℕ) → gate (join m g x) g ≡ with_queue (gate m g) (pushed (gate m g).queue x)
  unfolding join
  join-own x = get_or-set_same m.gates g _ no_gate l

  advance-own : gate (advance m g) g ≡ with_queue (gate m g) (rest (gate m g).queue)
  unfolding advance
  advance-own = get_or-set_same m.gates g _ no_gate l

  sit-own : (c x : ℕ) → gate (sit m g c x) g ≡ record { holder = (gate m g).holder; queue = (gate m g).queue; cells = set (gate m g).cells c x }
  unfolding sit
  sit-own c x = get_or-set_same m.gates g _ no_gate l

  grant-own : (h : ℕ) → gate (grant m g h) g ≡ with-holder (gate m g) h
  unfolding grant
  grant-own h = get_or-set_same m.gates g _ no_gate l

  pass-own : (h : ℕ) → gate (pass m g h) g ≡ with-holder (gate m g) h
  unfolding pass wake push
  pass-own h = grant-own h

  up_own : (h : ℕ) → gate (give_up m g h) g ≡ with-holder (gate m g) nobody
  unfolding give_up
  up_own h = get_or-set_same m.gates g _ no_gate l

-- ---- the number of gates
advance_size : (m : Machine) (g : ℕ) → length (advance m g).gates ≡ length m.gates
unfolding advance
advance_size m g = length-set m.gates g _

sit_size : (m : Machine) (g c x : ℕ) → length (sit m g c x).gates ≡ length m.gates
unfolding sit
sit_size m g c x = length-set m.gates g _

up_size : (m : Machine) (g x : ℕ) → length (give_up m g x).gates ≡ length m.gates
unfolding give_up
up_size m g x = length-set m.gates g _

-- ---- gate g after a move of another gate h
module _ (m : Machine) (h g : ℕ) (n : g ≡ h → ⊥) where
  join_other : (x : ℕ) → gate (join m h x) g ≡ gate m g
  unfolding join
  join_other x = get_or-set_other m.gates h g _ no_gate n

  advance_other : gate (advance m h) g ≡ gate m g
  unfolding advance
  advance_other = get_or-set_other m.gates h g _ no_gate n

  sit_other : (c x : ℕ) → gate (sit m h c x) g ≡ gate m g
  unfolding sit
  sit_other c x = get_or-set_other m.gates h g _ no_gate n

  grant_other : (x : ℕ) → gate (grant m h x) g ≡ gate m g
  unfolding grant
  grant_other x = get_or-set_other m.gates h g _ no_gate n

  pass_other : (x : ℕ) → gate (pass m h x) g ≡ gate m g
  unfolding pass wake push
  pass_other x = grant_other x

  up_other : (x : ℕ) → gate (give_up m h x) g ≡ gate m g
  unfolding give_up
  up_other x = get_or-set_other m.gates h g _ no_gate n

hand_other : (m : Machine) (h g : ℕ) → (g ≡ h → ⊥) → gate (hand_on m h) g ≡ gate m g
unfolding hand_on
hand_other m h g n =
    split (eqb (gate m h).queue.len 0) (λ t. rw t)
    (λ t. rw t (pass_other (advance m h) h g n (first (gate m h).queue) ∙ advance_other m h g n))

leave_other : (m : Machine) (h g : ℕ) → (g ≡ h → ⊥) → gate (leave m h) g ≡ gate m g
unfolding leave
leave_other m h g n = hand_other (give_up m h m.running) h g n ∙ up_other m h g n m.running

enter_other : (m : Machine) (h g : ℕ) → (g ≡ h → ⊥) → gate (enter m h) g ≡ gate m g
unfolding enter set_running
enter_other m h g n =
    split (leb nobody (gate m h).holder) (λ t. rw t (grant_other m h g n m.running))
    (λ t. rw t (join_other (set_running m nobody) h g n m.running))

delay_other : (m : Machine) (h c g : ℕ) → (g ≡ h → ⊥) → gate (delay m h c) g ≡ gate m g
unfolding delay set_running
delay_other m h c g n =
    let r : ℕ = m.running in
    let up : Machine = give_up (set_running m nobody) h r in
    hand_other (sit up h c r) h g n ∙ (sit_other up h g n c r ∙ up_other (set_running m nobody) h g n r)

continue_other : (m : Machine) (h c g : ℕ) → (g ≡ h → ⊥) → gate (continue m h c) g ≡ gate m g
unfolding continue
continue_other m h c g n =
    let up : Machine = give_up m h m.running in
    split (leb nobody (cell m h c)) (λ t. rw t (leave_other m h g n))
    (λ t. rw t (pass_other (sit up h c nobody) h g n (cell m h c) ∙ (sit_other up h g n c nobody ∙ up_other m h g n m.running)))

-- ---- enter, and a new gate, release none
enter-own : (m : Machine) (g : ℕ) → g < length m.gates → Quiet (gate m g) (gate (enter m g) g) 0
unfolding enter set_running
enter-own m g l =
    let r : ℕ = m.running in
    split (leb nobody (gate m g).holder) (λ t. rw (t, grant-own m g l r) (alike refl refl))
    (λ t. rw (t, join-own (set_running m nobody) g l r)
    (record { keeps = λ k i s. stands-pushed (gate m g).queue r k i s; cells = omega arith }))

pub enter-turn : (m : Machine) (h g : ℕ) → g < length m.gates → Turn (gate m g) (gate (enter m h) g) false false
enter-turn m h g l =
    split (eqb g h) (λ t. rw (← eqb-true g h t) (calm (enter-own m g l))) (λ t. still (enter_other m h g (eqb-false g h t)))

granted_turn : (m : Machine) (h g x : ℕ) → g < length m.gates → Turn (gate m g) (gate (grant m h x) g) false false
granted_turn m h g x l =
    split (eqb g h) (λ t. rw (← eqb-true g h t, grant-own m g l x) (calm (alike refl refl)))
    (λ t. still (grant_other m h g (eqb-false g h t) x))

pub make_turn : (m : Machine) (g : ℕ) → g < length m.gates → Turn (gate m g) (gate (make_gate m) g) false false
unfolding make_gate
make_turn m g l =
    let counted : Machine =
    parts m m.processes m.gates m.ready m.clock m.bell m.devices m.running m.created (more m.made 25) in
    granted_turn counted m.made g m.running l

-- ---- a gate with waiters is handed on: the first holds, the others move up
hand_own : (m : Machine) (g : ℕ) → g < length m.gates → 0 < (gate m g).queue.len
    → gate (hand_on m g) g ≡ record { holder = first (gate m g).queue; queue = rest (gate m g).queue; cells = (gate m g).cells }
unfolding hand_on
hand_own m g l b =
    let h : ℕ = first (gate m g).queue in
    rw (ne_eqb (gate m g).queue.len 0 (λ t. omega arith))
    (pass-own (advance m g) g (rw advance_size l) h ∙ ap (λ (w : Gate). with-holder w h) (advance-own m g l))

module _ (m : Machine) (g : ℕ) (l : g < length m.gates) (few : (gate m g).queue.len ≤ 10) where
  leave_own : 0 < (gate m g).queue.len → Freed (gate m g) (gate (leave m g) g)
  unfolding leave
  leave_own b =
      let r : ℕ = m.running in
      let e = up_own m g l r in
      rw (hand_own (give_up m g r) g (rw up_size l) (rw e b), e) (freed few refl refl (omega arith))

  pub leave-turn : (h : ℕ) → Turn (gate m g) (gate (leave m h) g) (eqb h g) (eqb h g)
  leave-turn h =
      split (eqb h g) (λ e. rw (e, eqb-true h g e) (frees_up leave_own)) (λ e. rw e (still (leave_other m h g (λ y. eqb-false h g e (sym y)))))

  -- ---- the cells: c of them is anew
  module _ (c : ℕ) (small : c < 8) (room : length (gate m g).cells ≡ 8) where
    cell_anew : (x : ℕ) → filled (record { holder = (gate m g).holder; queue = (gate m g).queue; cells = set (gate m g).cells c x }) + taken (cell m g c)
        ≡ filled (gate m g) + taken x
    cell_anew x = sum-set taken (gate m g).cells 0 8 c x small (omega arith)

    taken-most : (x : ℕ) → taken x ≤ 1
    taken-most x = split (ltb x nobody) (λ e. rw e (omega arith)) (λ e. rw e (omega arith))

    delay-own : 0 < (gate m g).queue.len → Freed (gate m g) (gate (delay m g c) g)
    unfolding delay set_running
    delay-own b =
        let r : ℕ = m.running in
        let up : Machine = give_up (set_running m nobody) g r in
        let e = up_own (set_running m nobody) g l r in
        let l₁ : g < length up.gates = rw up_size l in
        let e₁ = sit-own up g l₁ c r in
        let z = cell_anew r in
        let y = taken-most r in
        rw (hand_own (sit up g c r) g (rw sit_size l₁) (rw (e₁, e) b), e₁, e) (freed few refl refl (omega arith))

    pub delay-turn : (h : ℕ) → Turn (gate m g) (gate (delay m h c) g) (eqb h g) (eqb h g)
    delay-turn h =
        split (eqb h g) (λ e. rw (e, eqb-true h g e) (frees_up delay-own)) (λ e. rw e (still (delay_other m h c g (λ y. eqb-false h g e (sym y)))))

    -- a continue on a filled cell lets one out
    filled_own : cell m g c < nobody → Quiet (gate m g) (gate (pass (sit (give_up m g m.running) g c nobody) g (cell m g c)) g) 1
    filled_own n =
        let r : ℕ = m.running in
        let up : Machine = give_up m g r in
        let l₁ : g < length up.gates = rw up_size l in
        let z = rw (lt-ltb (cell m g c) nobody n) at (cell_anew nobody) in
        rw (pass-own (sit up g c nobody) g (rw sit_size l₁) (cell m g c), sit-own up g l₁ c nobody, up_own m g l r)
        (record { keeps = λ k i s. s; cells = omega arith })

    continue-own : Turn (gate m g) (gate (continue m g c) g) (leb nobody (cell m g c)) true
    unfolding continue
    continue-own =
        split (leb nobody (cell m g c)) (λ e. rw e (frees_up leave_own)) (λ e. rw e (calm (filled_own (leb-false nobody (cell m g c) e))))

    pub continue-turn : (h : ℕ) → Turn (gate m g) (gate (continue m h c) g) (eqb h g && leb nobody (cell m h c)) (eqb h g)
    continue-turn h =
        split (eqb h g) (λ e. rw (e, eqb-true h g e) continue-own) (λ e. rw e (still (continue_other m h c g (λ y. eqb-false h g e (sym y)))))
