-- The selection keeps every process in its place, and leaves nobody ready while nobody runs
use mathlib.Core.Path.{◌≡◌}
use mathlib.Core.Bool.{◌&&◌, not}
use Prim.Native.Nat.{ℕ, zero, suc, ◌<◌, ◌≤◌}
use native.Mathlib.Omega.{arith}
use lib.Dec.{ltb, leb, eqb}
use lib.Seq.{get_or-set_other}
use borrow.Author.Tests.{leb-true, leb-false, ltb-true, ltb-false}
use Rattle.notation.proofs.Upto.{split, both, below?}
use Rattle.machine.specs.declared.Machine.{Machine}
use Rattle.machine.specs.State.{nobody, no_queue, proc, ready}
use Rattle.machine.specs.Classes.{set_running, push, pull, wake, some_ready, best, start, due, source, count_from, selection, aside, selects, select}
use Rattle.kept.proofs.Nearly.{Placed, Sound}
use Rattle.kept.proofs.Frames.{recounted}
use Rattle.kept.proofs.Moves.{take_running, put_running, put-ready, take-ready}

start_kept : {m : Machine} (c : ℕ) → c < 3 → nobody ≤ m.running → 0 < (ready m c).len → Placed m → Placed (start m c)
unfolding start pull
start_kept c d e l f = put_running e (take-ready c d l f)

start-runs : {m : Machine} (c : ℕ) → c < 3 → 0 < (ready m c).len → Placed m → (start m c).running < nobody
unfolding start set_running
start-runs c d l f = let b = ((f.classes.each c d).each 0 l).0 in omega (arith, f.numbers.few)

-- the best class that is ready has a first; where none is ready, each is empty
best-some : (m : Machine) → best m < 3 → 0 < (ready m (best m)).len
unfolding best
best-some m =
    split (some_ready m 0) (λ t. rw t (λ b. ltb-true 0 _ t))
    (λ t₀. split (some_ready m 1) (λ t. rw (t₀, t) (λ b. ltb-true 0 _ t))
    (λ t₁. split (some_ready m 2) (λ t. rw (t₀, t₁, t) (λ b. ltb-true 0 _ t))
    (λ t. rw (t₀, t₁, t) (λ b. absurd (omega arith)))))

best_none : (m : Machine) → 3 ≤ best m → (c : ℕ) → c < 3 → (ready m c).len ≡ 0
unfolding best
best_none m =
    split (some_ready m 0) (λ t. rw t (λ b. absurd (omega arith)))
    (λ t₀. split (some_ready m 1) (λ t. rw (t₀, t) (λ b. absurd (omega arith)))
    (λ t₁. split (some_ready m 2) (λ t. rw (t₀, t₁, t) (λ b. absurd (omega arith)))
    (λ t₂ b c. three c (ltb-false 0 _ t₀) (ltb-false 0 _ t₁) (ltb-false 0 _ t₂))))
  where
    three : (c : ℕ) → (ready m 0).len ≤ 0 → (ready m 1).len ≤ 0 → (ready m 2).len ≤ 0 → c < 3 → (ready m c).len ≡ 0
    three zero a b c d = omega arith
    three (suc zero) a b c d = omega arith
    three (suc (suc zero)) a b c d = omega arith
    three (suc (suc (suc n))) a b c d = absurd (omega arith)

pub wake_other : (m : Machine) (h c : ℕ) → (c ≡ (proc m h).class → ⊥) → ready (wake m h) c ≡ ready m c
unfolding wake push
wake_other m h c n = get_or-set_other m.ready (proc m h).class c _ no_queue n

-- the class that a selection comes from has a first
source-some : (m : Machine) → source m < 3 → 0 < (ready m (source m)).len
unfolding source due
source-some m =
    split (leb 8 m.count && some_ready m 2)
    (λ t. rw t (λ b. ltb-true 0 _ (both (leb 8 m.count) (some_ready m 2) t).1))
    (λ t. rw t (best-some m))

source-low : (m : Machine) → best m < 3 → source m < 3
unfolding source due
source-low m b = split (leb 8 m.count && some_ready m 2) (λ t. rw t (omega arith)) (λ t. rw t b)

pub counts_low : (m : Machine) (c : ℕ) → m.count ≤ 8 → count_from m c ≤ 8
unfolding count_from
counts_low m c b =
    split (eqb c 2) (λ t. rw t (omega arith))
    (λ t. split (some_ready m 2)
    (λ s. split (ltb m.count 8) (λ p. rw (t, s, p) (omega (arith, ltb-true m.count 8 p))) (λ p. rw (t, s, p) b))
    (λ s. rw (t, s) b))

running_sound : {m : Machine} → Placed m → m.running < nobody → Sound m
running_sound f b = record { placed = f; idle = λ n. absurd (omega arith) }

selection-sound : {m : Machine} → nobody ≤ m.running → best m < 3 → Placed m → Sound (selection m)
unfolding selection
selection-sound {m} n b f =
    let c = source-low m b in
    let l = source-some m c in
    let r = start-runs (source m) c l f in
    running_sound
    (recounted (count_from m (source m)) (due m) (counts_low m (source m) f.numbers.low) (λ t. absurd (omega arith)) (start_kept (source m) c n l f)) r

-- who is ready is ready still where the running process has gone to the tail of a class behind his
best-low : (m : Machine) (c : ℕ) → c < 3 → 0 < (ready m c).len → best m < 3
best-low m c d l = below? (best m) 3 (λ b. b) (λ b. absurd (omega (arith, best_none m b c d)))

swap_sound : {m : Machine} → m.running < nobody → best m < (proc m m.running).class → best m < 3 → Placed m
    → Sound (selection (wake (set_running m nobody) m.running))
unfolding set_running wake push
swap_sound {m} b k d f =
    let l = best-some m d in
    let same = wake_other (set_running m nobody) m.running (best m) (λ t. omega arith) in
    selection-sound (omega arith) (best-low _ (best m) d (rw same l)) (put-ready b (take_running f))

pub select-sound : {m : Machine} → Placed m → Sound (select m)
unfolding select selects aside
select-sound {m} f =
    let c : ℕ = best m in
    let r : ℕ = m.running in
    split (leb nobody r)
    (λ t.
    let n = leb-true nobody r t in
    split (ltb c 3)
    (λ s. rw (t, s) (selection-sound n (ltb-true c 3 s) f))
    (λ s. rw (t, s) (record { placed = f; idle = λ _. best_none m (ltb-false c 3 s) })))
    (λ t.
    let b = leb-false nobody r t in
    split (not m.mark && ltb c (proc m r).class && ltb c 3)
    (λ s.
    let k = both (not m.mark && ltb c (proc m r).class) _ s in
    let better = ltb-true c _ (both (not m.mark) _ k.0).1 in
    rw (t, s) (swap_sound b better (ltb-true c 3 k.1) f))
    (λ s. rw (t, s) (running_sound f b)))
