-- Laws of lists and of counting: one element anew, sums over a list, the queue, the held gates, and that ten have room for one more
use mathlib.Core.Path.{◌≡◌, refl, subst, ◌∙◌}
use mathlib.Core.Bool.{Bool, true, false}
use mathlib.Core.List.{List}
use Prim.Native.Nat.{ℕ, zero, suc, ◌+◌, ◌-◌, ◌<◌, ◌≤◌}
use native.Mathlib.Omega.{arith}
use native.Mathlib.Numerals.{add-one}
use lib.Dec.{ltb}
use lib.ListN.{length, get_or, set, length-set}
use lib.Seq.{get_or-set_same, get_or-set_other}
use borrow.Author.Tests.{lt-ltb, ltb-true}
use Rattle.notation.specs.Upto.{sum_to}
use Rattle.notation.proofs.Upto.{split, below?, sum_same, sum-last, sum-get, sum-none, sum_first, sum_both}
use Rattle.word.specs.Word.{bit}
use Rattle.machine.specs.declared.Queue.{Queue}
use Rattle.machine.specs.declared.Process.{Process}
use Rattle.machine.specs.Queue.{first, pushed, shifted, rest}
use Rattle.machine.specs.Gate.{latest, entered, given}
use Rattle.machine.specs.Sound.{sits, in_queue, held_of}
use Rattle.machine.proofs.Sits.{sits_self, sits_other}

-- ---- a test as a number; who sits on a seat
pub bit-none : (b : Bool) → bit b ≡ 0 → b ≡ false
bit-none true e = absurd (omega arith)
bit-none false e = refl

-- ---- sums
-- of a list with place i anew
pub sum-set : {A : Type 0} (f : A → ℕ) (l : List A) (d : A) (n i : ℕ) (x : A) → i < n → n ≤ length l
    → sum_to (λ k. f (get_or (set l i x) k d)) n + f (get_or l i d) ≡ sum_to (λ k. f (get_or l k d)) n + f x
unfolding sum_to
sum-set f l d zero i x b h = absurd (omega arith)
sum-set f l d (suc n) i x b h =
    below? i n
    (λ c.
    let s = sum-set f l d n i x c (omega arith) in
    let o = get_or-set_other l i n x d (λ e. omega arith) in
    rw o (omega arith))
    (λ c.
    let e : n ≡ i = omega arith in
    let s = sum_same (λ k. f (get_or (set l n x) k d)) (λ k. f (get_or l k d)) n (λ k b. rw (get_or-set_other l n k x d (λ e. omega arith))) in
    subst
    (λ (j : ℕ). sum_to (λ k. f (get_or (set l j x) k d)) (suc n) + f (get_or l j d) ≡ sum_to (λ k. f (get_or l k d)) (suc n) + f x)
    e (rw (get_or-set_same l n x d (omega arith)) (omega arith)))

-- ---- numbers in a row: one more, and without the first
row_more : (l : List ℕ) (n q x : ℕ) → n < length l
    → sum_to (λ k. sits q (get_or (set l n x) k 0)) (n + 1) ≡ sum_to (λ k. sits q (get_or l k 0)) n + sits q x
row_more l n q x h =
    let s =
    sum_same (λ k. sits q (get_or (set l n x) k 0)) (λ k. sits q (get_or l k 0)) n
    (λ k b. rw (get_or-set_other l n k x 0 (λ e. omega arith))) in
    let t = sum-last (λ k. sits q (get_or (set l n x) k 0)) n in
    rw (add-one n, t, s, get_or-set_same l n x 0 h)

-- ---- a queue of ten places, in which all that stand have a property
pub record Lined (P : ℕ → Type 0) (w : Queue) : Type 0 where
  pub full : length w.at ≡ 10
  pub few : w.len ≤ 10
  pub each : (k : ℕ) → k < w.len → P (get_or w.at k 0)

pub pushed_lined : {P : ℕ → Type 0} {w : Queue} {h : ℕ} → Lined P w → P h → Lined P (pushed w h)
unfolding pushed
pushed_lined {w = w} {h = h} t p =
    split (ltb w.len 10)
    (λ e. rw e
    (record {
      full = length-set w.at w.len h ∙ t.full;
      few = omega (arith, ltb-true w.len 10 e);
      each = λ k l.
          below? k w.len
          (λ b. rw (get_or-set_other w.at w.len k h 0 (λ e. omega arith)) (t.each k b))
          (λ b.
          let s : k ≡ w.len = omega arith in
          rw (s, get_or-set_same w.at w.len h 0 (omega (arith, t.full, ltb-true w.len 10 e))) p);
    }))
    (λ e. rw e t)

pub shifted_at : (l : List ℕ) (k : ℕ) → k < 9 → get_or (shifted l) k 0 ≡ get_or l (suc k) 0
shifted_at l zero h = refl
shifted_at l (suc zero) h = refl
shifted_at l (suc (suc zero)) h = refl
shifted_at l (suc (suc (suc zero))) h = refl
shifted_at l (suc (suc (suc (suc zero)))) h = refl
shifted_at l (suc (suc (suc (suc (suc zero))))) h = refl
shifted_at l (suc (suc (suc (suc (suc (suc zero)))))) h = refl
shifted_at l (suc (suc (suc (suc (suc (suc (suc zero))))))) h = refl
shifted_at l (suc (suc (suc (suc (suc (suc (suc (suc zero)))))))) h = refl
shifted_at l (suc (suc (suc (suc (suc (suc (suc (suc (suc k))))))))) h = absurd (omega arith)

pub rest_lined : {P : ℕ → Type 0} {w : Queue} → Lined P w → Lined P (rest w)
unfolding rest
rest_lined {w = w} t =
    record {
      full = refl;
      few = omega (arith, t.few);
      each = λ k l. rw (shifted_at w.at k (omega (arith, t.few))) (t.each (suc k) (omega arith));
    }

-- who stands in a queue is counted there
pub stands : (w : Queue) (k : ℕ) → k < w.len → 0 < in_queue (get_or w.at k 0) w
unfolding in_queue
stands w k l =
    let q : ℕ = get_or w.at k 0 in
    let g = sum-get (λ j. sits q (get_or w.at j 0)) w.len k l in
    let s = sits_self q in
    omega arith

-- another property of all that stand there
pub lined_as : {P Q : ℕ → Type 0} {w : Queue} → Lined P w → ((q : ℕ) → 0 < in_queue q w → P q → Q q) → Lined Q w
lined_as {w = w} t f =
    record { full = t.full; few = t.few; each = λ k l. f (get_or w.at k 0) (stands w k l) (t.each k l) }

pub in_pushed : {P : ℕ → Type 0} {w : Queue} (q h : ℕ) → Lined P w → w.len < 10 → in_queue q (pushed w h) ≡ in_queue q w + sits q h
unfolding in_queue pushed
in_pushed {w = w} q h t b = rw (lt-ltb w.len 10 b) (row_more w.at w.len q h (omega (arith, t.full)))

pub in_rest : {P : ℕ → Type 0} {w : Queue} (q : ℕ) → Lined P w → 0 < w.len → in_queue q w ≡ sits q (first w) + in_queue q (rest w)
unfolding in_queue rest
in_rest {w = w} q t b =
    let n : ℕ = w.len - 1 in
    let e : w.len ≡ suc n = omega arith in
    let s =
    sum_same (λ k. sits q (get_or (shifted w.at) k 0)) (λ k. sits q (get_or w.at (suc k) 0)) n
    (λ k l. rw (shifted_at w.at k (omega (arith, t.few)))) in
    let c = sum_first (λ k. sits q (get_or w.at k 0)) n in
    let z : suc n - 1 ≡ n = omega arith in
    rw (e, c, z, s)

-- ---- room: a queue that repeats none of the first n, and lacks h, has fewer than n
sum-sits : (x n : ℕ) → x < n → sum_to (λ q. sits q x) n ≡ 1
unfolding sum_to
sum-sits x zero l = absurd (omega arith)
sum-sits x (suc n) l =
    below? x n
    (λ h. let i = sum-sits x n h in let s = sits_other n x (λ e. omega arith) in omega arith)
    (λ h.
    let e : n ≡ x = omega arith in
    let z = sum-none (λ q. sits q n) n (λ q b. sits_other q n (λ e. omega arith)) in
    subst (λ (y : ℕ). sum_to (λ q. sits q y) (suc n) ≡ 1) e (omega (arith, sits_self n)))

sum_counts : (f : ℕ → ℕ) (len n : ℕ) → ((k : ℕ) → k < len → f k < n) → sum_to (λ q. sum_to (λ k. sits q (f k)) len) n ≡ len
unfolding sum_to
sum_counts f zero n h = sum-none _ n (λ q l. refl)
sum_counts f (suc len) n h =
    let i = sum_counts f len n (λ k l. h k (omega arith)) in
    let s = sum-sits (f len) n (h len (omega arith)) in
    let b = sum_both (λ q. sum_to (λ k. sits q (f k)) len) (λ q. sits q (f len)) n in
    omega arith

sum-most : (f : ℕ → ℕ) (n : ℕ) → ((q : ℕ) → q < n → f q ≤ 1) → sum_to f n ≤ n
unfolding sum_to
sum-most f zero b = omega arith
sum-most f (suc n) b = let i = sum-most f n (λ q l. b q (omega arith)) in let c = b n (omega arith) in omega arith

sum_less : (f : ℕ → ℕ) (n h : ℕ) → h < n → f h ≡ 0 → ((q : ℕ) → q < n → f q ≤ 1) → sum_to f n < n
unfolding sum_to
sum_less f zero h l z b = absurd (omega arith)
sum_less f (suc n) h l z b =
    below? h n
    (λ k. let i = sum_less f n h k z (λ q l. b q (omega arith)) in let c = b n (omega arith) in omega arith)
    (λ k.
    let e : h ≡ n = omega arith in
    let z' = rw e at z in
    let i = sum-most f n (λ q l. b q (omega arith)) in
    omega arith)

pub has_room_lem : {w : Queue} (n h : ℕ) → Lined (λ q. q < n) w → h < n → in_queue h w ≡ 0 → ((q : ℕ) → q < n → in_queue q w ≤ 1) → w.len < n
unfolding in_queue
has_room_lem {w = w} n h t l z b =
    let c = sum_counts (λ k. get_or w.at k 0) w.len n t.each in
    let s = sum_less (λ q. in_queue q w) n h l z b in
    omega arith

-- ---- the held gates
pub held-holding : (p : Process) (g j : ℕ) → length p.held ≡ 8 → p.holds < 8 → held_of (entered p g) j ≡ held_of p j + sits j g
unfolding held_of entered
held-holding p g j e b = rw (lt-ltb p.holds 8 b) (row_more p.held p.holds j g (omega arith))

pub held_dropping : (p : Process) (j : ℕ) → 0 < p.holds → held_of p j ≡ held_of (given p) j + sits j (latest p)
unfolding held_of given
held_dropping p j b =
    let n : ℕ = p.holds - 1 in
    let e : p.holds ≡ suc n = omega arith in
    let s = sum-last (λ k. sits j (get_or p.held k 0)) n in
    let z : suc n - 1 ≡ n = omega arith in
    rw (e, s, z)
