-- Laws of tests and sums over the numbers below n
use mathlib.Core.Path.{◌≡◌, refl, subst}
use mathlib.Core.Bool.{Bool, true, false, ◌&&◌, ◌||◌, not, and-true}
use Prim.Native.Nat.{ℕ, zero, suc, ◌+◌, ◌*◌, ◌≤◌, ◌<◌}
use native.Mathlib.Nat.{suc-mul}
use native.Mathlib.Omega.{arith}
use lib.Dec.{leb, eqb}
use borrow.Author.Tests.{le-leb, lt-leb, ne_eqb}
use Rattle.notation.specs.Upto.{sum_to, all_to}
use Rattle.notation.proofs.Upto.{below?}
use Rattle.word.specs.Word.{bit}

-- ---- tests of all
pub all_same : (p q : ℕ → Bool) (n : ℕ) → ((k : ℕ) → k < n → p k ≡ q k) → all_to p n ≡ all_to q n
unfolding all_to
all_same p q zero h = refl
all_same p q (suc n) h = rw (all_same p q n (λ k l. h k (omega arith)), h n (omega arith))

-- a test that asks nothing from n on is one of the first n
pub all_first : (p : ℕ → Bool) (n k : ℕ) → n ≤ k → all_to (λ i. leb n i || p i) k ≡ all_to p n
unfolding all_to
all_first p n zero h = let e : n ≡ 0 = omega arith in rw e
all_first p n (suc k) h =
    below? k n
    (λ b.
    let e : suc k ≡ n = omega arith in
    subst (λ (x : ℕ). all_to (λ i. leb x i || p i) (suc k) ≡ all_to p x) e (all_same (λ i. leb (suc k) i || p i) p (suc k) (λ i l. rw (lt-leb (suc k) i l))))
    (λ b. rw (all_first p n k b, le-leb n k b) (and-true _))

-- two tests of all are a test of both
swapped : (a b c d : Bool) → (a && b) && (c && d) ≡ (a && c) && (b && d)
swapped true true c d = refl
swapped true false true d = refl
swapped true false false d = refl
swapped false b c d = refl

pub all_both : (p q : ℕ → Bool) (n : ℕ) → all_to p n && all_to q n ≡ all_to (λ k. p k && q k) n
unfolding all_to
all_both p q zero = refl
all_both p q (suc n) = rw (← all_both p q n) (swapped (all_to p n) (p n) (all_to q n) (q n))

-- ---- sums
pub sum-most : (f : ℕ → ℕ) (b n : ℕ) → ((k : ℕ) → k < n → f k ≤ b) → sum_to f n ≤ n * b
unfolding sum_to
sum-most f b zero h = omega arith
sum-most f b (suc n) h =
    let i = sum-most f b n (λ k l. h k (omega arith)) in
    omega (arith, suc-mul n b, h n (omega arith))

pub bit-most : (b : Bool) → bit b ≤ 1
bit-most true = omega arith
bit-most false = omega arith

-- ---- a sum of tests is 0 where each fails
pub none_of_two : (a b : ℕ) → eqb (a + b) 0 ≡ eqb a 0 && eqb b 0
none_of_two zero b = let e : 0 + b ≡ b = omega arith in rw e
none_of_two (suc a) b = rw (ne_eqb (suc a + b) 0 (λ e. omega arith), ne_eqb (suc a) 0 (λ e. omega arith))

bit_not : (b : Bool) → eqb (bit b) 0 ≡ not b
bit_not true = refl
bit_not false = refl

pub none_of : (p : ℕ → Bool) (n : ℕ) → eqb (sum_to (λ k. bit (p k)) n) 0 ≡ all_to (λ k. not (p k)) n
unfolding sum_to all_to
none_of p zero = refl
none_of p (suc n) = rw (none_of_two (sum_to (λ k. bit (p k)) n) (bit (p n)), none_of p n, bit_not (p n))
