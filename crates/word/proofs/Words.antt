-- Why the language's own signed numbers reckon as the definitions do.
use mathlib.Core.Path.{◌≡◌, refl, sym, ap, ◌∙◌}
use mathlib.Core.Bool.{Bool, true, false, ◌&&◌}
use Prim.Native.Nat.{ℕ, zero, suc, ◌+◌, ◌/◌, ◌≤◌, ◌<◌}
use native.Mathlib.Omega.{arith}
use native.Mathlib.Nat.{mul-le-mul, div-le_self}
use native.Mathlib.Numerals.{unary_clauses}
use lib.Dec.{eqb}
use lib.IntN.{ℤ, pos, negsuc, neg_ℤ, nat_abs, ◌+ℤ◌, ◌-ℤ◌, ◌*ℤ◌}
use lib.Signed.{le_z, quot_z, rem_z, mag, mag_rem, ◌≤ℤ◌, ◌<ℤ◌, ≤ℤ_refl}
use mir.Syntax.{w16, w32, w64}
use mir.Val.{SFits, to_z, of_z, bool_byte as from_bool}
use borrow.Author.Rules.{rules}
use borrow.Author.Tests.{eqb-true, eqb-false, lt-ltb, le-ltb, le-leb, lt-leb, eq-eqb, ne_eqb, ltb-false}
use Rattle.notation.specs.If.{if}
use Rattle.notation.proofs.Upto.{below?}
use Rattle.std.specs.Prelude.{Result, Err}
use Rattle.std.specs.Int.{FitsUnsignedBits}
use Rattle.std.proofs.lemmas.Int.{ints, to_z-of_z, of_z-to_z, by_lt_z, fits_signed_from_abs, unsigned_abs-mul}
use Rattle.word.specs.declared.Fault.{Fault}
use Rattle.word.specs.Word.{Reckoned, word, fault, number_of, said, signed, word_of, within, is_zero, fitted, indexed}
use Rattle.word.specs.Word.{index_w, range_w, case_w, div_w, mod_w, equal_w}

-- each test on the way, as the definitions have it
pub ruleset tests = (rules, lt-ltb, le-ltb, eq-eqb, ne_eqb)

-- A word's value is the signed number of the same bits
signed_is : (x : ℕ) → x < 65536 → to_z w16 x ≡ signed x
unfolding signed
signed_is x h =
    below? x 32768
    (λ l. rw (lt-ltb x 32768 l))
    (λ l. rw (le-ltb x 32768 l, lt-ltb x 65536 h) (simp unary_clauses))

pub value_is : {x : ℕ} {y z : ℤ} → x < 65536 → y ≡ to_z w16 x → z ≡ to_z w16 (of_z w16 y)
    → (to_z w32 (of_z w32 z) ≡ signed x) × SFits w16 (to_z w32 (of_z w32 z))
value_is {x} {y} {z} h e k =
    let is : to_z w32 (of_z w32 z) ≡ to_z w16 x = omega (arith, ints) in
    (is ∙ signed_is x h, omega (arith, ints))

signed_injective : {a b : ℕ} → a < 65536 → b < 65536 → signed a ≡ signed b → a ≡ b
signed_injective {a} {b} ha hb e =
    let same : to_z w16 a ≡ to_z w16 b = signed_is a ha ∙ e ∙ sym (signed_is b hb) in
    sym (of_z-to_z w16 a ha) ∙ ap (of_z w16) same ∙ of_z-to_z w16 b hb

-- A whole number as a word
pub word_fits : (z : ℤ) → SFits w16 z → word (of_z w16 z) ≡ fitted z
unfolding fitted
word_fits (pos n) f = let h : n ≤ 32767 = omega (arith, f.sfits) in rw (le-leb n 32767 h)
word_fits (negsuc n) f = let h : n ≤ 32767 = omega (arith, f.sfits) in rw (le-leb n 32767 h) (ap word (omega arith))

pub word_unfit : (z : ℤ) → (SFits w16 z → ⊥) → fault 1 ≡ fitted z
unfolding fitted
word_unfit (pos n) f = below? n 32768 (λ l. absurd (f (record { sfits = l }))) (λ l. rw (lt-leb n 32767 (omega arith)))
word_unfit (negsuc n) f = below? n 32768 (λ l. absurd (f (record { sfits = l }))) (λ l. rw (lt-leb n 32767 (omega arith)))

pub ruleset fits = (word_fits, word_unfit)

-- What the code keeps between two steps is the number itself where that fits
abbrev held : ℤ → ℤ
held z = to_z w32 (of_z w32 z)

pub kept : {z y : ℤ} → SFits w16 z → z ≡ y → held z ≡ y
kept {z} f e = to_z-of_z w32 z (omega (arith, ints)) ∙ e

pub reckoned : {z y : ℤ} {q : Reckoned} → q ≡ fitted (held z) → SFits w32 z → z ≡ y → q ≡ fitted y
reckoned {z} e f k = e ∙ ap fitted (to_z-of_z w32 z f ∙ k)

pub ruleset values = (kept, reckoned)

-- DIV and MOD
pub quot-fits : {y : ℤ} (z : ℤ) → SFits w16 y → SFits w32 (quot_z (held y) z)
quot-fits {y} z f = record { sfits = omega (arith, ints, mag-quot (held y) z) }
  where
    mag-neg : (n : ℕ) → mag (neg_ℤ (pos n)) ≤ n
    mag-neg zero = omega arith
    mag-neg (suc n) = omega arith

    mag-quot : (y z : ℤ) → mag (quot_z y z) ≤ mag y + 1
    mag-quot (pos a) (pos d) = omega (arith, div-le_self a d)
    mag-quot (pos a) (negsuc d) = omega (arith, mag-neg (a / suc d), div-le_self a (suc d))
    mag-quot (negsuc a) (pos d) = omega (arith, mag-neg (suc a / d), div-le_self (suc a) d)
    mag-quot (negsuc a) (negsuc d) = omega (arith, div-le_self (suc a) (suc d))

pub rem-fits : {y : ℤ} (z : ℤ) → SFits w16 y → SFits w32 (rem_z (held y) z)
rem-fits {y} z f = record { sfits = omega (arith, ints, mag_rem (held y) z) }

module _ {b : ℕ} (h : b < 65536) (nonzero : b ≡ 0 → ⊥) where
  value_nonzero : signed b ≡ pos 0 → ⊥
  unfolding signed
  value_nonzero e = nonzero (signed_injective h (omega arith) e)

  pub divisor : {y : ℤ} → SFits w16 y → y ≡ signed b → 0 < of_z w32 y
  divisor {y} f e = at y f (λ k. value_nonzero (sym e ∙ k))
    where
      at : (z : ℤ) → SFits w16 z → (z ≡ pos 0 → ⊥) → 0 < of_z w32 z
      at (pos zero) f n = absurd (n refl)
      at (pos (suc m)) f n = omega arith
      at (negsuc m) f n = omega (arith, f.sfits)

  nonzero_size : is_zero (signed b) ≡ false
  nonzero_size = ne_eqb (nat_abs (signed b)) 0 (λ e. value_nonzero (omega (arith, ints)))

  pub is_div : (a : ℕ) {q : Reckoned} → q ≡ fitted (quot_z (signed a) (signed b)) → q ≡ div_w a b
  is_div a e = rw nonzero_size e

  pub is_mod : (a : ℕ) {q : Reckoned} → q ≡ fitted (rem_z (signed a) (signed b)) → q ≡ mod_w a b
  is_mod a e = rw nonzero_size e

pub div_of_zero : (a : ℕ) {b : ℕ} → b ≡ 0 → fault 1 ≡ div_w a b
unfolding signed
div_of_zero a e = rw e

pub mod_of_zero : (a : ℕ) {b : ℕ} → b ≡ 0 → fault 1 ≡ mod_w a b
unfolding signed
mod_of_zero a e = rw e

pub ruleset quotients = (values, is_div, div_of_zero, is_mod, mod_of_zero, divisor, quot-fits, rem-fits)

-- The order of two numbers, as a test
le_true : {y z : ℤ} → y ≤ℤ z → le_z y z ≡ true
le_true h = grind (arith, ints)

le_false : {y z : ℤ} → z <ℤ y → le_z y z ≡ false
le_false h = grind (arith, ints)

le_same : (a b c d : ℤ) → (a ≤ℤ b → c ≤ℤ d) → (b <ℤ a → d <ℤ c) → le_z a b ≡ le_z c d
le_same a b c d f g = by_lt_z b a (λ l. le_false l ∙ sym (le_false (g l))) (λ l. le_true l ∙ sym (le_true (f l)))

-- EQUAL
pub is_equal : {a b q : ℕ} → a < 65536 → b < 65536 → q ≡ from_bool (eqb a b) → q ≡ equal_w a b
is_equal {a} {b} ha hb e = e ∙ by (eqb a b) refl
  where
    by : (t : Bool) → eqb a b ≡ t → from_bool t ≡ equal_w a b
    by true k = let z : signed a ≡ signed b = ap signed (eqb-true a b k) in rw (z, le_true (≤ℤ_refl (signed b)))
    by false k =
        by_lt_z (signed a) (signed b)
        (λ l. let below : signed a ≤ℤ signed b = omega (arith, ints) in rw (le_true below, le_false l))
        (λ g. by_lt_z (signed b) (signed a)
        (λ l. rw (le_false l))
        (λ h. absurd (eqb-false a b k (signed_injective ha hb (omega (arith, ints))))))

-- RANGE
module _ {x y : ℤ} (i min max : ℕ) (fx : SFits w16 x) (fy : SFits w16 y) (ex : x ≡ signed i) (ey : y ≡ signed min) where
  pub below_range : held x <ℤ held y → fault 3 ≡ range_w i min max
  unfolding range_w
  below_range h = let low : x <ℤ y = omega (arith, ints) in rw (← ex, ← ey, le_false low)

  module _ {z : ℤ} (fz : SFits w16 z) (ez : z ≡ signed max) (g : held y ≤ℤ held x) where
    low_is : le_z y x ≡ true
    low_is = let low : y ≤ℤ x = omega (arith, ints) in le_true low

    pub above_range : held z <ℤ held x → fault 3 ≡ range_w i min max
    unfolding range_w
    above_range h = let high : z <ℤ x = omega (arith, ints) in rw (← ex, ← ey, ← ez, low_is, le_false high)

    pub in_range : held x ≤ℤ held z → word i ≡ range_w i min max
    unfolding range_w
    in_range h = let high : x ≤ℤ z = omega (arith, ints) in rw (← ex, ← ey, ← ez, low_is, le_true high)

pub ruleset ranges = (below_range, above_range, in_range)

-- A number that the code takes as a place among n: from 0 to n - 1
module _ {z : ℤ} where
  is_place : {k : ℕ} → FitsUnsignedBits 16 z → k ≡ nat_abs z → z ≡ pos k
  is_place f e = by z f ∙ ap pos (sym e)
    where
      by : (y : ℤ) → FitsUnsignedBits 16 y → y ≡ pos (nat_abs y)
      by (pos m) g = refl
      by (negsuc m) g = absurd g

  module _ (n : ℕ) where
    among : {k : ℕ} → z ≡ pos k → k < n → within (pos 0) z (pos n -ℤ pos 1) ≡ true
    among e h =
        let low : pos 0 ≤ℤ z = omega (arith, ints) in
        let high : z ≤ℤ (pos n -ℤ pos 1) = omega (arith, ints) in
        rw (le_true low, le_true high)

    past : {k : ℕ} → z ≡ pos k → n ≤ k → within (pos 0) z (pos n -ℤ pos 1) ≡ false
    past e h =
        let low : pos 0 ≤ℤ z = omega (arith, ints) in
        let high : (pos n -ℤ pos 1) <ℤ z = omega (arith, ints) in
        rw (le_true low, le_false high)

apart : (z : ℤ) (n : ℕ) → (FitsUnsignedBits 16 z → ⊥) → n ≤ 65536 → within (pos 0) z (pos n -ℤ pos 1) ≡ false
apart z n f h = by z f
  where
    by : (y : ℤ) → (FitsUnsignedBits 16 y → ⊥) → within (pos 0) y (pos n -ℤ pos 1) ≡ false
    by (pos k) g = past {z = pos k} n {k = k} refl (below? k 65536 (λ l. absurd (g l)) (λ l. omega arith))
    by (negsuc k) g = refl

-- CASEJUMP
module _ {x y : ℤ} (i min m : ℕ) (fx : SFits w16 x) (fy : SFits w16 y) (ex : x ≡ signed i) (ey : y ≡ signed min) where
  case_w_by_place : case_w i min m ≡ if (within (pos 0) (held (held x -ℤ held y)) (pos m -ℤ pos 1)) (word (nat_abs (held (held x -ℤ held y)))) (fault 3)
  unfolding case_w
  case_w_by_place =
      let z : held (held x -ℤ held y) ≡ x -ℤ y = omega (arith, ints) in
      rw (z, ← ex, ← ey, le_same y x (pos 0) (x -ℤ y) (λ h. omega (arith, ints)) (λ h. omega (arith, ints)), le_same x (y +ℤ pos m -ℤ pos 1) (x -ℤ y) (pos m -ℤ pos 1) (λ h. omega (arith, ints)) (λ h. omega (arith, ints)))

  pub among_cases : {k : ℕ} → FitsUnsignedBits 16 (held (held x -ℤ held y)) → k ≡ nat_abs (held (held x -ℤ held y)) → k < m → word k ≡ case_w i min m
  among_cases f e h = let z = is_place f e in rw (case_w_by_place, among m z h, e)

  pub past_cases : {k : ℕ} → FitsUnsignedBits 16 (held (held x -ℤ held y)) → k ≡ nat_abs (held (held x -ℤ held y)) → m ≤ k → fault 3 ≡ case_w i min m
  past_cases f e h = let z = is_place f e in rw (case_w_by_place, past m z h)

  pub apart_from_cases : m < 65536 → (FitsUnsignedBits 16 (held (held x -ℤ held y)) → ⊥) → fault 3 ≡ case_w i min m
  apart_from_cases h f = rw (case_w_by_place, apart _ m f (omega arith))

pub ruleset cases = (among_cases, past_cases, apart_from_cases)

-- a place among m cases is below m: for the engine's CASEJUMP
pub case_below : (i min m k : ℕ) → word k ≡ case_w i min m → k < m
unfolding case_w
case_below i min m k = by (le_z (signed min) (signed i)) (le_z (signed i) (signed min +ℤ pos m -ℤ pos 1)) refl refl
  where
    by : (t u : Bool) → le_z (signed min) (signed i) ≡ t → le_z (signed i) (signed min +ℤ pos m -ℤ pos 1) ≡ u → word k ≡ if (t && u) (word (nat_abs (signed i -ℤ signed min))) (fault 3) → k < m
    by true true e f g = let z : k ≡ nat_abs (signed i -ℤ signed min) = cc in omega (arith, ints)
    by true false e f g = cc
    by false u e f g = cc

-- INDEX: where RANGE gives a word, i is within its bounds
pub index_outside : {r : Result ℕ Fault} {f : Fault} (address i min max len : ℕ) → said r ≡ range_w i min max → r ≡ Err f → fault (number_of f) ≡ index_w address i min max len
unfolding range_w index_w
index_outside {f = f} address i min max len told e = by (within (signed min) (signed i) (signed max)) (rw e at told)
  where
    by : (t : Bool) → fault (number_of f) ≡ if t (word i) (fault 3) → fault (number_of f) ≡ if t (if (within (pos 0) (indexed address i min len) (pos 4095)) (word (word_of (indexed address i min len))) (fault 2)) (fault 3)
    by true k = cc
    by false k = k

abbrev held64 : ℤ → ℤ
held64 z = to_z w64 (of_z w64 z)

module _ {x y a b s k : ℤ} {len : ℕ} (es : s ≡ held (held x -ℤ held y)) (eb : b ≡ held a) (ek : k ≡ pos len) (fx : SFits w16 x) (fy : SFits w16 y) (fa : SFits w16 a) (h : len < 65536) where
  steps_are : held64 s ≡ x -ℤ y
  steps_are = omega (arith, ints)

  len_is : held64 k ≡ pos len
  len_is = omega (arith, ints)

  small : nat_abs (held64 s *ℤ held64 k) ≤ 4294836225
  small =
      let p : nat_abs (held64 s) ≤ 65535 = omega (arith, ints) in
      let q : nat_abs (held64 k) ≤ 65535 = omega (arith, ints) in
      omega (arith, unsigned_abs-mul (held64 s) (held64 k), mul-le-mul p q)

  pub product_fits : SFits w64 (held64 s *ℤ held64 k)
  product_fits = fits_signed_from_abs w64 _ (omega (arith, small))

  pub sum_fits : SFits w64 (held64 b +ℤ held64 (held64 s *ℤ held64 k))
  sum_fits = omega (arith, ints, small)

  pub sum_is : (address i min : ℕ) → a ≡ signed address → x ≡ signed i → y ≡ signed min → held64 (held64 b +ℤ held64 (held64 s *ℤ held64 k)) ≡ indexed address i min len
  sum_is address i min ea ex ey =
      let p : held64 s *ℤ held64 k ≡ (x -ℤ y) *ℤ pos len = rw (steps_are, len_is) in
      rw (← ea, ← ex, ← ey) (omega (arith, ints, small, p))

pub ruleset moves = (sum_is, sum_fits, product_fits)

module _ {w : ℕ} {z : ℤ} (address i min max len : ℕ) (told : word w ≡ range_w i min max) (ez : z ≡ indexed address i min len) (fz : mag z < 9223372036854775808) where
  index_w_by_place : index_w address i min max len ≡ if (within (pos 0) (held64 z) (pos 4096 -ℤ pos 1)) (word (word_of (held64 z))) (fault 2)
  unfolding range_w index_w
  index_w_by_place =
      let e : held64 z ≡ z = to_z-of_z w64 z (record { sfits = fz }) in
      rw (by _ told, e, ez)
    where
      by : (t : Bool) → word w ≡ if t (word i) (fault 3) → t ≡ true
      by true e = refl
      by false e = cc

  pub index_inside : {n : ℕ} → FitsUnsignedBits 16 (held64 z) → n ≡ nat_abs (held64 z) → n < 4096 → word n ≡ index_w address i min max len
  index_inside f e l = let p = is_place f e in rw (index_w_by_place, among 4096 p l, p)

  pub index-above : {n : ℕ} → FitsUnsignedBits 16 (held64 z) → n ≡ nat_abs (held64 z) → 4096 ≤ n → fault 2 ≡ index_w address i min max len
  index-above f e l = let p = is_place f e in rw (index_w_by_place, past 4096 p l)

  pub index_apart : (FitsUnsignedBits 16 (held64 z) → ⊥) → fault 2 ≡ index_w address i min max len
  index_apart f = rw (index_w_by_place, apart _ 4096 f (omega arith))

pub ruleset indexes = (index_outside, index_inside, index-above, index_apart)
