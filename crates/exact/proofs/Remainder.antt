-- The remainder of the sizes, with the dividend's sign
use mathlib.Core.Path.{◌≡◌, refl, sym, ap, ◌∙◌}
use mathlib.Core.Bool.{false}
use mathlib.Core.Logic.{◌⊎◌, inl, inr}
use Prim.Native.Nat.{ℕ, zero, suc, ◌-◌, ◌*◌, ◌/◌, ◌%◌, ◌<◌, ◌≤◌}
use native.Mathlib.Omega.{arith}
use native.Mathlib.Nat.{mod-lt, div-add-mod'}
use lib.IntN.{ℤ, pos, negsuc, neg_ℤ, nat_abs, ◌+ℤ◌, ◌*ℤ◌, neg_ℤ-neg_ℤ, neg_ℤ-+ℤ, pos-+ℤ-pos, pos-*ℤ-pos, negsuc-*ℤ-pos, *ℤ-negsuc}
use lib.Signed.{mag, mag_rem, quot_z, rem_z, non_neg}
use borrow.Author.Tests.{lt-ltb, le-ltb, le-leb, eqb-false}
use Rattle.notation.proofs.Upto.{below?}
use Rattle.word.specs.Word.{signed, word_of, word, fitted}
use Rattle.exact.specs.Remainder.{CompilersRule}

-- ---- over whole numbers
neg_times : (q n : ℕ) → neg_ℤ (pos q) *ℤ pos n ≡ neg_ℤ (pos (q * n))
neg_times zero n = let z : 0 * n ≡ 0 = omega arith in pos-*ℤ-pos 0 n ∙ rw z
neg_times (suc q) n = negsuc-*ℤ-pos q n

times_neg : (m : ℤ) (n : ℕ) (q : ℤ) → m *ℤ pos (suc n) ≡ q → m *ℤ negsuc n ≡ neg_ℤ q
times_neg m n q e = *ℤ-negsuc m n ∙ ap neg_ℤ e

sizes : (x d : ℕ) → pos (x / d * d) +ℤ pos (x % d) ≡ pos x
sizes x d = pos-+ℤ-pos (x / d * d) (x % d) ∙ ap pos (div-add-mod' x d)

negated : (x d : ℕ) → neg_ℤ (pos (x / d * d)) +ℤ neg_ℤ (pos (x % d)) ≡ neg_ℤ (pos x)
negated x d = sym (neg_ℤ-+ℤ (pos (x / d * d)) (pos (x % d))) ∙ ap neg_ℤ (sizes x d)

adds_up : (z d : ℤ) → quot_z z d *ℤ d +ℤ rem_z z d ≡ z
adds_up (pos x) (pos d) = ap (λ (y : ℤ). y +ℤ pos (x % d)) (pos-*ℤ-pos (x / d) d) ∙ sizes x d
adds_up (pos x) (negsuc n) =
    ap (λ (y : ℤ). y +ℤ pos (x % suc n))
    (times_neg (neg_ℤ (pos (x / suc n))) n _ (neg_times (x / suc n) (suc n)) ∙ neg_ℤ-neg_ℤ (pos (x / suc n * suc n)))
    ∙ sizes x (suc n)
adds_up (negsuc x) (pos d) =
    ap (λ (y : ℤ). y +ℤ neg_ℤ (pos (suc x % d))) (neg_times (suc x / d) d) ∙ negated (suc x) d
adds_up (negsuc x) (negsuc n) =
    ap (λ (y : ℤ). y +ℤ neg_ℤ (pos (suc x % suc n)))
    (times_neg (pos (suc x / suc n)) n _ (pos-*ℤ-pos (suc x / suc n) (suc n)))
    ∙ negated (suc x) (suc n)

abs_neg : (n : ℕ) → nat_abs (neg_ℤ (pos n)) ≡ n
abs_neg zero = refl
abs_neg (suc n) = refl

is_small : (z d : ℤ) → 0 < nat_abs d → nat_abs (rem_z z d) < nat_abs d
is_small (pos x) d l = mod-lt x l
is_small (negsuc x) d l = rw (abs_neg (suc x % nat_abs d)) (mod-lt (suc x) l)

below_zero : (n : ℕ) → (neg_ℤ (pos n) ≡ pos 0) ⊎ (non_neg (neg_ℤ (pos n)) ≡ false)
below_zero zero = inl refl
below_zero (suc n) = inr refl

has_sign : (z d : ℤ) → (rem_z z d ≡ pos 0) ⊎ (non_neg (rem_z z d) ≡ non_neg z)
has_sign (pos x) d = inr refl
has_sign (negsuc x) d = below_zero (suc x % nat_abs d)

-- ---- as words
signed_pos : (n : ℕ) → n < 32768 → signed n ≡ pos n
unfolding signed
signed_pos n l = rw (lt-ltb n 32768 l)

signed_neg : (n : ℕ) → n < 32768 → signed (65535 - n) ≡ negsuc n
unfolding signed
signed_neg n l =
    let z : 32768 ≤ 65535 - n = omega arith in
    let k : 65535 - n < 65536 = omega arith in
    rw (le-ltb (65535 - n) 32768 z, lt-ltb (65535 - n) 65536 k) (ap negsuc (omega arith))

back : (z : ℤ) → mag z < 32768 → signed (word_of z) ≡ z
back (pos n) l = signed_pos n l
back (negsuc n) l = signed_neg n l

fits : (z : ℤ) → mag z < 32768 → fitted z ≡ word (word_of z)
unfolding fitted
fits (pos n) l = rw (le-leb n 32767 (omega arith))
fits (negsuc n) l = rw (le-leb n 32767 (omega arith))

size_of : (a : ℕ) → a < 65536 → mag (signed a) < 32768
unfolding signed
size_of a l =
    below? a 32768
    (λ k. rw (lt-ltb a 32768 k) k)
    (λ k. rw (le-ltb a 32768 k, lt-ltb a 65536 l) (omega arith))

pub compilers_rule : CompilersRule
compilers_rule a b la lb nz =
    let z : ℤ = signed a in
    let d : ℤ = signed b in
    let r : ℤ = rem_z z d in
    let m : mag r < 32768 = omega (arith, mag_rem z d, size_of a la) in
    let e : signed (word_of r) ≡ r = back r m in
    let some : 0 < nat_abs d = omega (arith, eqb-false (nat_abs d) 0 nz) in
    record {
      rest = word_of r;
      gives = rw nz (fits r m);
      adds = rw e (sym (adds_up z d));
      small = rw e (is_small z d some);
      sign = rw e (has_sign z d);
    }
