-- The tests and the sums of a list are those of its places
use mathlib.Core.Path.{◌≡◌, refl, sym, ◌∙◌}
use mathlib.Core.Bool.{Bool, true, ◌&&◌, not, and-true, and_assoc}
use mathlib.Core.List.{List, [], ◌∷◌}
use Prim.Native.Nat.{ℕ, zero, suc, ◌+◌, ◌≤◌}
use native.Mathlib.Omega.{arith}
use native.Mathlib.Numerals.{add-one}
use lib.ListN.{length, get_or, take}
use Rattle.std.specs.List.{list_all, list_any, fold, sum_by, zip, enumerate_from}
use Rattle.std.proofs.lemmas.List.{take_all, length-take, length-take-le, get_or-take}
use Rattle.std.proofs.lemmas.List.Folds.{list_all_more}
use Rattle.std.proofs.lemmas.List.Sums.{sum_by_more}
use Rattle.std.proofs.lemmas.List.FromFn.{length-enumerate_from, get_or-enumerate_from}
use Rattle.std.proofs.lemmas.Slice.Zip.{length-zip, get_or-zip}
use Rattle.notation.specs.Upto.{sum_to, all_to}
use Rattle.notation.proofs.Upto.{split}
use Rattle.sound.proofs.Laws.{all_same}

-- ---- of the first n
module _ {X : Type 0} (l : List X) (d : X) where
  pub all_first_of : (p : X → Bool) (n : ℕ) → n ≤ length l → list_all p (take n l) ≡ all_to (λ k. p (get_or l k d)) n
  unfolding all_to
  all_first_of p zero h = refl
  all_first_of p (suc n) h = rw (← add-one n) (list_all_more p l n d (omega arith) ∙ rw (all_first_of p n (omega arith)))

  pub sum_first_of : (f : X → ℕ) (n : ℕ) → n ≤ length l → sum_by f (take n l) ≡ sum_to (λ k. f (get_or l k d)) n
  unfolding sum_to
  sum_first_of f zero h = refl
  sum_first_of f (suc n) h = rw (← add-one n) (sum_by_more f l n d (omega arith) ∙ rw (sum_first_of f n (omega arith)))

  -- where so many are there
  module _ (n : ℕ) (e : length (take n l) ≡ n) where
    there : n ≤ length l
    there = omega (arith, length-take n l)

    pub all_taken : (p : X → Bool) → list_all p (take n l) ≡ all_to (λ k. p (get_or l k d)) n
    all_taken p = all_first_of p n there

    pub sum_taken : (f : X → ℕ) → sum_by f (take n l) ≡ sum_to (λ k. f (get_or l k d)) n
    sum_taken f = sum_first_of f n there

-- ---- of all n, with their numbers
module _ {X : Type 0} (l : List X) (d : X) (n : ℕ) (e : length l ≡ n) where
  pub all_listed : (p : X → Bool) → list_all p l ≡ all_to (λ k. p (get_or l k d)) n
  all_listed p = rw (take_all n l (omega arith)) at (all_first_of l d p n (omega arith))

  pub sum_listed : (f : X → ℕ) → sum_by f l ≡ sum_to (λ k. f (get_or l k d)) n
  sum_listed f = rw (take_all n l (omega arith)) at (sum_first_of l d f n (omega arith))

pub all_numbered : {X : Type 0} (l : List X) (d : X) (n : ℕ) → length l ≡ n → (p : ℕ → X → Bool) → list_all (λ x. p x.0 x.1) (enumerate_from 0 l) ≡ all_to (λ k. p k (get_or l k d)) n
all_numbered l d n e p =
    all_listed (enumerate_from 0 l) (0, d) n (length-enumerate_from 0 l ∙ e) (λ x. p x.0 x.1)
    ∙ all_same (λ k. p (get_or (enumerate_from 0 l) k (0, d)).0 (get_or (enumerate_from 0 l) k (0, d)).1) (λ k. p k (get_or l k d)) n (λ k h. rw (get_or-enumerate_from 0 l k (0, d) (omega arith)) (let z : 0 + k ≡ k = omega arith in rw z))

pub all_numbered_first : {X : Type 0} (l : List X) (d : X) (n : ℕ) → n ≤ length l → (p : ℕ → X → Bool) → list_all (λ x. p x.0 x.1) (enumerate_from 0 (take n l)) ≡ all_to (λ k. p k (get_or l k d)) n
all_numbered_first l d n h p =
    all_numbered (take n l) d n (length-take-le n l h) p
    ∙ all_same (λ k. p k (get_or (take n l) k d)) (λ k. p k (get_or l k d)) n (λ k b. rw (get_or-take n l k d b))

pub all_zipped : {X Y : Type 0} (l : List X) (m : List Y) (d : X) (f : Y) (n : ℕ) → length l ≡ n → length m ≡ n → (p : X → Y → Bool) → list_all (λ x. p x.0 x.1) (zip l m) ≡ all_to (λ k. p (get_or l k d) (get_or m k f)) n
all_zipped l m d f n e g p =
    all_listed (zip l m) (d, f) n (length-zip l m ∙ omega arith) (λ x. p x.0 x.1)
    ∙ all_same (λ k. p (get_or (zip l m) k (d, f)).0 (get_or (zip l m) k (d, f)).1) (λ k. p (get_or l k d) (get_or m k f)) n (λ k h. rw (get_or-zip l m k (d, f) (omega arith) (omega arith)))

-- ---- one passes, or each fails
pub none_any : {X : Type 0} (p : X → Bool) (l : List X) → not (list_any p l) ≡ list_all (λ x. not (p x)) l
none_any p [] = refl
none_any p (x ∷ l) = split (p x) (λ t. rw t) (λ t. rw (t, none_any p l))

-- ---- a test of all, with no end before the last
folded_from : {X : Type 0} (p : X → Bool) (b : Bool) (l : List X) → fold (λ ok x. ok && p x) b l ≡ b && list_all p l
folded_from p b [] = sym (and-true b)
folded_from p b (x ∷ l) = folded_from p (b && p x) l ∙ and_assoc b (p x) (list_all p l)

pub folded : {X : Type 0} (p : X → Bool) (l : List X) → fold (λ ok x. ok && p x) true l ≡ list_all p l
folded p l = folded_from p true l
