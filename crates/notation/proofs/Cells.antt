-- A list of which one element is anew
use mathlib.Core.Path.{◌≡◌, ap, ◌∙◌}
use mathlib.Core.List.{List}
use Prim.Native.Nat.{ℕ, ◌<◌}
use native.Mathlib.Omega.{arith}
use lib.Dec.{eqb}
use lib.ListN.{length, get_or, set}
use lib.Seq.{get_or-set_same, get_or-set_other, set_out}
use borrow.Author.Tests.{eqb-true, eqb-false}
use Rattle.notation.proofs.Upto.{split, below?}

-- ---- a property of one element, and of all, after element i is anew
pub at_set : {A : Type 0} (P : A → Type 0) (l : List A) (i : ℕ) (x d : A) (j : ℕ) → i < length l
    → (j ≡ i → P x) → ((j ≡ i → ⊥) → P (get_or l j d)) → P (get_or (set l i x) j d)
at_set P l i x d j b new old =
    split (eqb j i)
    (λ t. let e = eqb-true j i t in rw (e, get_or-set_same l i x d b) (new e))
    (λ t. let n = eqb-false j i t in rw (get_or-set_other l i j x d n) (old n))

pub all_set : {A : Type 0} (P : ℕ → A → Type 0) (l : List A) (i : ℕ) (x d : A) (n : ℕ) → length l ≡ n → i < n → P i x
    → ((j : ℕ) → j < n → P j (get_or l j d)) → (j : ℕ) → j < n → P j (get_or (set l i x) j d)
all_set P l i x d n e b new old j c = at_set (P j) l i x d j (omega arith) (λ t. rw t new) (λ t. old j c)

-- ---- what is asked of an element stays, where the new one answers it alike
pub set_keeps : {A B : Type 0} (f : A → B) (l : List A) (i : ℕ) (x d : A) → f x ≡ f (get_or l i d) → (k : ℕ) → f (get_or (set l i x) k d) ≡ f (get_or l k d)
set_keeps f l i x d e k =
    below? i (length l)
    (λ l'. split (eqb k i)
    (λ t. let z = eqb-true k i t in rw z (ap f (get_or-set_same l i x d l') ∙ e))
    (λ t. ap f (get_or-set_other l i k x d (eqb-false k i t))))
    (λ l'. rw (set_out l i x l'))
