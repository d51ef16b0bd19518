-- Laws of the words that stand from a place on, of parts one after the other, and of a bool's word
use mathlib.Core.Path.{◌≡◌, refl, sym, ap, ◌∙◌}
use mathlib.Core.Bool.{Bool, true, false}
use mathlib.Core.List.{List, ◌++◌}
use Prim.Native.Nat.{ℕ, zero, suc, ◌+◌, ◌-◌, ◌<◌}
use native.Mathlib.Omega.{arith}
use borrow.Author.Tests.{ltb-true, lt-ltb}
use lib.Dec.{ltb, eqb}
use lib.ListN.{length, get_or, length-append, get_or-append}
use lib.Seq.{get_or-append-add, ext_get_or}
use Rattle.notation.specs.Upto.{all_to, list_from, list_to}
use Rattle.notation.proofs.Upto.{below?, all_at, all_of, length_list, get_d_list, list_append}
use Rattle.word.specs.Word.{bit}
use Rattle.layout.specs.Layout.{rows, bytes}
use Rattle.layout.specs.Inverse.{Small}

-- ---- a bool's word
pub bool_of : (b : Bool) → eqb (bit b) 1 ≡ b
bool_of true = refl
bool_of false = refl

pub bool_word : (x : ℕ) → ltb x 2 ≡ true → bit (eqb x 1) ≡ x
bool_word zero e = refl
bool_word (suc zero) e = refl
bool_word (suc (suc n)) e = let h = ltb-true (suc (suc n)) 2 e in absurd (omega arith)

pub bool_fits : (b : Bool) → ltb (bit b) 2 ≡ true
bool_fits true = refl
bool_fits false = refl

-- ---- w 0, w 1, .. are the elements of a list
pub record Says (w : ℕ → ℕ) (xs : List ℕ) : Type 0 where
  pub at : (k : ℕ) → k < length xs → w k ≡ get_or xs k 0

pub left : (w : ℕ → ℕ) (xs ys : List ℕ) → Says w (xs ++ ys) → Says w xs
left w xs ys h = record { at = λ k l. h.at k (omega (arith, length-append xs ys)) ∙ get_or-append xs ys 0 k l }

pub right : (w : ℕ → ℕ) (xs ys : List ℕ) (n : ℕ) → length xs ≡ n → Says w (xs ++ ys) → Says (λ k. w (n + k)) ys
right w xs ys n e h =
    record { at = λ k l. h.at (n + k) (omega (arith, length-append xs ys)) ∙ ap (λ (i : ℕ). get_or (xs ++ ys) (i + k) 0) (sym e) ∙ get_or-append-add xs ys k 0 }

-- a list read back
pub list_of : {A : Type 0} (d : A) (f : ℕ → A) (xs : List A) (n : ℕ) → length xs ≡ n → ((k : ℕ) → k < n → f k ≡ get_or xs k d) → list_to f n ≡ xs
list_of d f xs n e h =
    ext_get_or d (list_to f n) xs (length_list f 0 n ∙ sym e)
    (λ k l.
    let m : k < n = omega (arith, length_list f 0 n) in
    let z : 0 + k ≡ k = omega arith in
    get_d_list f 0 n k d m ∙ rw z (h k m))

pub words_of : (w : ℕ → ℕ) (xs : List ℕ) (n : ℕ) → length xs ≡ n → Says w xs → list_to w n ≡ xs
words_of w xs n e h = list_of 0 w xs n e (λ k l. h.at k (omega arith))

-- ---- parts of size k, of which the first i take len i words
module _ (k : ℕ) (len : ℕ → ℕ) (none : len 0 ≡ 0) (step : (i : ℕ) → len (suc i) ≡ len i + k) (f : ℕ → List ℕ) where
  pub length-rows : (n : ℕ) → ((i : ℕ) → i < n → length (f i) ≡ k) → length (rows f n) ≡ len n
  unfolding rows
  length-rows zero h = sym none
  length-rows (suc n) h = length-append (rows f n) (f n) ∙ rw (length-rows n (λ i l. h i (omega arith)), h n (omega arith), step n)

  pub row_says : (w : ℕ → ℕ) (n i : ℕ) → ((i : ℕ) → i < n → length (f i) ≡ k) → i < n → Says w (rows f n) → Says (λ j. w (len i + j)) (f i)
  unfolding rows
  row_says w zero i h l s = absurd (omega arith)
  row_says w (suc n) i h l s =
      below? i n
      (λ b. row_says w n i (λ i l. h i (omega arith)) b (left w (rows f n) (f n) s))
      (λ b.
      let e : i ≡ n = omega arith in
      rw e (right w (rows f n) (f n) (len n) (length-rows n (λ i l. h i (omega arith))) s))

  -- parts cut out of words are the words
  pub rows_cut : (w : ℕ → ℕ) (a n : ℕ) → ((i : ℕ) → i < n → f i ≡ list_from w (a + len i) k) → rows f n ≡ list_from w a (len n)
  unfolding rows list_from
  rows_cut w a zero h = rw none
  rows_cut w a (suc n) h =
      rw (step n, list_append w a (len n) k, rows_cut w a n (λ i l. h i (omega arith)), h n (omega arith))

-- ---- bytes
pub bytes_of : (w : ℕ → ℕ) (xs : List ℕ) → Says w xs → Small xs → bytes w (length xs) ≡ true
bytes_of w xs s b = all_of (λ k. ltb (w k) 256) (length xs) (λ k l. rw (s.at k l) (lt-ltb _ _ (b k)))

pub bytes-more : (w : ℕ → ℕ) (n k : ℕ) → bytes w n ≡ true → bytes (λ i. w (n + i)) k ≡ true → bytes w (n + k) ≡ true
bytes-more w n k a b =
    all_of (λ i. ltb (w i) 256) (n + k)
    (λ i l.
    below? i n
    (λ h. all_at (λ i. ltb (w i) 256) n i a h)
    (λ h. let z : i ≡ n + (i - n) = omega arith in rw z (all_at (λ i. ltb (w (n + i)) 256) k (i - n) b (omega arith))))

pub bytes-rows : (k : ℕ) (len : ℕ → ℕ) → len 0 ≡ 0 → ((i : ℕ) → len (suc i) ≡ len i + k) → (w : ℕ → ℕ) (n : ℕ) → ((i : ℕ) → i < n → bytes (λ j. w (len i + j)) k ≡ true) → bytes w (len n) ≡ true
unfolding all_to
bytes-rows k len none step w zero h = rw none
bytes-rows k len none step w (suc n) h =
    rw (step n) (bytes-more w (len n) k (bytes-rows k len none step w n (λ i l. h i (omega arith))) (h n (omega arith)))
