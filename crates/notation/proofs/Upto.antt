-- Laws of sums, tests, lists and searches over the numbers below n
use mathlib.Core.Path.{◌≡◌, refl, sym, ap, ◌∙◌}
use mathlib.Core.Bool.{Bool, true, false, ◌&&◌, ◌||◌}
use mathlib.Core.List.{List, ◌∷◌, ◌++◌, append_assoc, append-nil}
use mathlib.Core.Logic.{◌⊎◌, inl, inr, ⊎_elim}
use Prim.Native.Nat.{ℕ, zero, suc, ◌+◌, ◌-◌, ◌*◌, ◌≤◌, ◌<◌}
use native.Mathlib.Omega.{arith}
use native.Mathlib.Nat.{mul-zero, mul-suc}
use native.Mathlib.Decide.{dec_lt}
use native.Mathlib.Numerals.{add-one}
use lib.ListN.{length, get_or, take, drop, set, length-append, length-drop}
use lib.Seq.{take_at, drop_at, drop-cons, set_at, drop-drop, drop-length, append_snoc}
use Rattle.notation.specs.Upto.{sum_to, all_to, list_from, list_to, laid, first_from}

-- ---- a test taken apart
pub split : {X : Type 0} (b : Bool) → (b ≡ true → X) → (b ≡ false → X) → X
split true f g = f refl
split false f g = g refl

pub never : {X : Type 0} → true ≡ false → X
never e = let z : ◌≡◌ {A = ℕ} 0 1 = cc in absurd (omega arith)

pub both : (p q : Bool) → p && q ≡ true → (p ≡ true) × (q ≡ true)
both true true e = (refl, refl)
both true false e = never (sym e)
both false q e = never (sym e)

by_dec : (a b : ℕ) → Dec (a < b) → (a < b) ⊎ (b ≤ a)
by_dec a b (yes h) = inl h
by_dec a b (no h) = inr (omega (arith, h))

pub below? : {X : Type 0} (a b : ℕ) → (a < b → X) → (b ≤ a → X) → X
below? a b f g = ⊎_elim f g (by_dec a b (dec_lt a b))

-- ---- sums and tests
pub sum_same : (f g : ℕ → ℕ) (n : ℕ) → ((k : ℕ) → k < n → f k ≡ g k) → sum_to f n ≡ sum_to g n
unfolding sum_to
sum_same f g zero h = refl
sum_same f g (suc n) h = rw (sum_same f g n (λ k l. h k (omega arith)), h n (omega arith))

pub all_at : (p : ℕ → Bool) (n k : ℕ) → all_to p n ≡ true → k < n → p k ≡ true
unfolding all_to
all_at p zero k e l = absurd (omega arith)
all_at p (suc n) k e l =
    below? k n
    (λ h. all_at p n k (both (all_to p n) (p n) e).0 h)
    (λ h. let q : k ≡ n = omega arith in rw q (both (all_to p n) (p n) e).1)

pub all_of : (p : ℕ → Bool) (n : ℕ) → ((k : ℕ) → k < n → p k ≡ true) → all_to p n ≡ true
unfolding all_to
all_of p zero h = refl
all_of p (suc n) h = rw (all_of p n (λ k l. h k (omega arith)), h n (omega arith))

-- ---- lists
pub length_list : {A : Type 0} (f : ℕ → A) (i n : ℕ) → length (list_from f i n) ≡ n
unfolding list_from
length_list f i zero = refl
length_list f i (suc n) = ap suc (length_list f (suc i) n)

pub get_d_list : {A : Type 0} (f : ℕ → A) (i n k : ℕ) (d : A) → k < n → get_or (list_from f i n) k d ≡ f (i + k)
unfolding list_from
get_d_list f i zero k d h = absurd (omega arith)
get_d_list f i (suc n) zero d h = ap f (omega arith)
get_d_list f i (suc n) (suc k) d h = get_d_list f (suc i) n k d (omega arith) ∙ ap f (omega arith)

-- two lists that agree at every place, from anywhere
pub list_same : {A : Type 0} (f g : ℕ → A) (i j n : ℕ) → ((k : ℕ) → k < n → f (i + k) ≡ g (j + k)) → list_from f i n ≡ list_from g j n
unfolding list_from
list_same f g i j zero h = refl
list_same f g i j (suc n) h =
    let e : f i ≡ g j = ap f (omega arith) ∙ h 0 (omega arith) ∙ ap g (omega arith) in
    let t : list_from f (suc i) n ≡ list_from g (suc j) n = list_same f g (suc i) (suc j) n (λ k l. ap f (omega arith) ∙ h (suc k) (omega arith) ∙ ap g (omega arith)) in
    cc

pub list_append : {A : Type 0} (f : ℕ → A) (i m n : ℕ) → list_from f i (m + n) ≡ list_from f i m ++ list_from f (i + m) n
unfolding list_from
list_append f i zero n =
    let a : 0 + n ≡ n = omega arith in
    let b : i + 0 ≡ i = omega arith in
    rw (a, b)
list_append f i (suc m) n =
    let a : suc m + n ≡ suc (m + n) = omega arith in
    let b : i + suc m ≡ suc i + m = omega arith in
    rw (a, b) (ap (λ (l : List _). f i ∷ l) (list_append f (suc i) m n))

pub laid_none : {A : Type 0} (f : ℕ → A) (l : List A) → laid f 0 l ≡ l
unfolding list_from
laid_none f l = refl

-- one more element laid
pub laid_more : {A : Type 0} (f : ℕ → A) (n : ℕ) (l : List A) → n < length l → set (laid f n l) n (f n) ≡ laid f (n + 1) l
unfolding list_from
laid_more f n l h =
    rw (drop-cons l n (f n) h) (set_at (list_to f n) (get_or l n (f n)) (drop (suc n) l) (f n) n (length_list f 0 n) ∙ grown)
  where
    grown : list_to f n ++ (f n ∷ drop (suc n) l) ≡ laid f (n + 1) l
    grown =
        let z : 0 + n ≡ n = omega arith in
        rw (list_append f 0 n 1, add-one n, z) (sym (append_snoc (list_to f n) (f n) (drop (suc n) l)))

pub length-laid : {A : Type 0} (f : ℕ → A) (n : ℕ) (l : List A) → n ≤ length l → length (laid f n l) ≡ length l
length-laid f n l h = length-append (list_to f n) (drop n l) ∙ rw (length_list f 0 n, length-drop n l) (omega arith)

pub laid-whole : {A : Type 0} (f : ℕ → A) (n : ℕ) (l : List A) → length l ≡ n → laid f n l ≡ list_to f n
laid-whole f n l e = rw (← e) (rw (drop-length l) (append-nil _))

-- ---- the first place
pub first-most : (p : ℕ → Bool) (i n : ℕ) → first_from p i n ≤ i + n
unfolding first_from
first-most p i zero = omega arith
first-most p i (suc n) =
    split (p i)
    (λ e. rw e (omega arith))
    (λ e. rw e (omega (arith, first-most p (suc i) n)))

pub first_hit : (p : ℕ → Bool) (i n : ℕ) → p i ≡ true → first_from p i (suc n) ≡ i
unfolding first_from
first_hit p i n e = rw e

pub first_miss : (p : ℕ → Bool) (i n : ℕ) → p i ≡ false → first_from p i (suc n) ≡ first_from p (suc i) n
unfolding first_from
first_miss p i n e = rw e

-- where the search ends past the last place, the test holds at none; and back
pub first-none : (p : ℕ → Bool) (i n k : ℕ) → i + n ≤ first_from p i n → k < n → p (i + k) ≡ false
first-none p i zero k h l = absurd (omega arith)
first-none p i (suc n) zero h l =
    split (p i) (λ e. let t : first_from p i (suc n) ≡ i = first_hit p i n e in absurd (omega arith)) (λ e. ap p (omega arith) ∙ e)
first-none p i (suc n) (suc k) h l =
    split (p i)
    (λ e. let t : first_from p i (suc n) ≡ i = first_hit p i n e in absurd (omega arith))
    (λ e. let t : first_from p i (suc n) ≡ first_from p (suc i) n = first_miss p i n e in ap p (omega arith) ∙ first-none p (suc i) n k (omega arith) (omega arith))

pub first_past : (p : ℕ → Bool) (i n : ℕ) → ((k : ℕ) → k < n → p (i + k) ≡ false) → first_from p i n ≡ i + n
unfolding first_from
first_past p i zero h = omega arith
first_past p i (suc n) h =
    let e : p i ≡ false = ap p (omega arith) ∙ h 0 (omega arith) in
    rw e (first_past p (suc i) n (λ k l. ap p (omega arith) ∙ h (suc k) (omega arith)) ∙ omega arith)

-- ---- k more elements laid at once, as a part of the list that comes back
pub laid_part : {A : Type 0} (f : ℕ → A) (a k : ℕ) (l : List A) → take a (laid f a l) ++ (list_from f a k ++ drop k (drop a (laid f a l))) ≡ laid f (a + k) l
laid_part f a k l =
    let z : 0 + a ≡ a = omega arith in
    rw
    (take_at (list_to f a) (drop a l) a (length_list f 0 a), drop_at (list_to f a) (drop a l) a (length_list f 0 a), drop-drop k a l, list_append f 0 a k, z)
    (sym (append_assoc (list_to f a) (list_from f a k) (drop (a + k) l)))

-- ---- a search up to n, at i: it is through, ends here, or goes on
pub first_through : (p : ℕ → Bool) (i n : ℕ) → n ≤ i → first_from p i (n - i) ≡ i
unfolding first_from
first_through p i n h =
    let z : n - i ≡ 0 = omega arith in
    rw z

pub first_here : (p : ℕ → Bool) (i n : ℕ) → i < n → p i ≡ true → first_from p i (n - i) ≡ i
first_here p i n h e =
    let s : n - i ≡ suc (n - (i + 1)) = omega arith in
    rw s (first_hit p i (n - (i + 1)) e)

pub first_next : (p : ℕ → Bool) (i n : ℕ) → i < n → p i ≡ false → first_from p i (n - i) ≡ first_from p (i + 1) (n - (i + 1))
first_next p i n h e =
    let s : n - i ≡ suc (n - (i + 1)) = omega arith in
    rw s (first_miss p i (n - (i + 1)) e ∙ ap (λ k. first_from p k (n - (i + 1))) (sym (add-one i)))

-- ---- a test of two that fails: neither holds
pub neither : (p q : Bool) → p || q ≡ false → (p ≡ false) × (q ≡ false)
neither true q e = never e
neither false true e = never e
neither false false e = (refl, refl)

-- ---- the last of a sum
pub sum-last : (f : ℕ → ℕ) (n : ℕ) → sum_to f (suc n) ≡ sum_to f n + f n
unfolding sum_to
sum-last f n = refl

-- a sum in two parts; at least one of its terms; of none; without its first; of two functions; by strips of m, one of each strip at a time
pub sum-parts : (f : ℕ → ℕ) (n m : ℕ) → sum_to f (n + m) ≡ sum_to f n + sum_to (λ j. f (n + j)) m
unfolding sum_to
sum-parts f n zero = let z : n + zero ≡ n = omega arith in rw z (omega arith)
sum-parts f n (suc m) = let z : n + suc m ≡ suc (n + m) = omega arith in let h = sum-parts f n m in rw z (omega (arith, h))

pub sum-get : (f : ℕ → ℕ) (n k : ℕ) → k < n → f k ≤ sum_to f n
unfolding sum_to
sum-get f zero k l = absurd (omega arith)
sum-get f (suc n) k l =
    below? k n
    (λ h. let i = sum-get f n k h in omega arith)
    (λ h. let e : k ≡ n = omega arith in rw e (omega arith))

pub sum-none : (f : ℕ → ℕ) (n : ℕ) → ((k : ℕ) → k < n → f k ≡ 0) → sum_to f n ≡ 0
unfolding sum_to
sum-none f zero h = refl
sum-none f (suc n) h = let i = sum-none f n (λ k l. h k (omega arith)) in let e = h n (omega arith) in omega arith

pub sum_first : (f : ℕ → ℕ) (n : ℕ) → sum_to f (suc n) ≡ f 0 + sum_to (λ k. f (suc k)) n
unfolding sum_to
sum_first f zero = omega arith
sum_first f (suc n) = let i = sum_first f n in omega arith

pub sum_both : (f g : ℕ → ℕ) (n : ℕ) → sum_to (λ k. f k + g k) n ≡ sum_to f n + sum_to g n
unfolding sum_to
sum_both f g zero = refl
sum_both f g (suc n) = let i = sum_both f g n in omega arith

pub sum_strips : (f : ℕ → ℕ) (m n : ℕ) → sum_to (λ i. sum_to (λ j. f (m * j + i)) n) m ≡ sum_to f (m * n)
unfolding sum_to
sum_strips f m zero = sum-none (λ i. 0) m (λ k l. refl) ∙ ap (sum_to f) (sym (mul-zero m))
sum_strips f m (suc n) =
    sum_both (λ i. sum_to (λ j. f (m * j + i)) n) (λ i. f (m * n + i)) m
    ∙ ap (λ (k : ℕ). k + sum_to (λ i. f (m * n + i)) m) (sum_strips f m n)
    ∙ sym (sum-parts f (m * n) m)
    ∙ ap (sum_to f) (sym (mul-suc m n))

-- ---- a number that is none of the first k is past them
abbrev pub NoneOf : ℕ → ℕ → Type 0
NoneOf n zero = Unit {0}
NoneOf n (suc k) = NoneOf n k × (n ≡ k → ⊥)

pub none-past : (n k : ℕ) → NoneOf n k → k ≤ n
none-past n zero h = omega arith
none-past n (suc k) h = omega (arith, none-past n k h.0, h.1)
