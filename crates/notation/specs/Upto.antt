-- What is said of the numbers below n: a sum, a test of all, a list, a list laid over another, a search for the first
use Rattle.std.specs.Prelude.{Bool, true, ◌&&◌, List, [], ◌∷◌, ◌++◌, ℕ, zero, suc, ◌+◌, drop}
use Rattle.notation.specs.If.{if}

-- f 0 + f 1 + .. + f (n - 1)
unfoldable pub sum_to : (ℕ → ℕ) → ℕ → ℕ
sum_to f zero = 0
sum_to f (suc n) = sum_to f n + f n

-- the test holds at 0, 1, .. and n - 1
unfoldable pub all_to : (ℕ → Bool) → ℕ → Bool
all_to p zero = true
all_to p (suc n) = all_to p n && p n

-- f i, f (i + 1), ..: n elements
unfoldable pub list_from : {A : Type 0} → (ℕ → A) → ℕ → ℕ → List A
list_from f i zero = []
list_from f i (suc n) = f i ∷ list_from f (suc i) n

-- f 0, f 1, .., f (n - 1)
abbrev pub list_to : {A : Type 0} → (ℕ → A) → ℕ → List A
list_to f n = list_from f 0 n

-- a list whose first n elements are now f 0, f 1, .., f (n - 1)
abbrev pub laid : {A : Type 0} → (ℕ → A) → ℕ → List A → List A
laid f n l = list_to f n ++ drop n l

-- the first of i, i + 1, .., i + n - 1 at which the test holds, or i + n where it holds at none
unfoldable pub first_from : (ℕ → Bool) → ℕ → ℕ → ℕ
first_from p i zero = i
first_from p i (suc n) =
    let later : ℕ = first_from p (suc i) n in
    if (p i) i later

abbrev pub first_to : (ℕ → Bool) → ℕ → ℕ
first_to p n = first_from p 0 n
