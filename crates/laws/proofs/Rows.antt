-- A row of words laid into a list from a place on is so many stores of one word
use mathlib.Core.Path.{◌≡◌, sym, ◌∙◌}
use mathlib.Core.List.{List, ◌++◌, append_assoc}
use Prim.Native.Nat.{ℕ, ◌+◌, ◌≤◌}
use native.Mathlib.Omega.{arith}
use lib.ListN.{length, take, drop}
use lib.Seq.{sets, sets-eq}

pub row_sets : (q : List ℕ) (i n : ℕ) (xs : List ℕ) → length xs ≡ n → i + n ≤ length q → take i q ++ (xs ++ drop (i + n) q) ≡ sets q i xs
row_sets q i n xs e l = rw (← e) (sym (sets-eq xs q i (omega arith) ∙ append_assoc (take i q) xs _))
