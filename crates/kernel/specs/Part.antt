-- A part of a list with its first words anew
use Rattle.std.specs.Prelude.{List, ◌++◌, ℕ, ◌+◌, ◌*◌, ◌-◌, get_or, take, drop, replicate}
use Rattle.notation.specs.Upto.{list_to}
use Rattle.machine.specs.Store.{own}

-- p words from a place on become f 0, f 1, ..
abbrev pub part_with : List ℕ → ℕ → (ℕ → ℕ) → ℕ → List ℕ
part_with l at f p = take at l ++ (list_to f p ++ drop (at + p) l)

-- the part of a child of process 0: the p words on its stack, below the three that are popped, and zeros
abbrev pub child_part : List ℕ → ℕ → ℕ → ℕ → List ℕ
child_part q child s p =
    take (2048 * child) q
    ++ (list_to (λ k. get_or q (own 0 (s + (2 + p - k))) 0) p ++ (replicate (2048 - p) 0 ++ drop (2048 * child + 2048) q))
