-- The two lent stores, and the world: the machine with its stores
use Rattle.std.specs.Prelude.{Bool, ◌&&◌, ◌||◌, List, ◌++◌, ℕ, ◌+◌, ◌-◌, ◌*◌, ltb, leb, get_or, set, take, drop}
use Rattle.notation.specs.If.{if}
use Rattle.machine.specs.declared.Machine.{Machine}

pub record World : Type 0 where
  pub machine : Machine
  pub common : List ℕ
  pub private : List ℕ

-- the word of the private store that process i has at an address: "2,048 for each process, by number"
abbrev pub own : ℕ → ℕ → ℕ
own i a = 2048 * i + (a - 2048)

-- the part of process i, and the private store with that part anew
abbrev pub part_of : ℕ → List ℕ → List ℕ
part_of i private = take 2048 (drop (2048 * i) private)

abbrev pub with_part : ℕ → List ℕ → List ℕ → List ℕ
with_part i part private = take (2048 * i) private ++ (part ++ drop (2048 * i + 2048) private)

-- the place that an address names: "Address 0 to 2047 is common, 2048 to 4095 the running process's own part"
pub data Place : Type 0 where
  in_common : ℕ → Place
  in_own : ℕ → Place
  nowhere : Place

unfoldable pub place_of : ℕ → Place
place_of a =
    if (ltb a 2048) (in_common a)
    (if (ltb a 4096) (in_own (a - 2048))
    nowhere)

-- four words that "lie whole in one store"
abbrev pub whole : ℕ → Bool
whole a = leb a 2044 || (leb 2048 a && leb a 4092)

-- the word that a place names for process i, and each store with that word anew
abbrev pub word_in : Place → ℕ → List ℕ → List ℕ → ℕ
word_in (in_common k) i common private = get_or common k 0
word_in (in_own k) i common private = get_or private (2048 * i + k) 0
word_in nowhere i common private = 0

abbrev pub common_with : Place → ℕ → List ℕ → List ℕ
common_with (in_common k) w common = set common k w
common_with (in_own k) w common = common
common_with nowhere w common = common

abbrev pub private_with : Place → ℕ → ℕ → List ℕ → List ℕ
private_with (in_common k) i w private = private
private_with (in_own k) i w private = set private (2048 * i + k) w
private_with nowhere i w private = private
