-- A queue of processes: who stands in it, with one more last, without its first
use Rattle.std.specs.Prelude.{List, [], ◌∷◌, ℕ, ◌+◌, ◌-◌, ltb, get_or, set, take}
use Rattle.notation.specs.If.{if}
use Rattle.machine.specs.declared.Queue.{Queue}

abbrev pub queue_of : Queue → List ℕ
queue_of q = take q.len q.at

-- who stands first; asked only of a queue that has somebody
abbrev pub first : Queue → ℕ
first q = get_or q.at 0 0

-- no queue of a sound state is full when one more joins it
unfoldable pub pushed : Queue → ℕ → Queue
pushed q x = if (ltb q.len 10) (record { len = q.len + 1; at = set q.at q.len x }) q

-- ten places, each with what stood in the next
abbrev pub shifted : List ℕ → List ℕ
shifted l = get_or l 1 0 ∷ get_or l 2 0 ∷ get_or l 3 0 ∷ get_or l 4 0 ∷ get_or l 5 0 ∷ get_or l 6 0 ∷ get_or l 7 0 ∷ get_or l 8 0 ∷ get_or l 9 0 ∷ 0 ∷ []

unfoldable pub rest : Queue → Queue
rest q = record { len = q.len - 1; at = shifted q.at }
