-- What a tally says: a count for each of the processes, or of the gates, below a size
use Rattle.std.specs.Prelude.{◌≡◌, List, ℕ, ◌+◌, ◌≤◌, ◌<◌, length, get_or}

-- so many counts, none above n
abbrev pub Room : ℕ → ℕ → List ℕ → Type 0
Room size n t = (length t ≡ size) × ((q : ℕ) → q < size → get_or t q 0 ≤ n)

-- each q counts f q more than before
abbrev pub Grown : ℕ → List ℕ → List ℕ → (ℕ → ℕ) → Type 0
Grown size t u f = (length u ≡ size) × ((q : ℕ) → q < size → get_or u q 0 ≡ get_or t q 0 + f q)

-- each process q counts f q, and none above 1000
abbrev pub Counts : List ℕ → (ℕ → ℕ) → Type 0
Counts t f = Room 10 1000 t × ((q : ℕ) → q < 10 → get_or t q 0 ≡ f q)
