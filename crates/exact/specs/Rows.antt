-- "Checks run in table order, each where it applies": the law of rows that are asked in their order
use Rattle.std.specs.Prelude.{◌≡◌, Bool, true, false, ◌&&◌, List, [], ◌∷◌, ◌↔◌, ℕ, ◌<◌, ltb, eqb}
use Rattle.notation.specs.If.{if}
use Rattle.image.specs.Refusal.{Reply, taken, refused}

-- a row of the table that applies: its number, whether it fails, and the values that its refusal names
pub record Row : Type 0 where
  pub number : ℕ
  pub fails : Bool
  pub names : List ℕ

abbrev pub row : ℕ → Bool → Row
row k bad = record { number = k; fails = bad; names = [] }

-- row k applies and fails; what it names
abbrev pub fails : List Row → ℕ → Bool
fails [] k = false
fails (r ∷ rs) k = if (eqb k r.number) r.fails (fails rs k)

abbrev pub names : List Row → ℕ → List ℕ
names [] k = []
names (r ∷ rs) k = if (eqb k r.number) r.names (names rs k)

-- row k is the first to fail; and vs is what it names; no row fails
pub record FirstToFail (rows : ℕ → Bool) (k : ℕ) : Type 0 where
  pub this : rows k ≡ true
  pub earlier : (j : ℕ) → j < k → rows j ≡ false

abbrev pub RefusedBy : List Row → ℕ → List ℕ → Type 0
RefusedBy rows k vs = FirstToFail (fails rows) k × (vs ≡ names rows k)

abbrev pub NoneFails : List Row → Type 0
NoneFails rows = (k : ℕ) → fails rows k ≡ false

-- ---- the reply of rows whose numbers rise from above n: the first that fails refuses
abbrev pub rise : ℕ → List Row → Bool
rise n [] = true
rise n (r ∷ rs) = ltb n r.number && rise r.number rs

abbrev pub reply : List Row → Reply
reply [] = taken []
reply (r ∷ rs) = if r.fails (refused r.number r.names) (reply rs)

abbrev pub FirstRefuses : Type 0
FirstRefuses =
    (rows : List Row)
    → rise 0 rows ≡ true
    → ((k : ℕ) (vs : List ℕ) → (reply rows ≡ refused k vs) ↔ RefusedBy rows k vs)
    × ((reply rows ≡ taken []) ↔ NoneFails rows)
