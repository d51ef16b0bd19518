-- What writing a part does to a list of words
use Rattle.std.specs.Prelude.{◌≡◌, List, ℕ, length}
use Rattle.std.proofs.lemmas.List.Edits.{sets}

-- the n words xs stand from a place on; the others are as they were
pub record Put (old : List ℕ) (at : ℕ) (xs : List ℕ) (n : ℕ) (new : List ℕ) : Type 0 where
  pub stands : new ≡ sets old at xs
  pub long : length xs ≡ n
