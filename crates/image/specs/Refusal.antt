-- Document 01's table of refusals, and what an offer is answered
use Rattle.std.specs.Prelude.{ℕ, List, [], ◌∷◌, Result, Ok, Err}
use Rattle.image.specs.declared.table.Refusal.{Refusal}
use Rattle.image.specs.declared.table.Refusal.TheVariants.{Length, Block, Head, Count, Fill, Lent, Unsound, Stopped, Done, Short}

infixr 30 ◌then◌
-- an offer is taken, or refused by its number; with the values that the answer names
pub data Reply : Type 0 where
  taken : List ℕ → Reply
  refused : ℕ → List ℕ → Reply

-- "Checks run in table order": the second counts only where the first refuses nothing
abbrev pub ◌then◌ : Reply → Reply → Reply
taken vs then next = next
refused n vs then next = refused n vs

-- the table's number for each case, and the values named with it: 2 names its block
abbrev pub number_of : Refusal → ℕ
number_of Length = 1
number_of (Block b) = 2
number_of Head = 3
number_of Count = 4
number_of Fill = 5
number_of Lent = 6
number_of Unsound = 7
number_of Stopped = 8
number_of Done = 9
number_of Short = 10

abbrev pub named : Refusal → List ℕ
named Length = []
named (Block b) = b ∷ []
named Head = []
named Count = []
named Fill = []
named Lent = []
named Unsound = []
named Stopped = []
named Done = []
named Short = []

abbrev pub refused_by : Refusal → Reply
refused_by r = refused (number_of r) (named r)

-- what a check answers: passed, it names nothing
abbrev pub check_says : Result (Unit {0}) Refusal → Reply
check_says (Ok u) = taken []
check_says (Err r) = refused_by r
