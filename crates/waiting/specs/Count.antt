-- How many of a list of offers are accepted and pass a test, each in the world where it is offered
use Rattle.std.specs.Prelude.{Bool, true, false, List, [], ◌∷◌, ℕ, ◌+◌}
use Rattle.word.specs.Word.{bit}
use Rattle.machine.specs.Store.{World}
use Rattle.machine.specs.Offer.{Offered, did, refuses, Offer, offer, after}

abbrev pub accepted : Offered → Bool
accepted (did s) = true
accepted (refuses k) = false

unfoldable pub count_in : List ℕ → (World → Offer → Bool) → World → List Offer → ℕ
count_in code test w [] = 0
count_in code test w (x ∷ xs) = bit (test w x) + count_in code test (after w (offer code w x)) xs
