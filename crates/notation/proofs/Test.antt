-- What a test that holds says of its parts
use mathlib.Core.Path.{◌≡◌, refl, sym, ◌∙◌}
use mathlib.Core.Bool.{Bool, true, false, ◌||◌}
use Prim.Native.Nat.{ℕ, ◌≤◌}
use lib.Dec.{leb, eqb}
use borrow.Author.Tests.{leb-true, eqb-true}
use Rattle.notation.proofs.Upto.{never}

-- a test without which a whole that holds would fail; the second of two, of which the first fails
pub part : {whole : Bool} (t : Bool) → whole ≡ true → (t ≡ false → whole ≡ false) → t ≡ true
part true e f = refl
part false e f = never (sym e ∙ f refl)

pub at_most : {whole : Bool} (a b : ℕ) → whole ≡ true → (leb a b ≡ false → whole ≡ false) → a ≤ b
at_most a b e f = leb-true a b (part (leb a b) e f)

pub equal : {whole : Bool} (a b : ℕ) → whole ≡ true → (eqb a b ≡ false → whole ≡ false) → a ≡ b
equal a b e f = eqb-true a b (part (eqb a b) e f)

pub second : (a b : Bool) → a || b ≡ true → a ≡ false → b ≡ true
second a b e f = rw f at e
