-- A refusal of a chain of checks is that of one of them
use mathlib.Core.Path.{◌≡◌, refl, sym}
use mathlib.Core.Bool.{Bool, true, false}
use mathlib.Core.List.{List, []}
use Prim.Native.Nat.{ℕ}
use native.Mathlib.Omega.{arith}
use lib.ListN.{get_or}
use Rattle.image.specs.Refusal.{Reply, taken, refused, ◌then◌}
use Rattle.image.specs.Read.{refuse}

pub different : {X : Type 0} (vs ws : List ℕ) (k : ℕ) → taken vs ≡ refused k ws → X
different vs ws k e = let z : ◌≡◌ {A = ℕ} 0 1 = cc in absurd (omega arith)

pub chain-cases :
    {X : Type 0} (a b : Reply) (k : ℕ) (vs : List ℕ) → refused k vs ≡ a then b →
    (refused k vs ≡ a → X) → ((us : List ℕ) → a ≡ taken us → refused k vs ≡ b → X) → X
chain-cases (taken us) b k vs e f g = g us refl e
chain-cases (refused n us) b k vs e f g = f e

-- a check by a test refuses with its number, and names nothing
pub by_test : (n : ℕ) (bad : Bool) (k : ℕ) (vs : List ℕ) → refused k vs ≡ refuse n bad → (k ≡ n) × (get_or vs 0 0 ≡ 0)
by_test n true k vs e = let z : vs ≡ [] = cc in (cc, rw z)
by_test n false k vs e = different _ _ _ (sym e)
