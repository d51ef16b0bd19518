-- Why the code's tests are those of the definitions
use mathlib.Core.Path.{◌≡◌, refl, sym, ap, ◌∙◌, subst}
use mathlib.Core.Bool.{Bool, true, false}
use Prim.Native.Nat.{ℕ, ◌-◌, ◌<◌}
use native.Mathlib.Omega.{arith}
use lib.Dec.{ltb}
use borrow.Author.Tests.{ltb-true}
use Rattle.notation.specs.If.{if}
use Rattle.std.specs.Prelude.{Option, Some, Result, Ok}
use Rattle.word.specs.declared.Fault.{Fault}
use Rattle.word.specs.Word.{word, said, case_w}
use Rattle.word.proofs.Words.{case_below}
use Rattle.machine.specs.Store.{Place, in_common, in_own, nowhere, place_of}
use Rattle.machine.specs.View.{View, in_region, located}
use Rattle.engine.specs.Found.{found}
use Rattle.engine.specs.declared.place.Place.{Place as Found}
use Rattle.engine.specs.declared.place.Place.TheVariants.{Common, Own}

-- ---- addresses
-- a place lies within its store of 2,048 words
abbrev Within : Place → Type 0
Within (in_common k) = k < 2048
Within (in_own k) = k < 2048
Within nowhere = Unit {0}

if-within : (b : Bool) (x y : Place) → (b ≡ true → Within x) → (b ≡ false → Within y) → Within (if b x y)
if-within true x y f g = f refl
if-within false x y f g = g refl

place_within : (a : ℕ) → Within (place_of a)
unfolding place_of
place_within a =
    if-within (ltb a 2048) (in_common a) _ (λ e. ltb-true a 2048 e)
    (λ e. if-within (ltb a 4096) (in_own (a - 2048)) nowhere (λ e. omega (arith, ltb-true a 4096 e)) (λ e. tt))

located-within : (v : View) (a : ℕ) → Within (located v a)
unfolding located
located-within v a = if-within (in_region v a) (place_of a) nowhere (λ e. place_within a) (λ e. tt)

module _ (v : View) (a k : ℕ) (x : Option Found) (e : found x ≡ located v a) where
  pub common-within : x ≡ Some (Common k) → k < 2048
  common-within h = subst Within (sym e ∙ ap found h) (located-within v a)

  pub own-within : x ≡ Some (Own k) → k < 2048
  own-within h = subst Within (sym e ∙ ap found h) (located-within v a)

-- ---- CASEJUMP
-- a place among m cases is below m
pub case_within : (i min m k : ℕ) (x : Result ℕ Fault) → said x ≡ case_w i min m → x ≡ Ok k → i < 65536 → min < 65536 → k < m
case_within i min m k x e w hi hm = let z : word k ≡ case_w i min m = cc in case_below i min m k z
