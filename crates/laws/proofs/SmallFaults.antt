-- What is reckoned is a word, or a fault of at most 9
use mathlib.Core.Bool.{Bool, true, false}
use Prim.Native.Nat.{ℕ, ◌≤◌}
use native.Mathlib.Omega.{arith}
use lib.Dec.{eqb}
use lib.IntN.{ℤ, pos, ◌+ℤ◌, ◌-ℤ◌}
use Rattle.notation.specs.If.{if}
use Rattle.word.specs.Word.{Reckoned, word, fault, signed, within, in_word, fitted, is_zero, indexed, unary_w, binary_w, range_w, index_w, case_w}
use Rattle.machine.specs.Store.{Place, in_common, in_own, nowhere}
use Rattle.machine.specs.View.{View, fetched}

pub data Small : Reckoned → Type 0 where
  a_word : {x : ℕ} → Small (word x)
  a_fault : (f : ℕ) → f ≤ 9 → Small (fault f)

if-small : (b : Bool) {r s : Reckoned} → Small r → Small s → Small (if b r s)
if-small true x y = x
if-small false x y = y

pub fitted-small : (z : ℤ) → Small (fitted z)
unfolding fitted
fitted-small z = if-small (in_word z) a_word (a_fault 1 (omega arith))

pub range_small : (i min max : ℕ) → Small (range_w i min max)
unfolding range_w
range_small i min max = if-small (within (signed min) (signed i) (signed max)) a_word (a_fault 3 (omega arith))

pub index-small : (address i min max len : ℕ) → Small (index_w address i min max len)
unfolding index_w
index-small address i min max len =
    if-small (within (signed min) (signed i) (signed max))
    (if-small (within (pos 0) (indexed address i min len) (pos 4095)) a_word (a_fault 2 (omega arith)))
    (a_fault 3 (omega arith))

pub case_small : (i min m : ℕ) → Small (case_w i min m)
unfolding case_w
case_small i min m = if-small (within (signed min) (signed i) (signed min +ℤ pos m -ℤ pos 1)) a_word (a_fault 3 (omega arith))

pub unary-small : (code a : ℕ) → Small (unary_w code a)
unfolding unary_w
unary-small code a = if-small (eqb code 8) a_word (if-small (eqb code 11) (fitted-small _) (a_fault 7 (omega arith)))

pub binary-small : (code a b : ℕ) → Small (binary_w code a b)
unfolding binary_w
binary-small code a b =
    if-small (eqb code 9) a_word
    (if-small (eqb code 10) a_word
    (if-small (eqb code 12) (fitted-small _)
    (if-small (eqb code 13) (fitted-small _)
    (if-small (eqb code 14) (fitted-small _)
    (if-small (eqb code 15) (if-small (is_zero (signed b)) (a_fault 1 (omega arith)) (fitted-small _))
    (if-small (eqb code 16) (if-small (is_zero (signed b)) (a_fault 1 (omega arith)) (fitted-small _))
    (if-small (eqb code 17) a_word
    (if-small (eqb code 18) a_word
    (if-small (eqb code 19) a_word (a_fault 7 (omega arith)))))))))))

pub fetched-small : (v : View) (p : Place) → Small (fetched v p)
fetched-small v (in_common k) = a_word
fetched-small v (in_own k) = a_word
fetched-small v nowhere = a_fault 2 (omega arith)
