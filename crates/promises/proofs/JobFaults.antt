-- What is reckoned is a word, or a fault of 1 to 9
use mathlib.Core.Bool.{Bool, true, false}
use Prim.Native.Nat.{ℕ, ◌≤◌}
use native.Mathlib.Omega.{arith}
use lib.Dec.{eqb}
use lib.IntN.{ℤ, pos, ◌+ℤ◌, ◌-ℤ◌}
use Rattle.notation.specs.If.{if}
use Rattle.word.specs.Word.{Reckoned, word, fault, signed, within, in_word, fitted, is_zero, indexed, unary_w, binary_w, range_w, index_w, case_w}
use Rattle.machine.specs.Store.{Place, in_common, in_own, nowhere}
use Rattle.machine.specs.View.{View, fetched}

pub data Numbered : Reckoned → Type 0 where
  a_word : {x : ℕ} → Numbered (word x)
  a_fault : (f : ℕ) → (1 ≤ f) × (f ≤ 9) → Numbered (fault f)

either : (b : Bool) {r s : Reckoned} → Numbered r → Numbered s → Numbered (if b r s)
either true x y = x
either false x y = y

pub fitted_numbered : (z : ℤ) → Numbered (fitted z)
unfolding fitted
fitted_numbered z = either (in_word z) a_word (a_fault 1 (omega arith))

pub range_numbered : (i min max : ℕ) → Numbered (range_w i min max)
unfolding range_w
range_numbered i min max = either (within (signed min) (signed i) (signed max)) a_word (a_fault 3 (omega arith))

pub index_numbered : (address i min max len : ℕ) → Numbered (index_w address i min max len)
unfolding index_w
index_numbered address i min max len =
    either (within (signed min) (signed i) (signed max))
    (either (within (pos 0) (indexed address i min len) (pos 4095)) a_word (a_fault 2 (omega arith)))
    (a_fault 3 (omega arith))

pub case_numbered : (i min m : ℕ) → Numbered (case_w i min m)
unfolding case_w
case_numbered i min m = either (within (signed min) (signed i) (signed min +ℤ pos m -ℤ pos 1)) a_word (a_fault 3 (omega arith))

pub unary_numbered : (code a : ℕ) → Numbered (unary_w code a)
unfolding unary_w
unary_numbered code a = either (eqb code 8) a_word (either (eqb code 11) (fitted_numbered _) (a_fault 7 (omega arith)))

pub binary_numbered : (code a b : ℕ) → Numbered (binary_w code a b)
unfolding binary_w
binary_numbered code a b =
    either (eqb code 9) a_word
    (either (eqb code 10) a_word
    (either (eqb code 12) (fitted_numbered _)
    (either (eqb code 13) (fitted_numbered _)
    (either (eqb code 14) (fitted_numbered _)
    (either (eqb code 15) (either (is_zero (signed b)) (a_fault 1 (omega arith)) (fitted_numbered _))
    (either (eqb code 16) (either (is_zero (signed b)) (a_fault 1 (omega arith)) (fitted_numbered _))
    (either (eqb code 17) a_word
    (either (eqb code 18) a_word
    (either (eqb code 19) a_word (a_fault 7 (omega arith)))))))))))

pub fetched_numbered : (v : View) (p : Place) → Numbered (fetched v p)
fetched_numbered v (in_common k) = a_word
fetched_numbered v (in_own k) = a_word
fetched_numbered v nowhere = a_fault 2 (omega arith)
