-- Words, and the arithmetic of document 01's "Instructions": codes 4, 6 to 19 and 22.
-- A word is held as its bit pattern, 0 to 65535; each result is reckoned in whole numbers.
use Rattle.std.specs.Prelude.{Bool, true, false, ◌&&◌, ℕ, ◌-◌, ltb, eqb, ℤ, pos, negsuc, neg_ℤ, nat_abs, ◌+ℤ◌, ◌-ℤ◌, ◌*ℤ◌}
use Rattle.std.specs.Int.Bits.{bit_and, bit_or}
use Rattle.std.proofs.Math.IntN.{sub_ℕ}
use Rattle.std.specs.Int.Signed.{lt_z, le_z, quot_z, rem_z}
use Rattle.std.specs.Prelude.{Result, Ok, Err}
use Rattle.word.specs.declared.Fault.{Fault}
use Rattle.word.specs.declared.Fault.TheVariants.{Terminated, Overflow, Pointer, Range, Variant, HeapLimit, StackLimit, Code, Gate, Limit}
use Rattle.notation.specs.If.{if}

-- "A word has 16 bits, signed unless said otherwise": the whole number of a pattern, and the pattern of a whole number
unfoldable pub signed : ℕ → ℤ
signed x = if (ltb x 32768) (pos x) (sub_ℕ x 65536)

abbrev pub word_of : ℤ → ℕ
word_of (pos n) = n
word_of (negsuc n) = 65535 - n

-- the whole numbers from a to b
abbrev pub within : ℤ → ℤ → ℤ → Bool
within a z b = le_z a z && le_z z b

-- the numbers that fit a word: -32768 to 32767
abbrev pub in_word : ℤ → Bool
in_word z = within (negsuc 32767) z (pos 32767)

-- what a reckoning gives: a word, or a fault by document 01's number
pub data Reckoned : Type 0 where
  word : ℕ → Reckoned
  fault : ℕ → Reckoned

-- document 01's number of a fault
abbrev pub number_of : Fault → ℕ
number_of Terminated = 0
number_of Overflow = 1
number_of Pointer = 2
number_of Range = 3
number_of Variant = 4
number_of HeapLimit = 5
number_of StackLimit = 6
number_of Code = 7
number_of Gate = 8
number_of Limit = 9

-- the cases of the code's answer
abbrev pub said : Result ℕ Fault → Reckoned
said (Ok w) = word w
said (Err f) = fault (number_of f)

-- "fault 1 where the result doesn't fit a word"
unfoldable pub fitted : ℤ → Reckoned
fitted z = if (in_word z) (word (word_of z)) (fault 1)

abbrev pub bit : Bool → ℕ
bit true = 1
bit false = 0

-- the same whole number
abbrev pub eq_z : ℤ → ℤ → Bool
eq_z y z = le_z y z && le_z z y

abbrev pub is_zero : ℤ → Bool
is_zero z = eqb (nat_abs z) 0

-- 4 LOCALADDR d: push B + d. B is an address, and no signed word
abbrev pub local_addr_w : ℕ → ℕ → Reckoned
local_addr_w b d = fitted (pos b +ℤ signed d)

-- 6 INDEX: the new address, in whole numbers; 3 outside min to max, then 2 outside 0 to 4095
abbrev pub indexed : ℕ → ℕ → ℕ → ℕ → ℤ
indexed address i min len = signed address +ℤ (signed i -ℤ signed min) *ℤ pos len

unfoldable pub index_w : ℕ → ℕ → ℕ → ℕ → ℕ → Reckoned
index_w address i min max len =
    if (within (signed min) (signed i) (signed max))
    (if (within (pos 0) (indexed address i min len) (pos 4095)) (word (word_of (indexed address i min len))) (fault 2))
    (fault 3)

-- 7 RANGE: top stays; 3 outside min to max
unfoldable pub range_w : ℕ → ℕ → ℕ → Reckoned
range_w i min max = if (within (signed min) (signed i) (signed max)) (word i) (fault 3)

-- 8 NOT (0 gives 1, else 0)
abbrev pub not_w : ℕ → ℕ
not_w a = bit (eqb a 0)

-- 9 AND, 10 OR (bitwise)
abbrev pub and_w : ℕ → ℕ → ℕ
and_w a b = bit_and a b

abbrev pub or_w : ℕ → ℕ → ℕ
or_w a b = bit_or a b

-- 11 NEG; 12 ADD; 13 SUB; 14 MUL
abbrev pub neg_w : ℕ → Reckoned
neg_w a = fitted (neg_ℤ (signed a))

abbrev pub add_w : ℕ → ℕ → Reckoned
add_w a b = fitted (signed a +ℤ signed b)

abbrev pub sub_w : ℕ → ℕ → Reckoned
sub_w a b = fitted (signed a -ℤ signed b)

abbrev pub mul_w : ℕ → ℕ → Reckoned
mul_w a b = fitted (signed a *ℤ signed b)

-- 15 DIV cuts toward zero; fault 1 at a zero divisor
abbrev pub div_w : ℕ → ℕ → Reckoned
div_w a b = if (is_zero (signed b)) (fault 1) (fitted (quot_z (signed a) (signed b)))

-- 16 MOD: the remainder, with the dividend's sign; fault 1 at a zero divisor
abbrev pub mod_w : ℕ → ℕ → Reckoned
mod_w a b = if (is_zero (signed b)) (fault 1) (fitted (rem_z (signed a) (signed b)))

-- 17 LESS; 18 EQUAL; 19 GREATER (1 or 0)
abbrev pub less_w : ℕ → ℕ → ℕ
less_w a b = bit (lt_z (signed a) (signed b))

abbrev pub equal_w : ℕ → ℕ → ℕ
equal_w a b = bit (eq_z (signed a) (signed b))

abbrev pub greater_w : ℕ → ℕ → ℕ
greater_w a b = bit (lt_z (signed b) (signed a))

-- 22 CASEJUMP: i's place, from 0, among min, min + 1, .. min + m - 1; 3 outside them
unfoldable pub case_w : ℕ → ℕ → ℕ → Reckoned
case_w i min m =
    if (within (signed min) (signed i) (signed min +ℤ pos m -ℤ pos 1))
    (word (nat_abs (signed i -ℤ signed min)))
    (fault 3)

-- the codes with one operand, and those with two, of which b was pushed later; any other code is fault 7
unfoldable pub unary_w : ℕ → ℕ → Reckoned
unary_w code a =
    if (eqb code 8) (word (not_w a))
    (if (eqb code 11) (neg_w a)
    (fault 7))

unfoldable pub binary_w : ℕ → ℕ → ℕ → Reckoned
binary_w code a b =
    if (eqb code 9) (word (and_w a b))
    (if (eqb code 10) (word (or_w a b))
    (if (eqb code 12) (add_w a b)
    (if (eqb code 13) (sub_w a b)
    (if (eqb code 14) (mul_w a b)
    (if (eqb code 15) (div_w a b)
    (if (eqb code 16) (mod_w a b)
    (if (eqb code 17) (word (less_w a b))
    (if (eqb code 18) (word (equal_w a b))
    (if (eqb code 19) (word (greater_w a b))
    (fault 7))))))))))
