-- Document 02, W-203: "a = (a DIV b) times b + (a MOD b)"; "The remainder takes the dividend's sign"
use Rattle.std.specs.Prelude.{◌≡◌, false, ◌⊎◌, ℕ, ◌<◌, ℤ, pos, nat_abs, ◌+ℤ◌, ◌*ℤ◌}
use Rattle.std.specs.Int.Signed.{quot_z, non_neg}
use Rattle.word.specs.Word.{signed, word, is_zero, mod_w}

-- DIV over whole numbers: the quotient cut toward zero, also of -32768 and -1, where the instruction DIV faults
abbrev pub quotient : ℕ → ℕ → ℤ
quotient a b = quot_z (signed a) (signed b)

-- what MOD gives, as whole numbers
pub record Remainder (a b : ℕ) : Type 0 where
  pub rest : ℕ
  pub gives : mod_w a b ≡ word rest
  pub adds : signed a ≡ quotient a b *ℤ signed b +ℤ signed rest
  pub small : nat_abs (signed rest) < nat_abs (signed b)
  pub sign : (signed rest ≡ pos 0) ⊎ (non_neg (signed rest) ≡ non_neg (signed a))

-- for all words, the divisor not 0: never a fault
abbrev pub CompilersRule : Type 0
CompilersRule = (a b : ℕ) → a < 65536 → b < 65536 → is_zero (signed b) ≡ false → Remainder a b
