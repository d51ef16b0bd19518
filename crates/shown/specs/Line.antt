-- A line to be shown: its bytes after each function that makes it
use Rattle.std.specs.Prelude.{cond, List, [], ◌∷◌, ◌++◌, ℕ, zero, suc, ◌+◌, ◌-◌, ◌/◌, ◌%◌, ltb, leb, length, get_or, set, replicate}
use Prim.Native.Char.{code}
use Prim.Native.String.{String, [] as []ˢ, ◌∷◌ as ◌∷ˢ◌}
use Rattle.shown.specs.declared.line.Line.{Line}

-- a text as bytes: its characters are ASCII
unfoldable pub bytes : String → List ℕ
bytes []ˢ = []
bytes (c ∷ˢ text) = code c ∷ bytes text

-- no byte yet, and spaces behind
abbrev pub empty : Line
empty = record { len = 0; text = replicate 120 32 }

-- one byte more; a full line stays as it is
unfoldable pub pushed : Line → ℕ → Line
pushed l b = cond (ltb l.len 120) (record { len = l.len + 1; text = set l.text l.len b }) l

-- bytes, one after another
unfoldable pub put_all : Line → List ℕ → Line
put_all l [] = l
put_all l (b ∷ words) = put_all (pushed l b) words

-- what follows begins at a column, unless the line is past it or has no such column
unfoldable pub to_column : Line → ℕ → Line
to_column l column = cond (ltb l.len column) (cond (leb column 120) (record { len = column; text = l.text }) l) l

-- a number's decimal digits, at most so many, as ASCII: one below ten is its digit, any other has the digits of its tenth in front
unfoldable pub digits_in : ℕ → ℕ → List ℕ
digits_in zero n = []
digits_in (suc most) n = cond (ltb n 10) ((48 + n) ∷ []) (digits_in most (n / 10) ++ ((48 + n % 10) ∷ []))

-- a number of 64 bits has at most twenty
abbrev pub decimal : ℕ → List ℕ
decimal n = digits_in 20 n

-- a number that ends at a column, where the line leaves it the room
abbrev pub right_to : Line → ℕ → ℕ → Line
right_to l n column = put_all (to_column l (column - length (decimal n))) (decimal n)

-- a word, signed
unfoldable pub signed_word : Line → ℕ → Line
signed_word l x = cond (ltb x 32768) (put_all l (decimal x)) (put_all (put_all l (bytes "-")) (decimal (65536 - x)))

-- the devices' names, from device 0 on; whatever is none of the first four is the card reader
abbrev pub names : List String
names = "terminal" ∷ "disk" ∷ "tape" ∷ "printer" ∷ []

abbrev pub device_name : ℕ → String
device_name d = get_or names d "card reader"
