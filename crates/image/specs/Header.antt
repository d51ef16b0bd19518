-- "Block 0 content: edition 1, code length n (1 to 16,256), present devices (bits 0 to 4), V (variables of process 0, 0 to 1,024), then zeros"
use Rattle.std.specs.Prelude.{ℕ, ◌+◌, ◌/◌, Bool, ◌&&◌, List, [], ◌∷◌, ◌==◌, nat_eq, nat_le}
use Rattle.image.specs.declared.head.Header.{Header}
use Rattle.notation.specs.Upto.{all_to}
use Rattle.image.specs.Block.{word_at}

abbrev pub fields : Header → List ℕ
fields h = h.edition ∷ h.length ∷ h.devices ∷ h.variables ∷ []

abbrev pub good_header : Header → Bool
good_header h =
    (h.edition == 1) && nat_le 1 h.length && nat_le h.length 16256 && nat_le h.devices 31 && nat_le h.variables 1024

-- the header that stands in block 0, and the zeros after it: words 5 to 254
abbrev pub header_of : List ℕ → Header
header_of bytes = record { edition = word_at bytes 1; length = word_at bytes 2; devices = word_at bytes 3; variables = word_at bytes 4 }

abbrev pub rest_zero : List ℕ → Bool
rest_zero bytes = all_to (λ j. nat_eq (word_at bytes (5 + j)) 0) 250

-- "n/254 rounded up"
abbrev pub code_blocks : ℕ → ℕ
code_blocks n = (n + 253) / 254
