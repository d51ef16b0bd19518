-- Writing an image: the one image of a header and code, what writing answers, and what the output then holds
use Rattle.std.specs.Prelude.{ℕ, ◌+◌, ◌-◌, ◌*◌, ◌/◌, ◌%◌, not, List, [], ◌∷◌, length, ◌==◌, slice_index, Result, Ok, Err}
use Rattle.image.specs.declared.head.Header.{Header}
use Rattle.image.specs.declared.table.Refusal.{Refusal}
use Rattle.notation.specs.If.{if}
use Rattle.notation.specs.Upto.{sum_to, list_to, laid}
use Rattle.image.specs.Refusal.{Reply, taken, ◌then◌, refused_by}
use Rattle.image.specs.Header.{fields, good_header, code_blocks}
use Rattle.image.specs.Read.{refuse, refusal10, written}

-- content word j, from 0, of block i: the header's fields and zeros in block 0, then the code and its zero fill
abbrev pub content : Header → List ℕ → ℕ → ℕ → ℕ
content h code i j = if (i == 0) (slice_index (fields h) j) (slice_index code (254 * (i - 1) + j))

-- words 0 to 254 of block i: its number, then its content
unfoldable pub body : Header → List ℕ → ℕ → ℕ → ℕ
body h code i j = if (j == 0) i (content h code i (j - 1))

-- word 255, such that the wrapping sum of all is 65,535
abbrev pub check : Header → List ℕ → ℕ → ℕ
check h code i = 65535 - sum_to (body h code i) 255 % 65536

-- word j of block i, and byte p of block i: the low half of a word stands first
unfoldable pub block_word : Header → List ℕ → ℕ → ℕ → ℕ
block_word h code i j = if (j == 255) (check h code i) (body h code i j)

abbrev pub half : ℕ → ℕ → ℕ
half p w = if (p % 2 == 0) (w % 256) (w / 256)

abbrev pub block_byte : Header → List ℕ → ℕ → ℕ → ℕ
block_byte h code i p = half p (block_word h code i (p / 2))

-- the image: one block for the header, and as many as the code fills
abbrev pub image_length : ℕ → ℕ
image_length n = 512 * (1 + code_blocks n)

abbrev pub image_byte : Header → List ℕ → ℕ → ℕ
image_byte h code p = block_byte h code (p / 512) (p % 512)

abbrev pub image_of : Header → List ℕ → List ℕ
image_of h code = list_to (image_byte h code) (image_length h.length)

-- "Writing takes the same header and code, with refusals 3, 6, 10"; then the number of bytes
unfoldable pub write_checks : Header → ℕ → ℕ → Reply
write_checks h words room =
    refuse 3 (not (good_header h))
    then refuse 6 (not (words == h.length))
    then refusal10 room (image_length h.length)

abbrev pub writing : Header → ℕ → ℕ → Reply
writing h words room = write_checks h words room then taken (image_length h.length ∷ [])

-- the cases of the code's answer
abbrev pub write_says : Result ℕ Refusal → Reply
write_says (Ok n) = taken (n ∷ [])
write_says (Err r) = refused_by r

-- "touches only the image's bytes"; a refusal changes nothing
abbrev pub bytes_after : Header → List ℕ → List ℕ → List ℕ
bytes_after h code out =
    written (writing h (length code) (length out)) (laid (image_byte h code) (image_length h.length) out) out
