-- Reading an image: what it answers, and what the code buffer then holds
use Rattle.std.specs.Prelude.{ℕ, ◌+◌, ◌-◌, ◌*◌, ◌/◌, ◌%◌, Bool, not, ◌&&◌, ◌||◌, List, [], ◌∷◌, length, ◌==◌, nat_eq, nat_le, nat_lt, Result, Ok, Err}
use Rattle.image.specs.declared.head.Header.{Header}
use Rattle.image.specs.declared.table.Refusal.{Refusal}
use Rattle.notation.specs.If.{if}
use Rattle.notation.specs.Upto.{all_to, list_to, laid, first_to}
use Rattle.image.specs.Refusal.{Reply, taken, refused, ◌then◌, refused_by}
use Rattle.image.specs.Block.{word_at, blocks, block_at, good_block}
use Rattle.image.specs.Header.{fields, good_header, header_of, rest_zero, code_blocks}

-- refused by a number where the test holds
abbrev pub refuse : ℕ → Bool → Reply
refuse n bad = if bad (refused n []) (taken [])

-- 1: image length 0 or not a multiple of 512
unfoldable pub refusal1 : ℕ → Reply
refusal1 len = refuse 1 (len == 0 || not (len % 512 == 0))

-- 2: a block's check, then its number, is wrong; the first such block is named
abbrev pub first_bad : List ℕ → ℕ
first_bad bytes = first_to (λ i. not (good_block (block_at bytes i) i)) (blocks bytes)

unfoldable pub refusal2 : List ℕ → Reply
refusal2 bytes = if (nat_lt (first_bad bytes) (blocks bytes)) (refused 2 (first_bad bytes ∷ [])) (taken [])

-- 3: header field out of range, or a nonzero word after it
unfoldable pub refusal3 : List ℕ → Reply
refusal3 bytes = refuse 3 (not (good_header (header_of bytes) && rest_zero bytes))

-- 4: block count is not 1 plus n/254 rounded up
unfoldable pub refusal4 : ℕ → ℕ → Reply
refusal4 len n = refuse 4 (not (len / 512 == 1 + code_blocks n))

-- "Code follows from block 1": word k of it is content word k mod 254 of block 1 + k / 254
abbrev pub code_at : List ℕ → ℕ → ℕ
code_at bytes k = word_at bytes (256 * (1 + k / 254) + 1 + k % 254)

-- 5: nonzero fill after the code
unfoldable pub refusal5 : List ℕ → ℕ → Reply
refusal5 bytes n = refuse 5 (not (all_to (λ k. nat_eq (code_at bytes (n + k)) 0) (254 * code_blocks n - n)))

-- 10: output too short
unfoldable pub refusal10 : ℕ → ℕ → Reply
refusal10 room size = refuse 10 (nat_lt room size)

-- rows 1 to 5 in the table's order, with n as the header says it; then what comes after them
abbrev pub image_rows : List ℕ → Reply → Reply
image_rows bytes next =
    refusal1 (length bytes)
    then refusal2 bytes
    then refusal3 bytes
    then refusal4 (length bytes) (word_at bytes 2)
    then refusal5 bytes (word_at bytes 2)
    then next

-- an image by itself: its header, or the first refusal of 1 to 5
unfoldable pub examined : List ℕ → Reply
examined bytes = image_rows bytes (taken (fields (header_of bytes)))

-- all that loading and reading ask; `lent` is what 6 says where stores are lent too
unfoldable pub checks : List ℕ → Reply → ℕ → Reply
checks bytes lent room = image_rows bytes (lent then refusal10 room (word_at bytes 2))

abbrev pub reading : List ℕ → ℕ → Reply
reading bytes room = checks bytes (taken []) room then taken (fields (header_of bytes))

-- the cases of the code's answer
abbrev pub read_says : Result Header Refusal → Reply
read_says (Ok h) = taken (fields h)
read_says (Err r) = refused_by r

-- "touches only the first n": the code over the buffer, where the image has it and the buffer has room
unfoldable pub copied : List ℕ → ℕ → List ℕ → List ℕ
copied bytes n code =
    if (nat_le n (length code) && nat_le (512 * (1 + code_blocks n)) (length bytes)) (laid (code_at bytes) n code) code

-- a refusal changes nothing
abbrev pub written : Reply → List ℕ → List ℕ → List ℕ
written (taken vs) after before = after
written (refused n vs) after before = before

abbrev pub code_after : List ℕ → List ℕ → List ℕ
code_after bytes code = written (reading bytes (length code)) (laid (code_at bytes) (word_at bytes 2) code) code

-- the code of an accepted image
abbrev pub code_of : List ℕ → List ℕ
code_of bytes = list_to (code_at bytes) (word_at bytes 2)
