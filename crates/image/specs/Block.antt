-- "Blocks of 512 bytes, 256 little-endian words each"
use Rattle.std.specs.Prelude.{ℕ, ◌+◌, ◌*◌, ◌/◌, ◌%◌, Bool, ◌&&◌, List, length, take, drop, ◌==◌, slice_index}
use Rattle.notation.specs.Upto.{sum_to}

-- word k of the bytes
abbrev pub word_at : List ℕ → ℕ → ℕ
word_at bytes k = slice_index bytes (2 * k) + slice_index bytes (2 * k + 1) * 256

-- the whole blocks of the bytes, and the bytes of block i
abbrev pub blocks : List ℕ → ℕ
blocks bytes = length bytes / 512

abbrev pub block_at : List ℕ → ℕ → List ℕ
block_at bytes i = take 512 (drop (512 * i) bytes)

-- "word 0 the block number, words 1 to 254 content, word 255 such that the wrapping sum of all 256 words is 65,535"
unfoldable pub good_block : List ℕ → ℕ → Bool
good_block block i = sum_to (word_at block) 256 % 65536 == 65535 && word_at block 0 == i
