-- The words of the image that the writer makes
use mathlib.Core.Path.{◌≡◌, refl, ◌∙◌}
use mathlib.Core.List.{List}
use Prim.Native.Nat.{ℕ, suc, ◌+◌, ◌-◌, ◌*◌, ◌/◌, ◌%◌, ◌<◌, ◌≤◌}
use native.Mathlib.Omega.{arith}
use lib.Dec.{eqb-suc-zero}
use lib.ListN.{length, get_or, get_or-eq_default}
use borrow.Author.Tests.{ne_eqb}
use Rattle.notation.specs.Upto.{sum_to}
use Rattle.notation.proofs.Upto.{sum_same, sum-last, length_list, get_d_list}
use Rattle.image.specs.declared.head.Header.{Header}
use Rattle.image.specs.Block.{word_at}
use Rattle.image.specs.Header.{fields, header_of, code_blocks}
use Rattle.image.specs.Read.{code_at}
use Rattle.image.specs.Write.{body, check, block_word, half, image_byte, image_length, image_of}

module _ (h : Header) (code : List ℕ) where
  -- ---- the words of a block
  pub body-number : (i : ℕ) → body h code i 0 ≡ i
  unfolding body
  body-number i = refl

  pub body_head : (j : ℕ) → body h code 0 (suc j) ≡ get_or (fields h) j 0
  unfolding body
  body_head j = let e : suc j - 1 ≡ j = omega arith in rw (eqb-suc-zero j, e)

  pub body-code : (i j : ℕ) → body h code (suc i) (suc j) ≡ get_or code (254 * i + j) 0
  unfolding body
  body-code i j =
      let a : suc i - 1 ≡ i = omega arith in
      let b : suc j - 1 ≡ j = omega arith in
      rw (eqb-suc-zero j, eqb-suc-zero i, a, b)

  pub word-body : (i j : ℕ) → j < 255 → block_word h code i j ≡ body h code i j
  unfolding block_word
  word-body i j l = rw (ne_eqb j 255 (omega arith))

  pub word-check : (i : ℕ) → block_word h code i 255 ≡ check h code i
  unfolding block_word
  word-check i = refl

  pub word_sum : (i : ℕ) → sum_to (block_word h code i) 256 % 65536 ≡ 65535
  word_sum i =
      let s : sum_to (block_word h code i) 255 ≡ sum_to (body h code i) 255 = sum_same _ _ 255 (word-body i) in
      omega (arith, sum-last (block_word h code i) 255, word-check i)

  -- ---- the same words in the image
  pub image_length_lem : length (image_of h code) ≡ image_length h.length
  image_length_lem = length_list (image_byte h code) 0 (image_length h.length)

  pub image_byte_lem : (p : ℕ) → p < image_length h.length → get_or (image_of h code) p 0 ≡ image_byte h code p
  image_byte_lem p l = let e : 0 + p ≡ p = omega arith in rw (get_d_list (image_byte h code) 0 (image_length h.length) p 0 l, e)

  image_half : (i j e : ℕ) → i ≤ code_blocks h.length → j < 256 → e < 2 → get_or (image_of h code) (2 * (256 * i + j) + e) 0 ≡ half e (block_word h code i j)
  image_half i j e l m b =
      let p : ℕ = 2 * (256 * i + j) + e in
      let x : p / 512 ≡ i = omega arith in
      let y : p % 512 / 2 ≡ j = omega arith in
      let z : p % 512 % 2 ≡ e % 2 = omega arith in
      rw (image_byte_lem p (omega arith), y, x, z)

  pub image_word : (i j : ℕ) → i ≤ code_blocks h.length → j < 256 → word_at (image_of h code) (256 * i + j) ≡ block_word h code i j
  image_word i j l m =
      let z : 2 * (256 * i + j) ≡ 2 * (256 * i + j) + 0 = omega arith in
      let a : get_or (image_of h code) (2 * (256 * i + j)) 0 ≡ block_word h code i j % 256 = rw z (image_half i j 0 l m (omega arith)) in
      omega (arith, image_half i j 1 l m (omega arith))

  pub image_number : (i : ℕ) → i ≤ code_blocks h.length → word_at (image_of h code) (256 * i) ≡ i
  image_number i l =
      let z : 256 * i ≡ 256 * i + 0 = omega arith in
      rw z (image_word i 0 l (omega arith) ∙ word-body i 0 (omega arith) ∙ body-number i)

  pub image_sum : (i : ℕ) → i ≤ code_blocks h.length → sum_to (λ j. word_at (image_of h code) (256 * i + j)) 256 % 65536 ≡ 65535
  image_sum i l = rw (sum_same _ (block_word h code i) 256 (λ j. image_word i j l)) (word_sum i)

  image_field : (j : ℕ) → j < 254 → word_at (image_of h code) (suc j) ≡ get_or (fields h) j 0
  image_field j l =
      let z : suc j ≡ 256 * 0 + suc j = omega arith in
      rw z (image_word 0 (suc j) (omega arith) (omega arith) ∙ word-body 0 (suc j) (omega arith) ∙ body_head j)

  pub image_header : header_of (image_of h code) ≡ h
  image_header =
      λ i. record {
        edition = image_field 0 (omega arith) i;
        length = image_field 1 (omega arith) i;
        devices = image_field 2 (omega arith) i;
        variables = image_field 3 (omega arith) i;
      }

  pub image_rest : (j : ℕ) → j < 250 → word_at (image_of h code) (5 + j) ≡ 0
  image_rest j l =
      let z : 5 + j ≡ suc (4 + j) = omega arith in
      rw z (image_field (4 + j) (omega arith) ∙ get_or-eq_default (fields h) 0 {n = 4 + j} (omega arith))

  pub image_code : (k : ℕ) → k < 254 * code_blocks h.length → code_at (image_of h code) k ≡ get_or code k 0
  image_code k l =
      let i : ℕ = k / 254 in
      let j : ℕ = k % 254 in
      let a : 256 * (1 + i) + 1 + j ≡ 256 * suc i + suc j = omega arith in
      let b : 254 * i + j ≡ k = omega arith in
      rw a (image_word (suc i) (suc j) (omega arith) (omega arith) ∙ word-body (suc i) (suc j) (omega arith) ∙ body-code i j ∙ rw b)
