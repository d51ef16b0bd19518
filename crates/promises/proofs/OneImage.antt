-- What the writer makes passes every check, and what passes them is what the writer makes, word by word
use mathlib.Core.Path.{◌≡◌, refl, sym, ap, ◌∙◌}
use mathlib.Core.Bool.{true}
use mathlib.Core.List.{List}
use Prim.Native.Nat.{ℕ, zero, suc, ◌+◌, ◌*◌, ◌/◌, ◌%◌, ◌<◌, ◌≤◌}
use native.Mathlib.Omega.{arith}
use lib.Dec.{eqb}
use lib.ListN.{length, get_or, get_or-eq_default}
use lib.Seq.{ext_get_or}
use borrow.Author.Tests.{eqb-true, eqb-false}
use Rattle.notation.specs.Upto.{sum_to}
use Rattle.notation.proofs.Upto.{split, below?, sum_same, sum-last, length_list, get_d_list}
use Rattle.image.specs.declared.head.Header.{Header}
use Rattle.image.specs.Refusal.{taken}
use Rattle.image.specs.Block.{word_at}
use Rattle.image.specs.Header.{fields, good_header, header_of, code_blocks}
use Rattle.image.specs.Read.{code_at, code_of}
use Rattle.image.specs.Write.{body, check, block_word, half, image_length, image_of}
use Rattle.promises.specs.OneImage.{Below, ReadBack, OneImage}
use Rattle.promises.proofs.Words.{body-number, body_head, body-code, word-body, word-check, image_length_lem, image_byte_lem, image_number, image_sum, image_header, image_rest, image_code}
use Rattle.promises.proofs.Checks.{Passes, told_read, pass_read, told_write}

code-length : (bytes : List ℕ) → length (code_of bytes) ≡ word_at bytes 2
code-length bytes = length_list (code_at bytes) 0 (word_at bytes 2)

code-get : (bytes : List ℕ) (k : ℕ) → k < word_at bytes 2 → get_or (code_of bytes) k 0 ≡ code_at bytes k
code-get bytes k l = let z : 0 + k ≡ k = omega arith in get_d_list (code_at bytes) 0 (word_at bytes 2) k 0 l ∙ ap (code_at bytes) z

-- ---- what is written is read back
image_words : (h : Header) (code : List ℕ) → word_at (image_of h code) 2 ≡ h.length
image_words h code = ap (λ (g : Header). g.length) (image_header h code)

module _ (h : Header) (code : List ℕ) (good : good_header h ≡ true) (fits : length code ≡ h.length) where
  image_passes : Passes (image_of h code)
  image_passes =
      let e : word_at (image_of h code) 2 ≡ h.length = image_words h code in
      record {
        whole = image_length_lem h code ∙ ap image_length (sym e);
        sum = λ i l. image_sum h code i (omega arith);
        number = λ i l. image_number h code i (omega arith);
        header = ap good_header (image_header h code) ∙ good;
        rest = image_rest h code;
        fill = λ k a b. image_code h code k (omega arith) ∙ get_or-eq_default code 0 {n = k} (omega arith);
      }

  code_back : code_of (image_of h code) ≡ code
  code_back =
      let e : word_at (image_of h code) 2 ≡ h.length = image_words h code in
      let f : length (code_of (image_of h code)) ≡ length code = code-length (image_of h code) ∙ e ∙ sym fits in
      ext_get_or 0 (code_of (image_of h code)) code f (λ k l. code-get (image_of h code) k (omega arith) ∙ image_code h code k (omega arith))

pub read_back : ReadBack
read_back h code room e l =
    let (good, fits) = told_write h (length code) (image_length h.length) _ e in
    let m : word_at (image_of h code) 2 ≤ room = omega (arith, image_words h code) in
    let read = pass_read (image_of h code) room (image_passes h code good fits) m in
    (read ∙ ap (λ (g : Header). taken (fields g)) (image_header h code), code_back h code good fits)

-- ---- what passes is what the writer makes
module _ (bytes : List ℕ) (small : Below 256 bytes) (p : Passes bytes) where
  same_head : (j : ℕ) → j < 254 → word_at bytes (suc j) ≡ get_or (fields (header_of bytes)) j 0
  same_head zero l = refl
  same_head (suc zero) l = refl
  same_head (suc (suc zero)) l = refl
  same_head (suc (suc (suc zero))) l = refl
  same_head (suc (suc (suc (suc j)))) l =
      let z : suc (suc (suc (suc (suc j)))) ≡ 5 + j = omega arith in
      rw z (p.rest j (omega arith))

  same_code : (k : ℕ) → k < 254 * code_blocks (word_at bytes 2) → code_at bytes k ≡ get_or (code_of bytes) k 0
  same_code k l =
      below? k (word_at bytes 2)
      (λ m. sym (code-get bytes k m))
      (λ m. p.fill k m l ∙ sym (get_or-eq_default (code_of bytes) 0 {n = k} (omega (arith, code-length bytes))))

  same_body : (i j : ℕ) → i ≤ code_blocks (word_at bytes 2) → j < 255 → word_at bytes (256 * i + j) ≡ body (header_of bytes) (code_of bytes) i j
  same_body i zero l m =
      let z : 256 * i + 0 ≡ 256 * i = omega arith in
      rw (z, body-number (header_of bytes) (code_of bytes) i) (p.number i l)
  same_body zero (suc j) l m =
      let z : 256 * 0 + suc j ≡ suc j = omega arith in
      rw (z, body_head (header_of bytes) (code_of bytes) j) (same_head j (omega arith))
  same_body (suc i) (suc j) l m =
      let k : ℕ = 254 * i + j in
      let z : 256 * suc i + suc j ≡ 256 * (1 + k / 254) + 1 + k % 254 = omega arith in
      rw (z, body-code (header_of bytes) (code_of bytes) i j) (same_code k (omega arith))

  -- a word is below 65,536, so the sum leaves one choice
  same_check : (i : ℕ) → i ≤ code_blocks (word_at bytes 2) → word_at bytes (256 * i + 255) ≡ check (header_of bytes) (code_of bytes) i
  same_check i l =
      let k : ℕ = 256 * i + 255 in
      let s : sum_to (λ j. word_at bytes (256 * i + j)) 255 ≡ sum_to (body (header_of bytes) (code_of bytes) i) 255 = sum_same _ _ 255 (λ j. same_body i j l) in
      omega (arith, p.sum i l, sum-last (λ j. word_at bytes (256 * i + j)) 255, small (2 * k), small (2 * k + 1))

  same_word : (i j : ℕ) → i ≤ code_blocks (word_at bytes 2) → j < 256 → word_at bytes (256 * i + j) ≡ block_word (header_of bytes) (code_of bytes) i j
  same_word i j l m =
      below? j 255
      (λ b. same_body i j l b ∙ sym (word-body _ _ i j b))
      (λ b. let z : j ≡ 255 = omega arith in rw z (same_check i l ∙ sym (word-check (header_of bytes) (code_of bytes) i)))

  -- a byte is below 256, so its word tells it
  byte_half : (q : ℕ) → get_or bytes q 0 ≡ half (q % 512) (word_at bytes (256 * (q / 512) + q % 512 / 2))
  byte_half q =
      let k : ℕ = 256 * (q / 512) + q % 512 / 2 in
      split (eqb (q % 512 % 2) 0)
      (λ e. let z : q ≡ 2 * k = omega (arith, eqb-true (q % 512 % 2) 0 e) in rw e (omega (arith, ap (λ (x : ℕ). get_or bytes x 0) z, small (2 * k))))
      (λ e. let z : q ≡ 2 * k + 1 = omega (arith, eqb-false (q % 512 % 2) 0 e) in rw e (omega (arith, ap (λ (x : ℕ). get_or bytes x 0) z, small (2 * k))))

  same_byte : (q : ℕ) → q < length bytes → get_or bytes q 0 ≡ get_or (image_of (header_of bytes) (code_of bytes)) q 0
  same_byte q l =
      let w : length bytes ≡ image_length (word_at bytes 2) = p.whole in
      let same = same_word (q / 512) (q % 512 / 2) (omega arith) (omega arith) in
      byte_half q ∙ ap (half (q % 512)) same ∙ sym (image_byte_lem (header_of bytes) (code_of bytes) q (omega arith))

pub one_image : OneImage
one_image bytes room vs small e =
    let p = told_read bytes room vs e in
    let same = p.whole ∙ sym (image_length_lem (header_of bytes) (code_of bytes)) in
    ext_get_or 0 bytes (image_of (header_of bytes) (code_of bytes)) same (same_byte bytes small p)
