-- Reading takes an image where these facts hold and the code buffer is long enough, and only there
use mathlib.Core.Path.{◌≡◌, refl, sym, ap, subst, ◌∙◌}
use mathlib.Core.Bool.{Bool, true, false, not, ◌&&◌, ◌||◌}
use mathlib.Core.List.{List, [], ◌∷◌}
use Prim.Native.Nat.{ℕ, ◌+◌, ◌-◌, ◌*◌, ◌/◌, ◌%◌, ◌<◌, ◌≤◌}
use native.Mathlib.Omega.{arith}
use lib.Dec.{eqb, ltb}
use lib.ListN.{length, get_or, drop}
use lib.Seq.{get_or-take, get_or-drop}
use borrow.Author.Tests.{eqb-true, eq-eqb, ne_eqb, ltb-false, le-ltb, not-false}
use Rattle.notation.specs.If.{if}
use Rattle.notation.specs.Upto.{sum_to, all_to}
use Rattle.notation.proofs.Upto.{split, both, neither, sum_same, all_at, all_of, first-none, first_past}
use Rattle.image.specs.declared.head.Header.{Header}
use Rattle.image.specs.Refusal.{Reply, taken, refused, ◌then◌}
use Rattle.image.specs.Block.{word_at, blocks, block_at, good_block}
use Rattle.image.specs.Header.{fields, good_header, header_of, code_blocks}
use Rattle.image.specs.Read.{refuse, refusal1, refusal2, refusal3, refusal4, refusal5, refusal10, checks, reading, first_bad, code_at}
use Rattle.image.specs.Write.{image_length, writing, write_checks}

pub record Passes (bytes : List ℕ) : Type 0 where
  pub whole : length bytes ≡ image_length (word_at bytes 2)
  pub sum : (i : ℕ) → i ≤ code_blocks (word_at bytes 2) → sum_to (λ j. word_at bytes (256 * i + j)) 256 % 65536 ≡ 65535
  pub number : (i : ℕ) → i ≤ code_blocks (word_at bytes 2) → word_at bytes (256 * i) ≡ i
  pub header : good_header (header_of bytes) ≡ true
  pub rest : (j : ℕ) → j < 250 → word_at bytes (5 + j) ≡ 0
  pub fill : (k : ℕ) → word_at bytes 2 ≤ k → k < 254 * code_blocks (word_at bytes 2) → code_at bytes k ≡ 0

-- ---- a reply that refuses nothing
abbrev Taken : Reply → Type 0
Taken (taken vs) = Unit {0}
Taken (refused n vs) = ⊥

not_refused : (bad : Bool) (n : ℕ) (us : List ℕ) → Taken (if bad (refused n us) (taken [])) → bad ≡ false
not_refused true n us t = absurd t
not_refused false n us t = refl

tested : (good : Bool) (n : ℕ) → Taken (refuse n (not good)) → good ≡ true
tested good n t = not-false good (not_refused (not good) n [] t)

-- where six in order are taken, so is each; of the last it is not asked
taken_each : (a b c d e f : Reply) → Taken (a then b then c then d then e then f) → Taken a × Taken b × Taken c × Taken d × Taken e
taken_each (taken _) (taken _) (taken _) (taken _) (taken _) f t = (tt, tt, tt, tt, tt)
taken_each (taken _) (taken _) (taken _) (taken _) (refused _ _) f t = absurd t
taken_each (taken _) (taken _) (taken _) (refused _ _) e f t = absurd t
taken_each (taken _) (taken _) (refused _ _) d e f t = absurd t
taken_each (taken _) (refused _ _) c d e f t = absurd t
taken_each (refused _ _) b c d e f t = absurd t

taken-first : (a b : Reply) (vs : List ℕ) → a then b ≡ taken vs → Taken a
taken-first (taken _) b vs e = tt
taken-first (refused _ _) b vs e = subst Taken (sym e) tt

-- ---- the checks of numbers: what each tells where it passes, and where it passes
told1 : (len : ℕ) → Taken (refusal1 len) → len % 512 ≡ 0
unfolding refusal1
told1 len t = eqb-true _ _ (not-false _ (neither (eqb len 0) _ (not_refused (eqb len 0 || not (eqb (len % 512) 0)) 1 [] t)).1)

pass1 : (len : ℕ) → 0 < len → len % 512 ≡ 0 → refusal1 len ≡ taken []
unfolding refusal1
pass1 len l e = rw (ne_eqb len 0 (omega arith), eq-eqb (len % 512) 0 e)

told4 : (len n : ℕ) → Taken (refusal4 len n) → len / 512 ≡ 1 + code_blocks n
unfolding refusal4
told4 len n t = eqb-true _ _ (tested (eqb (len / 512) (1 + code_blocks n)) 4 t)

pass4 : (len n : ℕ) → len / 512 ≡ 1 + code_blocks n → refusal4 len n ≡ taken []
unfolding refusal4
pass4 len n e = rw (eq-eqb (len / 512) (1 + code_blocks n) e)

pass10 : (room n : ℕ) → n ≤ room → refusal10 room n ≡ taken []
unfolding refusal10
pass10 room n l = rw (le-ltb room n l)

module _ (bytes : List ℕ) where
  -- ---- a block's words are words of the bytes
  block_byte_lem : (i p : ℕ) → p < 512 → get_or (block_at bytes i) p 0 ≡ get_or bytes (512 * i + p) 0
  block_byte_lem i p l = get_or-take 512 (drop (512 * i) bytes) p 0 l ∙ get_or-drop (512 * i) bytes p 0

  block_word_lem : (i j : ℕ) → j < 256 → word_at (block_at bytes i) j ≡ word_at bytes (256 * i + j)
  block_word_lem i j l =
      let a : 2 * (256 * i + j) ≡ 512 * i + 2 * j = omega arith in
      let b : 512 * i + 2 * j + 1 ≡ 512 * i + (2 * j + 1) = omega arith in
      rw (block_byte_lem i (2 * j) (omega arith), block_byte_lem i (2 * j + 1) (omega arith), a, b)

  block_number : (i : ℕ) → word_at (block_at bytes i) 0 ≡ word_at bytes (256 * i)
  block_number i = let z : 256 * i ≡ 256 * i + 0 = omega arith in rw z (block_word_lem i 0 (omega arith))

  block_sum : (i : ℕ) → sum_to (word_at (block_at bytes i)) 256 ≡ sum_to (λ j. word_at bytes (256 * i + j)) 256
  block_sum i = sum_same _ _ 256 (block_word_lem i)

  good_sum : (i : ℕ) → good_block (block_at bytes i) i ≡ true → sum_to (λ j. word_at bytes (256 * i + j)) 256 % 65536 ≡ 65535
  unfolding good_block
  good_sum i e = rw (← block_sum i) (eqb-true _ _ (both _ (eqb (word_at (block_at bytes i) 0) i) e).0)

  good_number : (i : ℕ) → good_block (block_at bytes i) i ≡ true → word_at bytes (256 * i) ≡ i
  unfolding good_block
  good_number i e = sym (block_number i) ∙ eqb-true _ _ (both (eqb (sum_to (word_at (block_at bytes i)) 256 % 65536) 65535) _ e).1

  good_block_lem : (i : ℕ) → sum_to (λ j. word_at bytes (256 * i + j)) 256 % 65536 ≡ 65535 → word_at bytes (256 * i) ≡ i → good_block (block_at bytes i) i ≡ true
  unfolding good_block
  good_block_lem i s e = rw (block_sum i, block_number i, eq-eqb _ _ s, eq-eqb _ _ e)

  -- ---- the checks of blocks, header and fill
  abbrev bad_block : ℕ → Bool
  bad_block i = not (good_block (block_at bytes i) i)

  told2 : Taken (refusal2 bytes) → (i : ℕ) → i < blocks bytes → good_block (block_at bytes i) i ≡ true
  unfolding refusal2
  told2 t i l =
      let q : blocks bytes ≤ first_bad bytes = ltb-false _ _ (not_refused (ltb (first_bad bytes) (blocks bytes)) 2 (first_bad bytes ∷ []) t) in
      let z : 0 + i ≡ i = omega arith in
      not-false _ (rw z at (first-none bad_block 0 (blocks bytes) i (omega arith) l))

  pass2 : ((i : ℕ) → i < blocks bytes → good_block (block_at bytes i) i ≡ true) → refusal2 bytes ≡ taken []
  unfolding refusal2
  pass2 good =
      let e = first_past bad_block 0 (blocks bytes) (λ k l. let z : 0 + k ≡ k = omega arith in rw (z, good k l)) in
      rw (le-ltb (first_bad bytes) (blocks bytes) (omega arith))

  abbrev zero_after : ℕ → Bool
  zero_after j = eqb (word_at bytes (5 + j)) 0

  told3 : Taken (refusal3 bytes) → (good_header (header_of bytes) ≡ true) × ((j : ℕ) → j < 250 → word_at bytes (5 + j) ≡ 0)
  unfolding refusal3
  told3 t =
      let e = both _ _ (tested (good_header (header_of bytes) && all_to zero_after 250) 3 t) in
      (e.0, λ j l. eqb-true _ _ (all_at zero_after 250 j e.1 l))

  pass3 : good_header (header_of bytes) ≡ true → ((j : ℕ) → j < 250 → word_at bytes (5 + j) ≡ 0) → refusal3 bytes ≡ taken []
  unfolding refusal3
  pass3 e z = rw (e, all_of zero_after 250 (λ j l. eq-eqb _ _ (z j l)))

  abbrev zero_fill : ℕ → ℕ → Bool
  zero_fill n k = eqb (code_at bytes (n + k)) 0

  told5 : (n : ℕ) → Taken (refusal5 bytes n) → (k : ℕ) → n ≤ k → k < 254 * code_blocks n → code_at bytes k ≡ 0
  unfolding refusal5
  told5 n t k a b =
      let m : k - n < 254 * code_blocks n - n = omega arith in
      let z : k ≡ n + (k - n) = omega arith in
      let e = tested (all_to (zero_fill n) (254 * code_blocks n - n)) 5 t in
      ap (code_at bytes) z ∙ eqb-true _ _ (all_at (zero_fill n) (254 * code_blocks n - n) (k - n) e m)

  pass5 : (n : ℕ) → ((k : ℕ) → n ≤ k → k < 254 * code_blocks n → code_at bytes k ≡ 0) → refusal5 bytes n ≡ taken []
  unfolding refusal5
  pass5 n z = rw (all_of (zero_fill n) (254 * code_blocks n - n) (λ k l. eq-eqb _ _ (z (n + k) (omega arith) (omega arith))))

  -- ---- all of them
  pub told_read : (room : ℕ) (vs : List ℕ) → reading bytes room ≡ taken vs → Passes bytes
  unfolding checks
  told_read room vs e =
      let len : ℕ = length bytes in
      let n : ℕ = word_at bytes 2 in
      let first = taken-first (checks bytes (taken []) room) (taken (fields (header_of bytes))) vs e in
      let t = taken_each (refusal1 len) (refusal2 bytes) (refusal3 bytes) (refusal4 len n) (refusal5 bytes n) (refusal10 room n) first in
      let w : length bytes ≡ image_length n = omega (arith, told1 len t.0, told4 len n t.3) in
      record {
        whole = w;
        sum = λ i l. good_sum i (told2 t.1 i (omega arith));
        number = λ i l. good_number i (told2 t.1 i (omega arith));
        header = (told3 t.2).0;
        rest = (told3 t.2).1;
        fill = told5 n t.4;
      }

  pub pass_read : (room : ℕ) → Passes bytes → word_at bytes 2 ≤ room → reading bytes room ≡ taken (fields (header_of bytes))
  unfolding checks
  pass_read room p l =
      let w : length bytes ≡ image_length (word_at bytes 2) = p.whole in
      rw (
        pass1 (length bytes) (omega arith) (omega arith),
        pass2 (λ i m. good_block_lem i (p.sum i (omega arith)) (p.number i (omega arith))),
        pass3 p.header p.rest,
        pass4 (length bytes) (word_at bytes 2) (omega arith),
        pass5 (word_at bytes 2) p.fill,
        pass10 room (word_at bytes 2) l,
      )

-- ---- writing
pub told_write : (h : Header) (words room : ℕ) (vs : List ℕ) → writing h words room ≡ taken vs → (good_header h ≡ true) × (words ≡ h.length)
unfolding write_checks
told_write h words room vs e =
    let t : Taken (writing h words room) = rw e tt in
    split (good_header h)
    (λ g. split (eqb words h.length) (λ q. (g, eqb-true _ _ q)) (λ q. absurd (rw (g, q) at t)))
    (λ g. absurd (rw g at t))
