-- Laws of the loops' turns, of the chain of checks and of the bytes that are written
use Rattle.std.proofs.Common.{◌≡◌, ℕ, ◌+◌, ◌-◌, ◌*◌, ◌/◌, ◌%◌, ◌<◌, ◌≤◌, zero, suc, Bool, true, false, not, ◌&&◌, eqb, List, [], ◌∷◌, length, get_or, take, drop, set, min, sym, refl, ap, subst, ◌∙◌, add-one, arith, length-drop, length-take-le, ltb-false, ne_eqb, eqb-true, le-leb, rules, lt-ltb, le-ltb, eq-eqb}
use Rattle.std.specs.Prelude.{Result, Ok, Err, IsErrAnd, fold}
use Rattle.std.specs.Int.Bits.{bit_or, or_zero_l}
use Rattle.std.proofs.lemmas.Nat.{le_or_l}
use mathlib.Core.Bool.{and-true}
use Rattle.std.specs.List.{list_all}
use Rattle.std.specs.Simd.{first_chunks}
use Rattle.std.proofs.Math.Seq.{take-suc}
use Rattle.std.proofs.lemmas.List.{get_or-drop, drop-drop}
use Rattle.std.proofs.lemmas.List.Folds.{list_all-append}
use borrow.Author.Tests.{eqb-false, not-false}
use borrow.Rule.Slice.PartMut.{put_mid}
use Rattle.image.specs.declared.head.Header.{Header}
use Rattle.image.specs.declared.table.Refusal.{Refusal}
use Rattle.notation.specs.Upto.{sum_to, all_to, list_to, laid}
use Rattle.notation.proofs.Upto.{split, neither, list_same, laid_more, laid_part, length-laid}
use Rattle.image.specs.Refusal.{Reply, taken, refused, ◌then◌, number_of, named, refused_by, check_says}
use Rattle.image.specs.Block.{word_at}
use Rattle.image.specs.Header.{fields, good_header, header_of, code_blocks}
use Rattle.image.specs.Read.{refuse, refusal1, refusal2, refusal3, refusal4, refusal5, refusal10, image_rows, examined, checks, read_says, code_at, copied, reading, written}
use Rattle.image.specs.Write.{body, check, block_word, block_byte, image_byte, image_length, write_checks}

-- ---- turns of a loop: a wrapping sum, a test of all
pub sum_more : (f : ℕ → ℕ) (k s x : ℕ) → s ≡ sum_to f k % 65536 → x ≡ f k → (s + x) % 65536 ≡ sum_to f (k + 1) % 65536
unfolding sum_to
sum_more f k s x e h = rw add-one (omega arith)

-- the same from s on
pub sum-from : (f : ℕ → ℕ) (s j a x : ℕ) → a ≡ (s + sum_to f j) % 65536 → x ≡ f j → (a + x) % 65536 ≡ (s + sum_to f (j + 1)) % 65536
unfolding sum_to
sum-from f s j a x e h = rw add-one (omega arith)

-- ---- words that are zero, byte by byte
no_bit : (a x : ℕ) → eqb (bit_or a x) 0 ≡ eqb a 0 && eqb x 0
no_bit a x =
    split (eqb a 0)
    (λ e. let z : a ≡ 0 = eqb-true a 0 e in rw (e, z, or_zero_l x))
    (λ e. rw e (ne_eqb _ _ (λ z. eqb-false a 0 e (omega (arith, le_or_l a x)))))

and_assoc : (p q r : Bool) → (p && q) && r ≡ p && (q && r)
and_assoc true q r = refl
and_assoc false q r = refl

none_from : (a : ℕ) (xs : List ℕ) → eqb (fold bit_or a xs) 0 ≡ eqb a 0 && list_all (λ b. eqb b 0) xs
none_from a [] = sym (and-true _)
none_from a (x ∷ xs) = none_from (bit_or a x) xs ∙ rw (no_bit a x) (and_assoc (eqb a 0) (eqb x 0) (list_all (λ b. eqb b 0) xs))

pub none_zero : (xs : List ℕ) → eqb (fold bit_or 0 xs) 0 ≡ list_all (λ b. eqb b 0) xs
none_zero xs = none_from 0 xs

zero_word : (x y : ℕ) → (eqb x 0 && (eqb y 0 && true)) ≡ eqb (x + y * 256) 0
zero_word x y =
    split (eqb x 0)
    (λ e. split (eqb y 0)
    (λ f. rw (e, f) (sym (eq-eqb _ _ (omega (arith, eqb-true x 0 e, eqb-true y 0 f)))))
    (λ f. rw (e, f) (sym (ne_eqb _ _ (λ z. eqb-false y 0 f (omega arith))))))
    (λ e. rw e (sym (ne_eqb _ _ (λ z. eqb-false x 0 e (omega arith)))))

regroup : (p q r : Bool) → (p && (q && true)) && r ≡ p && (q && r)
regroup true true r = refl
regroup true false r = refl
regroup false q r = refl

zero_words :
    (bytes : List ℕ) (a m : ℕ) →
    2 * (a + m) ≤ length bytes →
    list_all (λ b. eqb b 0) (take (2 * m) (drop (2 * a) bytes)) ≡ all_to (λ j. eqb (word_at bytes (a + j)) 0) m
unfolding all_to
zero_words bytes a zero l = refl
zero_words bytes a (suc m) l =
    let xs : List ℕ = drop (2 * a) bytes in
    let long : length xs ≡ length bytes - 2 * a = length-drop (2 * a) bytes in
    let z : 2 * suc m ≡ suc (suc (2 * m)) = omega arith in
    let p : 2 * a + 2 * m ≡ 2 * (a + m) = omega arith in
    let q : 2 * a + suc (2 * m) ≡ 2 * (a + m) + 1 = omega arith in
    let one = take-suc xs (2 * m) 0 (omega arith) in
    let two = take-suc xs (suc (2 * m)) 0 (omega arith) in
    rw (z, two, one, get_or-drop (2 * a) bytes (2 * m) 0, get_or-drop (2 * a) bytes (suc (2 * m)) 0, p, q, list_all-append, list_all-append, zero_words bytes a m (omega arith), ← zero_word (get_or bytes (2 * (a + m)) 0) (get_or bytes (2 * (a + m) + 1) 0))
    (regroup (all_to (λ j. eqb (word_at bytes (a + j)) 0) m) (eqb (get_or bytes (2 * (a + m)) 0) 0) (eqb (get_or bytes (2 * (a + m) + 1) 0) 0 && true))

all_same : (p q : ℕ → Bool) (n : ℕ) → ((k : ℕ) → k < n → p k ≡ q k) → all_to p n ≡ all_to q n
unfolding all_to
all_same p q zero h = refl
all_same p q (suc n) h = rw (all_same p q n (λ k l. h k (omega arith)), h n (omega arith))

-- the zeros after the header
pub rest_is : (bytes : List ℕ) → 512 ≤ length bytes → list_all (λ b. eqb b 0) (take 500 (drop 10 bytes)) ≡ all_to (λ j. eqb (word_at bytes (5 + j)) 0) 250
rest_is bytes l = zero_words bytes 5 250 (omega arith)

-- ---- a check answers by its test, and its answer tells the test
pub fails : (n : ℕ) (bad : Bool) → bad ≡ true → refused n [] ≡ refuse n bad
fails n bad e = rw e

pub passes : (n : ℕ) (bad : Bool) → bad ≡ false → taken [] ≡ refuse n bad
passes n bad e = rw e

taken_isnt_refused : {X : Type 0} (vs ws : List ℕ) (n : ℕ) → taken vs ≡ refused n ws → X
taken_isnt_refused vs ws n e = let z : ◌≡◌ {A = ℕ} 0 1 = cc in absurd (omega arith)

pub passed : (n : ℕ) (bad : Bool) (vs : List ℕ) → taken vs ≡ refuse n bad → bad ≡ false
passed n true vs e = taken_isnt_refused vs [] n e
passed n false vs e = refl

pub both_taken : (vs : List ℕ) (r next : Reply) → taken vs ≡ r then next → ((ws : List ℕ) × (taken ws ≡ r)) × (taken vs ≡ next)
both_taken vs (taken ws) next e = ((ws, refl), e)
both_taken vs (refused n ws) next e = taken_isnt_refused vs ws n e

-- ---- a check under a `?`: where it refuses, the refusal comes out as it is
pub err_is : {T : Type 0} (y : Result T Refusal) (x : Refusal) → IsErrAnd y (λ e. e ≡ x) → y ≡ Err x
err_is (Err e) x h = ap Err h
err_is (Ok t) x h = absurd h

pub out-check : (y : Result (Unit {0}) Refusal) (x : Refusal) → IsErrAnd y (λ e. e ≡ x) → check_says y ≡ refused_by x
out-check y x h = rw (err_is y x h)

pub out-read : (y : Result Header Refusal) (x : Refusal) → IsErrAnd y (λ e. e ≡ x) → read_says y ≡ refused_by x
out-read y x h = rw (err_is y x h)

pub then-refused : (r next : Reply) (x : Refusal) → refused_by x ≡ r → r then next ≡ refused_by x
then-refused r next x e = rw (← e)

pub then_taken : (r next : Reply) (vs : List ℕ) → taken vs ≡ r → r then next ≡ next
then_taken r next vs e = rw (← e)

-- ---- what a passed check says of the numbers
pub one_block_long : (len : ℕ) (vs : List ℕ) → taken vs ≡ refusal1 len → 512 ≤ len
unfolding refusal1
one_block_long len vs e =
    let z : (eqb len 0 ≡ false) × (not (eqb (len % 512) 0) ≡ false) = neither _ _ (passed 1 _ vs e) in
    omega (arith, eqb-false len 0 z.0, eqb-true (len % 512) 0 (not-false _ z.1))

pub code_inside : (len n : ℕ) (vs : List ℕ) → taken vs ≡ refusal4 len n → 512 * (1 + code_blocks n) ≤ len
unfolding refusal4
code_inside len n vs e = omega (arith, eqb-true (len / 512) (1 + code_blocks n) (not-false _ (passed 4 _ vs e)))

pub size_fits : (room size : ℕ) (vs : List ℕ) → taken vs ≡ refusal10 room size → size ≤ room
unfolding refusal10
size_fits room size vs e = ltb-false room size (passed 10 _ vs e)

inside_all : (bytes vs : List ℕ) → taken vs ≡ image_rows bytes (taken []) → 512 * (1 + code_blocks (word_at bytes 2)) ≤ length bytes
inside_all bytes vs e =
    let p1 = both_taken vs (refusal1 (length bytes)) _ e in
    let p2 = both_taken vs (refusal2 bytes) _ p1.1 in
    let p3 = both_taken vs (refusal3 bytes) _ p2.1 in
    let p4 = both_taken vs (refusal4 (length bytes) (word_at bytes 2)) _ p3.1 in
    code_inside _ _ _ p4.0.1

-- ---- rows 1 to 5, and what comes after them
over-row : (r x y next : Reply) → x then next ≡ y → (r then x) then next ≡ r then y
over-row (taken vs) x y next e = e
over-row (refused n vs) x y next e = refl

pub rows_then : (bytes : List ℕ) (next : Reply) → image_rows bytes (taken []) then next ≡ image_rows bytes next
rows_then bytes next =
    let n : ℕ = word_at bytes 2 in
    over-row (refusal1 (length bytes)) _ _ next
    (over-row (refusal2 bytes) _ _ next
    (over-row (refusal3 bytes) _ _ next
    (over-row (refusal4 (length bytes) n) _ _ next (over-row (refusal5 bytes n) (taken []) next next refl))))

-- what an examined image is answered, whatever comes after rows 1 to 5
pub over_all : (x : Reply) (vs : List ℕ) (n : ℕ) (ws : List ℕ) (next : Reply) → x then taken vs ≡ refused n ws → x then next ≡ refused n ws
over_all (taken us) vs n ws next e = taken_isnt_refused vs ws n e
over_all (refused m us) vs n ws next e = e

abbrev values : Reply → List ℕ
values (taken vs) = vs
values (refused n vs) = vs

pub through_all : (x : Reply) (vs ws : List ℕ) (next : Reply) → x then taken vs ≡ taken ws → ((us : List ℕ) × (taken us ≡ x)) × (x then next ≡ next) × (vs ≡ ws)
through_all (taken us) vs ws next e = ((us, refl), refl, ap values e)
through_all (refused m us) vs ws next e = taken_isnt_refused ws us m (sym e)

abbrev pub header_from : List ℕ → Header
header_from l = record { edition = get_or l 0 0; length = get_or l 1 0; devices = get_or l 2 0; variables = get_or l 3 0 }

module _ (bytes : List ℕ) (x : Result Header Refusal) (e : read_says x ≡ examined bytes) where
  by_rows : image_rows bytes (taken []) then taken (fields (header_of bytes)) ≡ read_says x
  unfolding examined
  by_rows = rows_then bytes (taken (fields (header_of bytes))) ∙ sym e

  pub examined-refuses : (r : Refusal) (next : Reply) → x ≡ Err r → image_rows bytes next ≡ refused_by r
  examined-refuses r next t =
      sym (rows_then bytes next) ∙ over_all (image_rows bytes (taken [])) (fields (header_of bytes)) (number_of r) (named r) next (rw t at by_rows)

  pub examined_accepts : (h : Header) (next : Reply) → x ≡ Ok h → (image_rows bytes next ≡ next) × (header_of bytes ≡ h)
  examined_accepts h next t =
      let p = through_all (image_rows bytes (taken [])) (fields (header_of bytes)) (fields h) next (rw t at by_rows) in
      (sym (rows_then bytes next) ∙ p.1, ap header_from p.2)

  -- an accepted image has its code
  pub examined-holds : (h : Header) → x ≡ Ok h → 512 * (1 + code_blocks h.length) ≤ length bytes
  examined-holds h t =
      let p = through_all (image_rows bytes (taken [])) (fields (header_of bytes)) (fields h) (taken []) (rw t at by_rows) in
      let g : header_of bytes ≡ h = ap header_from p.2 in
      rw (← g) (inside_all bytes p.0.0 p.0.1)

pub copied-fits : (bytes : List ℕ) (n : ℕ) (code : List ℕ) → n ≤ length code → 512 * (1 + code_blocks n) ≤ length bytes → copied bytes n code ≡ laid (code_at bytes) n code
unfolding copied
copied-fits bytes n code l m = rw (le-leb n (length code) l, le-leb (512 * (1 + code_blocks n)) (length bytes) m)

-- ---- reading: the image by itself, then the room
module _ (bytes : List ℕ) (x : Result Header Refusal) (e : read_says x ≡ examined bytes) (code : List ℕ) where
  abbrev new : List ℕ
  new = laid (code_at bytes) (word_at bytes 2) code

  pub read_refuses :
      (r : Refusal) (out : Result Header Refusal) →
      x ≡ Err r → IsErrAnd out (λ e. e ≡ r) →
      (read_says out ≡ reading bytes (length code)) × (code ≡ written (reading bytes (length code)) new code)
  unfolding checks
  read_refuses r out t o =
      let z = examined-refuses bytes x e r (refusal10 (length code) (word_at bytes 2)) t in
      (rw (z, out-read out r o), rw z)

  module _ (h : Header) (t : x ≡ Ok h) (k : Result (Unit {0}) Refusal) (f : check_says k ≡ refusal10 (length code) h.length) where
    all_rows : checks bytes (taken []) (length code) ≡ check_says k
    unfolding checks
    all_rows =
        let p = examined_accepts bytes x e h (refusal10 (length code) (word_at bytes 2)) t in
        p.0 ∙ ap (λ (z : Header). refusal10 (length code) z.length) p.1 ∙ sym f

    pub read_short :
        (y : Refusal) (out : Result Header Refusal) →
        k ≡ Err y → IsErrAnd out (λ e. e ≡ y) →
        (read_says out ≡ reading bytes (length code)) × (code ≡ written (reading bytes (length code)) new code)
    read_short y out u o = (rw (all_rows, u, out-read out y o), rw (all_rows, u))

    pub read_taken : k ≡ Ok tt → (taken (fields h) ≡ reading bytes (length code)) × (copied bytes h.length code ≡ written (reading bytes (length code)) new code)
    read_taken u =
        let p = examined_accepts bytes x e h (taken []) t in
        let r : taken [] ≡ refusal10 (length code) h.length = rw u at f in
        let c = copied-fits bytes h.length code (size_fits (length code) h.length [] r) (examined-holds bytes x e h t) in
        let n : word_at bytes 2 ≡ h.length = ap (λ (z : Header). z.length) p.1 in
        (rw (all_rows, u) (sym (ap (λ (z : Header). taken (fields z)) p.1)), rw (all_rows, u, n) c)

-- where every check has passed
pub checked-fits :
    (bytes : List ℕ) (lent : Reply) (room : ℕ) (vs : List ℕ) →
    taken vs ≡ checks bytes lent room →
    ((ws : List ℕ) × (taken ws ≡ lent)) × (512 * (1 + code_blocks (word_at bytes 2)) ≤ length bytes) × (word_at bytes 2 ≤ room)
unfolding checks
checked-fits bytes lent room vs e =
    let p1 = both_taken vs (refusal1 (length bytes)) _ e in
    let p2 = both_taken vs (refusal2 bytes) _ p1.1 in
    let p3 = both_taken vs (refusal3 bytes) _ p2.1 in
    let p4 = both_taken vs (refusal4 (length bytes) (word_at bytes 2)) _ p3.1 in
    let p5 = both_taken vs (refusal5 bytes (word_at bytes 2)) _ p4.1 in
    let p6 = both_taken vs lent _ p5.1 in
    (p6.0, code_inside _ _ _ p4.0.1, size_fits _ _ _ p6.1)

pub image_fits : (h : Header) (words room : ℕ) (vs : List ℕ) → taken vs ≡ write_checks h words room → image_length h.length ≤ room
unfolding write_checks
image_fits h words room vs e =
    let p1 = both_taken vs (refuse 3 (not (good_header h))) _ e in
    let p2 = both_taken vs (refuse 6 (not (eqb words h.length))) _ p1.1 in
    size_fits _ _ _ p2.1

-- ---- a block as it is written, word by word
module _ (h : Header) (code : List ℕ) (i j : ℕ) where
  low_half : block_byte h code i (2 * j) ≡ block_word h code i j % 256
  low_half =
      let r : 2 * j % 2 ≡ 0 = omega arith in
      let q : 2 * j / 2 ≡ j = omega arith in
      rw (r, q)

  high_half : block_byte h code i (2 * j + 1) ≡ block_word h code i j / 256
  high_half =
      let r : (2 * j + 1) % 2 ≡ 1 = omega arith in
      let q : (2 * j + 1) / 2 ≡ j = omega arith in
      rw (r, q)

-- words 0 to 254 are the body, word 255 the check
pub body-word : (h : Header) (code : List ℕ) (i j : ℕ) → j < 255 → body h code i j ≡ block_word h code i j
unfolding block_word
body-word h code i j l = let n : j ≡ 255 → ⊥ = λ e. omega arith in rw (ne_eqb j 255 n)

pub check-word : (h : Header) (code : List ℕ) (i : ℕ) → check h code i ≡ block_word h code i 255
unfolding block_word
check-word h code i = refl

-- one word more
pub word_more :
    (h : Header) (code : List ℕ) (i j w : ℕ) (l : List ℕ) →
    let f : ℕ → ℕ = block_byte h code i in
    2 * j + 1 < length l → w ≡ block_word h code i j →
    set (set (laid f (2 * j) l) (2 * j) (w % 256)) (2 * j + 1) (w / 256) ≡ laid f (2 * (j + 1)) l
word_more h code i j w l m e =
    let z : 2 * (j + 1) ≡ 2 * j + 1 + 1 = omega arith in
    rw
    (e, ← low_half h code i j, ← high_half h code i j, z, laid_more (block_byte h code i) (2 * j) l (omega arith))
    (laid_more (block_byte h code i) (2 * j + 1) l m)

-- ---- one block more of the image
image_here : (h : Header) (code : List ℕ) (i k : ℕ) → k < 512 → block_byte h code i (0 + k) ≡ image_byte h code (512 * i + k)
image_here h code i k l =
    let q : (512 * i + k) / 512 ≡ i = omega arith in
    let r : (512 * i + k) % 512 ≡ 0 + k = omega arith in
    rw (q, r)

pub block_more :
    (i at size : ℕ) (out part : List ℕ) (h : Header) (code out₀ : List ℕ) →
    at ≡ 512 * i → size ≡ 512 → out ≡ laid (image_byte h code) (512 * i) out₀ → part ≡ list_to (block_byte h code i) 512 →
    put_mid at size out part ≡ laid (image_byte h code) (512 * (i + 1)) out₀
block_more i at size out part h code out₀ a n e p =
    let z : 512 * (i + 1) ≡ 512 * i + 512 = omega arith in
    rw
    (a, n, z, e, p, list_same (block_byte h code i) (image_byte h code) 0 (512 * i) 512 (image_here h code i))
    (laid_part (image_byte h code) (512 * i) 512 out₀)

-- ---- one part more of the code: words of block i + 1, from its first content word on
content_is : (bytes : List ℕ) (i j : ℕ) → j < 254 → word_at bytes (256 * (1 + i) + 1 + (0 + j)) ≡ code_at bytes (254 * i + j)
content_is bytes i j t =
    let q : (254 * i + j) / 254 ≡ i = omega arith in
    let r : (254 * i + j) % 254 ≡ 0 + j = omega arith in
    rw (q, r)

part_laid :
    (bytes : List ℕ) (i k : ℕ) (code part code₀ : List ℕ) →
    code ≡ laid (code_at bytes) (254 * i) code₀ → k ≤ 254 → part ≡ list_to (λ j. word_at bytes (256 * (1 + i) + 1 + j)) k →
    put_mid (254 * i) k code part ≡ laid (code_at bytes) (254 * i + k) code₀
part_laid bytes i k code part code₀ h m p =
    rw
    (p, h, list_same (λ j. word_at bytes (256 * (1 + i) + 1 + j)) (code_at bytes) 0 (254 * i) k (λ j t. content_is bytes i j (omega arith)))
    (laid_part (code_at bytes) (254 * i) k code₀)

-- from word a on, up to word e, of which at most 254 words are the block's
pub part_more :
    (a e i : ℕ) (code part bytes code₀ : List ℕ) →
    code ≡ laid (code_at bytes) (254 * i) code₀ →
    part ≡ list_to (λ j. word_at bytes (256 * (1 + i) + 1 + j)) (length (take (e - a) (drop a code))) →
    a ≡ 254 * i → a ≤ e → e ≤ a + 254 → e ≤ length code₀ →
    put_mid a (e - a) code part ≡ laid (code_at bytes) e code₀
part_more a e i code part bytes code₀ h p f l l' m =
    let same : length code ≡ length code₀ = ap length h ∙ length-laid (code_at bytes) (254 * i) code₀ (omega arith) in
    let long : length (take (e - a) (drop a code)) ≡ e - a = length-take-le (e - a) (drop a code) (omega (arith, length-drop a code)) in
    let y : 254 * i + (e - a) ≡ e = omega arith in
    let t = part_laid bytes i (e - a) code part code₀ h (omega arith) (rw long at p) in
    let Laid : ℕ → Type 0 = λ k. put_mid k (e - a) code part ≡ laid (code_at bytes) e code₀ in
    subst Laid (sym f) (rw y at t)

-- the fill stands in the last block
fill_place : (n k : ℕ) → k < 254 * code_blocks n - n → 256 * (1 + (n + k) / 254) + 1 + (n + k) % 254 ≡ n + 2 * code_blocks n + 255 + k
fill_place n k l = omega arith

pub fill_is :
    (bytes : List ℕ) (n first end : ℕ) (r : Bool) →
    r ≡ list_all (λ b. eqb b 0) (take (2 * end - 2 * first) (drop (2 * first) bytes)) →
    first ≡ n + 2 * code_blocks n + 255 → end ≡ first + (254 * code_blocks n - n) → 512 * (1 + code_blocks n) ≤ length bytes →
    r ≡ all_to (λ j. eqb (code_at bytes (n + j)) 0) (254 * code_blocks n - n)
fill_is bytes n first end r h f e l =
    let m : ℕ = 254 * code_blocks n - n in
    let z : 2 * end - 2 * first ≡ 2 * m = omega arith in
    rw z at h ∙ zero_words bytes first m (omega arith)
    ∙ all_same _ _ m (λ k b. ap (λ w. eqb (word_at bytes w) 0) (omega (arith, fill_place n k b)))

-- ---- the image as blocks
pub chunk_at : (k i : ℕ) (xs d : List ℕ) → i < k → get_or (first_chunks 512 k xs) i d ≡ take 512 (drop (512 * i) xs)
chunk_at zero i xs d l = absurd (omega arith)
chunk_at (suc k) zero xs d l = refl
chunk_at (suc k) (suc i) xs d l =
    let z : 512 + 512 * i ≡ 512 * suc i = omega arith in
    chunk_at k i (drop 512 xs) d (omega arith) ∙ ap (take 512) (drop-drop (512 * i) 512 xs ∙ ap (λ (j : ℕ). drop j xs) z)

-- ---- what the functions' attributes name
pub ruleset chain = (out-check, out-read, then-refused, then_taken, one_block_long, code_inside, rows_then)

pub ruleset cases = (rules, lt-ltb, le-ltb, eq-eqb, ne_eqb)
