-- Laws of parts that stand one after the other
use mathlib.Core.Path.{◌≡◌, refl, sym, ap, subst, ◌∙◌}
use mathlib.Core.Bool.{true}
use mathlib.Core.List.{List, [], ◌∷◌, ◌++◌, append-nil}
use Prim.Native.Nat.{ℕ, zero, suc, ◌+◌, ◌-◌, ◌*◌, ◌≤◌, ◌<◌}
use native.Mathlib.Omega.{arith}
use native.Mathlib.Numerals.{add-one}
use native.Mathlib.Nat.{mul-suc}
use denote.Param.Members.{Mut}
use lib.ListN.{length, get_or, take}
use lib.Seq.{take-suc, take-length}
use Rattle.std.specs.Fn.{Called}
use Rattle.std.specs.Array.{IsFromFnResult, IsFromFnResultFrom}
use Rattle.std.specs.List.{flat_map}
use Rattle.std.proofs.lemmas.Grind.{flat_map-append}
use Rattle.notation.specs.Upto.{list_to, all_to}
use Rattle.notation.proofs.Upto.{below?, all_at}
use Rattle.layout.specs.Layout.{rows, from, bytes, process_fits}
use Rattle.layout.specs.Write.{Put}
use Rattle.layout.proofs.Laws.{then, byte_at, some_bytes, process_byte}
use Rattle.layout.proofs.Says.{list_of}

-- ---- written
pub flat_more : {A : Type 0} (f : A → List ℕ) (xs : List A) (i : ℕ) (d : A) → i < length xs → flat_map f (take (suc i) xs) ≡ flat_map f (take i xs) ++ f (get_or xs i d)
flat_more f xs i d h = rw (take-suc xs i d h, flat_map-append f (take i xs) (get_or xs i d ∷ []), append-nil (f (get_or xs i d)))

pub put_more :
    {A : Type 0} {l to new : List ℕ} {at i w : ℕ} (f : A → List ℕ) (xs : List A) (x : A) → i < length xs → x ≡ get_or xs i x →
    Put l at (flat_map f (take i xs)) (w * i) to → Put to (at + w * i) (f x) w new → Put l at (flat_map f (take (i + 1) xs)) (w * (i + 1)) new
put_more {i = i} {w = w} f xs x h e p q = rw (add-one i, mul-suc w i, flat_more f xs i x h, ← e) (then p q)

-- all of them are the rows of the definition
rows_flat : {A : Type 0} (f : A → List ℕ) (d : A) (xs : List A) (n : ℕ) → n ≤ length xs → rows (λ i. f (get_or xs i d)) n ≡ flat_map f (take n xs)
unfolding rows
rows_flat f d xs zero h = refl
rows_flat f d xs (suc n) h = rw (flat_more f xs n d (omega arith), rows_flat f d xs n (omega arith))

pub rows_put :
    {A : Type 0} {l new : List ℕ} {at : ℕ} (w : ℕ) (f : A → List ℕ) (d : A) (xs : List A) (n : ℕ) → length xs ≡ n →
    Put l at (flat_map f xs) (w * length xs) new → Put l at (rows (λ i. f (get_or xs i d)) n) (w * n) new
rows_put w f d xs n e p = rw (rows_flat f d xs n (omega arith), ← e, take-length xs) p

-- ---- read: calls that give h 0, h 1, .. and leave what they are called on as it is
module _ {F B : Type 0} (g : Mut F (ℕ × Unit {0}) B) (h : ℕ → B) (f : F) (ys : List B) (same : (i : ℕ) (y : B) (q : F) → Called g f (i, tt) y q → (q ≡ f) × (y ≡ h i)) where
  gave : (i n k : ℕ) → IsFromFnResultFrom g f ys i n → i ≤ k → k < i + n → (d : B) → get_or ys k d ≡ h k
  gave i zero k c l m d = absurd (omega arith)
  gave i (suc n) k c l m d =
      let s = same i c.1 c.0 c.3 in
      below? i k
      (λ b. gave (i + 1) n k (subst (λ (q : F). IsFromFnResultFrom g q ys (i + 1) n) s.0 c.4) (omega arith) (omega arith) d)
      (λ b. let z : k ≡ i = omega arith in rw z (c.2.1 d ∙ s.1))

  pub made : (n : ℕ) → IsFromFnResult g f ys n → ys ≡ list_to h n
  made n c = sym (list_of (h 0) h ys n c.long (λ k l. sym (gave 0 n k c.each (omega arith) (omega arith) (h 0))))

-- ---- numbers, each a word
singles : (xs : List ℕ) → flat_map (λ (x : ℕ). x ∷ []) xs ≡ xs
singles [] = refl
singles (x ∷ xs) = ap (λ (ys : List ℕ). x ∷ ys) (singles xs)

pub numbers_put : {l new : List ℕ} {at k : ℕ} (xs : List ℕ) (n : ℕ) → k ≡ n → Put l at (flat_map (λ (x : ℕ). x ∷ []) xs) k new → Put l at xs n new
numbers_put xs n e p = rw (e, singles xs) at p

-- a byte at a place of bytes
pub byte_in : (ws : List ℕ) (at n j : ℕ) → bytes (from ws at) n ≡ true → at ≤ j → j < at + n → get_or ws j 0 < 256
byte_in ws at n j e l m = let z : j ≡ at + (j - at) = omega arith in rw z (byte_at ws at n (j - at) e (omega arith))

pub bytes_in : (ws : List ℕ) (at n j k : ℕ) → bytes (from ws at) n ≡ true → at ≤ j → j + k ≤ at + n → bytes (from ws j) k ≡ true
bytes_in ws at n j k e l m = let z : j ≡ at + (j - at) = omega arith in rw z (some_bytes ws at n (j - at) k e (omega arith))

-- a byte at a place of a process
pub process_byte_in : (ws : List ℕ) (at j : ℕ) → process_fits (from ws at) ≡ true → at + 12 ≤ j → j < at + 23 → get_or ws j 0 < 256
process_byte_in ws at j e l m = let z : j ≡ at + (12 + (j - (at + 12))) = omega arith in rw z (process_byte ws at e (j - (at + 12)) (omega arith))

-- each process and each device of words that fit
pub process_at : (ws : List ℕ) (i : ℕ) → all_to (λ i. process_fits (from ws (24 * i))) 10 ≡ true → i < 10 → process_fits (from ws (0 + 24 * i)) ≡ true
process_at ws i e l = let z : 0 + 24 * i ≡ 24 * i = omega arith in rw z (all_at (λ i. process_fits (from ws (24 * i))) 10 i e l)

pub device_at : (ws : List ℕ) (d : ℕ) → all_to (λ d. bytes (from ws (795 + 3 * d)) 2) 5 ≡ true → d < 5 → bytes (from ws (795 + 3 * d)) 2 ≡ true
device_at ws d e l = all_at (λ d. bytes (from ws (795 + 3 * d)) 2) 5 d e l

-- what reading a part takes from what is known of the words of all
pub ruleset reads = (byte_in, bytes_in, process_byte_in, process_at, device_at)
