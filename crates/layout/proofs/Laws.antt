-- Laws of words written one after the other, and of words that are bytes
use mathlib.Core.Path.{◌≡◌, refl, ap, ◌∙◌, fun_ext}
use mathlib.Core.Bool.{Bool, true, ◌&&◌}
use mathlib.Core.List.{List, [], ◌∷◌, ◌++◌, append-nil}
use Prim.Native.Nat.{ℕ, zero, suc, ◌+◌, ◌≤◌, ◌<◌}
use native.Mathlib.Omega.{arith}
use borrow.Author.Tests.{ltb-true, lt-ltb, eqb-true}
use lib.Dec.{ltb}
use lib.ListN.{length, get_or, set, length-append}
use lib.Seq.{sets, sets-eq, drop-length}
use Rattle.notation.proofs.Upto.{both, all_at, all_of}
use Rattle.layout.specs.Layout.{from, bytes, process_fits, fits}
use Rattle.layout.specs.Read.{Fitting}
use Rattle.layout.specs.Write.{Put}

-- ---- written one after the other
pub joined : (l : List ℕ) (at n : ℕ) (xs ys : List ℕ) → length xs ≡ n → sets (sets l at xs) (at + n) ys ≡ sets l at (xs ++ ys)
joined l at n [] ys e = let z : at + n ≡ at = omega arith in rw z
joined l at zero (x ∷ xs) ys e = absurd (omega arith)
joined l at (suc n) (x ∷ xs) ys e =
    let z : at + suc n ≡ suc at + n = omega arith in
    rw z (joined (set l at x) (suc at) n xs ys (omega arith))

-- ---- bytes
pub byte_at : (ws : List ℕ) (at n k : ℕ) → bytes (from ws at) n ≡ true → k < n → get_or ws (at + k) 0 < 256
byte_at ws at n k e h = ltb-true _ _ (all_at (λ k. ltb (from ws at k) 256) n k e h)

-- some of them
pub some_bytes : (ws : List ℕ) (at n j k : ℕ) → bytes (from ws at) n ≡ true → j + k ≤ n → bytes (from ws (at + j)) k ≡ true
some_bytes ws at n j k e h =
    all_of (λ i. ltb (from ws (at + j) i) 256) k
    (λ i l. let z : at + j + i ≡ at + (j + i) = omega arith in rw z (lt-ltb _ _ (byte_at ws at n (j + i) e (omega arith))))

-- ---- a part's words, from the place of the part that holds it
pub shifted : (ws : List ℕ) (at j : ℕ) → from ws (at + j) ≡ (λ k. from ws at (j + k))
shifted ws at j = fun_ext (λ k. let z : at + j + k ≡ at + (j + k) = omega arith in rw z)

pub bytes_shifted : (ws : List ℕ) (at j n : ℕ) → bytes (from ws (at + j)) n ≡ bytes (λ k. from ws at (j + k)) n
bytes_shifted ws at j n = ap (λ (w : ℕ → ℕ). bytes w n) (shifted ws at j)

-- ---- a part written after another
pub stored : (l : List ℕ) (at x : ℕ) → Put l at (x ∷ []) 1 (set l at x)
stored l at x = record { stands = refl; long = refl }

pub then : {l to new : List ℕ} {at n w : ℕ} {xs ys : List ℕ} → Put l at xs n to → Put to (at + n) ys w new → Put l at (xs ++ ys) (n + w) new
then {l} {to} {new} {at} {n} {w} {xs} {ys} p q =
    record {
      stands = q.stands ∙ rw p.stands (joined l at n xs ys p.long);
      long = length-append xs ys ∙ rw (p.long, q.long);
    }

-- all words written
pub whole : {l new xs : List ℕ} {n : ℕ} → Put l 0 xs n new → length l ≡ n → new ≡ xs
whole {l} {new} {xs} p e =
    let z : 0 + length xs ≡ length l = omega (arith, p.long) in
    p.stands ∙ sets-eq xs l 0 (omega arith) ∙ rw (z, drop-length l) (append-nil xs)

-- ---- what a process that fits has
module _ (ws : List ℕ) (at : ℕ) (e : process_fits (from ws at) ≡ true) where
  process_small : bytes (λ k. from ws at (12 + k)) 11 ≡ true
  unfolding process_fits
  process_small =
      let small : Bool = bytes (λ k. from ws at (12 + k)) 11 in
      (both (ltb (from ws at 5) 2) small (both (ltb (from ws at 5) 2 && small) (ltb (from ws at 23) 2) e).0).1

  pub process_byte : (k : ℕ) → k < 11 → get_or ws (at + (12 + k)) 0 < 256
  process_byte k h = ltb-true _ _ (all_at (λ k. ltb (from ws at (12 + k)) 256) 11 k process_small h)

-- ---- what words that fit have
pub fitting : (ws : List ℕ) → fits ws ≡ true → Fitting ws
unfolding fits
fitting ws e =
    let f = both _ _ e in
    let h = both _ _ f.0 in
    let d = both _ _ h.0 in
    let c = both _ _ d.0 in
    let b = both _ _ c.0 in
    let a = both _ _ b.0 in
    record { long = eqb-true _ _ a.0; processes = a.1; queues = b.1; devices = c.1; numbers = d.1; count = h.1; mark = f.1 }
