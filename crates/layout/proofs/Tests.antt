-- A test of all elements of a list is that of all places
use mathlib.Core.Path.{◌≡◌, refl, sym, ap, ◌∙◌}
use mathlib.Core.Bool.{Bool, true, false, ◌&&◌, and-true, and_assoc}
use mathlib.Core.List.{List, [], ◌∷◌}
use Prim.Native.Nat.{ℕ, zero, suc, ◌+◌, ◌-◌, ◌<◌, ◌≤◌}
use native.Mathlib.Omega.{arith}
use lib.Dec.{ltb}
use lib.ListN.{length, get_or, take, drop}
use Rattle.std.specs.List.{list_all, fold, range_with_len}
use Rattle.std.proofs.lemmas.List.{length-take-le, length-drop, get_or-take, get_or-drop, get_or_default}
use Rattle.std.proofs.lemmas.List.FromFn.{length-range_with_len, get_or-range_with_len}
use Rattle.notation.specs.Upto.{all_to}
use Rattle.layout.specs.Layout.{from, bytes}

front : (q : ℕ → Bool) (n : ℕ) → all_to q (suc n) ≡ (q 0 && all_to (λ k. q (suc k)) n)
unfolding all_to
front q zero = alone (q 0)
  where
    alone : (b : Bool) → (true && b) ≡ (b && true)
    alone true = refl
    alone false = refl
front q (suc n) = rw (front q n) (and_assoc (q 0) (all_to (λ k. q (suc k)) n) (q (suc n)))

pub all_places : {A : Type 0} (p : A → Bool) (xs : List A) (q : ℕ → Bool) → ((k : ℕ) (d : A) → k < length xs → q k ≡ p (get_or xs k d)) → list_all p xs ≡ all_to q (length xs)
unfolding all_to
all_places p [] q h = refl
all_places p (x ∷ xs) q h = rw (front q (length xs), h 0 x (omega arith), all_places p xs (λ k. q (suc k)) (λ k d l. h (suc k) d (omega arith)))

pub places_below : (p : ℕ → Bool) (n : ℕ) → list_all p (range_with_len 0 n) ≡ all_to p n
places_below p n =
    rw (length-range_with_len 0 n) at
    (all_places p (range_with_len 0 n) p (λ k d l. let z : 0 + k ≡ k = omega arith in ap p (sym (get_or-range_with_len 0 n k d (omega (arith, length-range_with_len 0 n)) ∙ z))))

-- with no end before the last
folded : {A : Type 0} (p : A → Bool) (b : Bool) (xs : List A) → fold (λ ok x. ok && p x) b xs ≡ b && list_all p xs
folded p b [] = sym (and-true b)
folded p b (x ∷ xs) = folded p (b && p x) xs ∙ and_assoc b (p x) (list_all p xs)

-- so many words from a place on
pub bytes_row : (ws : List ℕ) (at n : ℕ) → at + n ≤ length ws → fold (λ ok w. ok && ltb w 256) true (take (at + n - at) (drop at ws)) ≡ bytes (from ws at) n
bytes_row ws at n h =
    let m : at + n - at ≡ n = omega arith in
    let l : length (take n (drop at ws)) ≡ n = length-take-le n (drop at ws) (omega (arith, length-drop at ws)) in
    rw m (rw l at (folded (λ w. ltb w 256) true (take n (drop at ws)) ∙ all_places (λ w. ltb w 256) (take n (drop at ws)) (λ k. ltb (from ws at k) 256) (λ k d b.
    let c : k < n = omega (arith, l) in
    rw (get_or-take n (drop at ws) k d c, get_or-drop at ws k d) (ap (λ w. ltb w 256) (get_or_default ws (at + k) 0 d (omega arith))))))
