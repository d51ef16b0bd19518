-- Counting over a list of offers: the last one, and the offer that is number k
use mathlib.Core.Path.{◌≡◌, refl, ap}
use mathlib.Core.Bool.{Bool, true, false}
use mathlib.Core.List.{List, [], ◌∷◌, ◌++◌}
use Prim.Native.Nat.{ℕ, zero, suc, ◌+◌, ◌<◌, ◌≤◌}
use native.Mathlib.Omega.{arith}
use Rattle.notation.proofs.Upto.{split}
use Rattle.word.specs.Word.{bit}
use Rattle.machine.specs.Store.{World}
use Rattle.machine.specs.Offer.{Offer, offer, after, after_all}
use Rattle.waiting.specs.Count.{count_in}

pub bit-most : (b : Bool) → bit b ≤ 1
bit-most true = omega arith
bit-most false = omega arith

module _ (code : List ℕ) where
  pub after_last : (w : World) (xs : List Offer) (x : Offer) → after_all code w (xs ++ x ∷ []) ≡ after (after_all code w xs) (offer code (after_all code w xs) x)
  unfolding after_all
  after_last w [] x = refl
  after_last w (y ∷ xs) x = after_last (after w (offer code w y)) xs x

  module _ (test : World → Offer → Bool) where
    pub count-last : (w : World) (xs : List Offer) (x : Offer) → count_in code test w (xs ++ x ∷ []) ≡ count_in code test w xs + bit (test (after_all code w xs) x)
    unfolding count_in after_all
    count-last w [] x = omega arith
    count-last w (y ∷ xs) x = let z = count-last (after w (offer code w y)) xs x in omega arith

    pub count-first : (w : World) (xs ys : List Offer) → count_in code test w xs ≤ count_in code test w (xs ++ ys)
    unfolding count_in
    count-first w [] ys = omega arith
    count-first w (x ∷ xs) ys = let z = count-first (after w (offer code w x)) xs ys in omega arith

    -- the offer before which k passed the test, and which passes it
    pub record Nth (w : World) (xs : List Offer) (k : ℕ) : Type 0 where
      pub ys : List Offer
      pub x : Offer
      pub zs : List Offer
      pub whole : xs ≡ ys ++ x ∷ zs
      pub number : count_in code test w ys ≡ k
      pub hit : test (after_all code w ys) x ≡ true

    one_on : (w : World) (y : Offer) (xs : List Offer) (k n : ℕ) → Nth (after w (offer code w y)) xs k → n ≡ bit (test w y) + k → Nth w (y ∷ xs) n
    unfolding count_in after_all
    one_on w y xs k n z e =
        record {
          ys = y ∷ z.ys;
          x = z.x;
          zs = z.zs;
          whole = ap (λ (l : List Offer). y ∷ l) z.whole;
          number = omega (arith, z.number);
          hit = z.hit;
        }

    pub nth : (w : World) (xs : List Offer) (k : ℕ) → k < count_in code test w xs → Nth w xs k
    unfolding count_in after_all
    nth w [] k b = absurd (omega arith)
    nth w (y ∷ xs) zero b =
        split (test w y)
        (λ t. record { ys = []; x = y; zs = xs; whole = refl; number = refl; hit = t })
        (λ t. let e : 0 ≡ bit (test w y) + 0 = rw t in one_on w y xs 0 0 (nth (after w (offer code w y)) xs 0 (omega arith)) e)
    nth w (y ∷ xs) (suc k) b =
        split (test w y)
        (λ t.
        let e : suc k ≡ bit (test w y) + k = rw t (omega arith) in
        one_on w y xs k (suc k) (nth (after w (offer code w y)) xs k (omega arith)) e)
        (λ t.
        let e : suc k ≡ bit (test w y) + suc k = rw t (omega arith) in
        one_on w y xs (suc k) (suc k) (nth (after w (offer code w y)) xs (suc k) (omega arith)) e)
