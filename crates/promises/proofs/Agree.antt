-- Private stores that agree but for the part of process j: what keeps the agreement, and which words it makes equal
use mathlib.Core.Path.{◌≡◌, sym, ◌∙◌}
use mathlib.Core.List.{List, [], ◌∷◌, ◌++◌}
use Prim.Native.Nat.{ℕ, suc, ◌+◌, ◌-◌, ◌*◌, ◌<◌, ◌≤◌}
use native.Mathlib.Omega.{arith}
use lib.Dec.{ltb, eqb}
use lib.ListN.{length, get_or, set, take, drop, length-set, length-take, length-drop}
use lib.Seq.{get_or-set_same, get_or-set_other, set_out, get_or-take, get_or-drop, ext_get_or, sets}
use borrow.Author.Tests.{ltb-true, eqb-true, eqb-false}
use Rattle.notation.proofs.Upto.{split, below?}
use Rattle.machine.specs.Store.{Place, in_common, in_own, nowhere, place_of, part_of, word_in, private_with}
use Rattle.promises.specs.PrivateWords.{AgreeBut}
use Rattle.laws.proofs.Rows.{row_sets}

-- a word after a store, in two lists that had the same word there
same_set : (q q' : List ℕ) (i x k : ℕ) → length q ≡ length q' → get_or q k 0 ≡ get_or q' k 0 → get_or (set q i x) k 0 ≡ get_or (set q' i x) k 0
same_set q q' i x k l e =
    below? i (length q)
    (λ h. split (eqb k i)
    (λ t. rw (eqb-true k i t) (get_or-set_same q i x 0 h ∙ sym (get_or-set_same q' i x 0 (omega arith))))
    (λ t. get_or-set_other q i k x 0 (eqb-false k i t) ∙ e ∙ sym (get_or-set_other q' i k x 0 (eqb-false k i t))))
    (λ h. rw (set_out q i x h, set_out q' i x (omega arith)) e)

pub agree_set : {j : ℕ} {q q' : List ℕ} → AgreeBut j q q' → (i x : ℕ) → AgreeBut j (set q i x) (set q' i x)
agree_set {q = q} {q' = q'} a i x =
    record {
      long = length-set q i x ∙ a.long ∙ sym (length-set q' i x);
      below = λ k l. same_set q q' i x k a.long (a.below k l);
      above = λ k l. same_set q q' i x k a.long (a.above k l);
    }

agree_sets : {j : ℕ} {q q' : List ℕ} → AgreeBut j q q' → (i : ℕ) (xs : List ℕ) → AgreeBut j (sets q i xs) (sets q' i xs)
agree_sets a i [] = a
agree_sets a i (x ∷ xs) = agree_sets (agree_set a i x) (suc i) xs

-- words in a row from a place on, which all lie in the store
pub agree_row : {j : ℕ} {q q' : List ℕ} → AgreeBut j q q' → (i n : ℕ) (xs : List ℕ) → length xs ≡ n → i + n ≤ length q
    → AgreeBut j (take i q ++ (xs ++ drop (i + n) q)) (take i q' ++ (xs ++ drop (i + n) q'))
agree_row {q = q} {q' = q'} a i n xs e l =
    rw (row_sets q i n xs e l, row_sets q' i n xs e (omega (arith, a.long))) (agree_sets a i xs)

pub agree_with : {j : ℕ} {q q' : List ℕ} → AgreeBut j q q' → (p : Place) (i x : ℕ) → AgreeBut j (private_with p i x q) (private_with p i x q')
agree_with a (in_common k) i x = a
agree_with a (in_own k) i x = agree_set a (2048 * i + k) x
agree_with a nowhere i x = a

-- ---- a process i that is not j sees the same words
module _ {j : ℕ} {q q' : List ℕ} (agree : AgreeBut j q q') (i : ℕ) (other : j ≡ i → ⊥) where
  pub same_at : (k : ℕ) → k < 2048 → get_or q (2048 * i + k) 0 ≡ get_or q' (2048 * i + k) 0
  same_at k l = below? i j (λ h. agree.below (2048 * i + k) (omega arith)) (λ h. agree.above (2048 * i + k) (omega (arith, other)))

  pub same_part : part_of i q ≡ part_of i q'
  same_part =
      ext_get_or 0 (part_of i q) (part_of i q') (simp (length-take, length-drop, agree.long))
      (λ k l. let m : k < 2048 = omega (arith, length-take 2048 (drop (2048 * i) q)) in simp (get_or-take, get_or-drop) (same_at k m))

  pub same_word : (a : ℕ) (common : List ℕ) → word_in (place_of a) i common q ≡ word_in (place_of a) i common q'
  unfolding place_of
  same_word a common =
      split (ltb a 2048)
      (λ l. rw l)
      (λ l. split (ltb a 4096) (λ h. rw (l, h) (same_at (a - 2048) (omega (arith, ltb-true)))) (λ h. rw (l, h)))
