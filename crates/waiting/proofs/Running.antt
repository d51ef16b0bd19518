-- Who is ready keeps his place until a selection from his class moves him up, and runs within the selections left
use mathlib.Core.Path.{◌≡◌, refl, sym, ap, ◌∙◌}
use mathlib.Core.Bool.{true, false}
use mathlib.Core.List.{List, [], ◌∷◌}
use mathlib.Core.Logic.{⊎_elim}
use Prim.Native.Nat.{ℕ, zero, suc, ◌+◌, ◌-◌, ◌<◌, ◌≤◌}
use native.Mathlib.Omega.{arith}
use lib.Dec.{eqb}
use borrow.Author.Tests.{eqb-true, eqb-false}
use Rattle.notation.proofs.Upto.{split, never}
use Rattle.word.specs.Word.{bit}
use Rattle.machine.specs.declared.Machine.{Machine}
use Rattle.machine.specs.State.{ready}
use Rattle.machine.specs.Store.{World}
use Rattle.machine.specs.Classes.{source, count_from}
use Rattle.machine.specs.Offer.{Offer, offer, after, after_all}
use Rattle.waiting.specs.Count.{count_in}
use Rattle.waiting.specs.Selection.{selects_at, selects_from}
use Rattle.waiting.specs.Waiting.{selections_in, selections_from, RunsWithin}
use Rattle.waiting.proofs.Places.{Stands}
use Rattle.waiting.proofs.Ready.{line, Tidy}
use Rattle.waiting.proofs.Taken.{Selected, turn, selection-runs, selection_moves, selection_keeps, selection_tidy, selection-count}
use Rattle.waiting.proofs.Room.{Rule}

module _ (code : List ℕ) where
  abbrev then : World → Offer → World
  then w x = after w (offer code w x)

  next_tidy : (w : World) (x : Offer) → Tidy (line w.machine) → Tidy (line (then w x).machine)
  next_tidy w x t = ⊎_elim (λ a. a.grown.tidy t) (λ a. rw a.is (selection_tidy a.from (a.grown.tidy t))) (turn w code x)

  pub later_tidy : (w : World) (xs : List Offer) → Tidy (line w.machine) → Tidy (line (after_all code w xs).machine)
  unfolding after_all
  later_tidy w [] t = t
  later_tidy w (x ∷ xs) t = later_tidy (then w x) xs (next_tidy w x t)

  module _ (c : ℕ) (small : c < 3) where
    -- ---- an offer moves nobody of class c, moves them up, or lets the first run
    module _ (w : World) (x : Offer) (t : Tidy (line w.machine)) where
      stays : (k i : ℕ) → selects_from code c w x ≡ false → Stands (ready w.machine c) k i → Stands (ready (then w x).machine c) k i
      stays k i u s =
          ⊎_elim
          (λ a. a.grown.keeps t c k i small s)
          (λ a.
          let n = eqb-false (source a.from) c (sym (a.there c) ∙ u) in
          rw a.is (selection_keeps a.from (a.grown.tidy t) c small k i n (a.grown.keeps t c k i small s)))
          (turn w code x)

      moves : (k i : ℕ) → selects_from code c w x ≡ true → Stands (ready w.machine c) (suc k) i → Stands (ready (then w x).machine c) k i
      moves k i u s =
          ⊎_elim
          (λ a. never (sym u ∙ a.nowhere c))
          (λ a.
          let e = eqb-true (source a.from) c (sym (a.there c) ∙ u) in
          rw a.is (selection_moves a.from (a.grown.tidy t) c small k i e (a.grown.keeps t c (suc k) i small s)))
          (turn w code x)

      pub runs : (i : ℕ) → selects_from code c w x ≡ true → Stands (ready w.machine c) 0 i → (then w x).machine.running ≡ i
      runs i u s =
          ⊎_elim
          (λ a. never (sym u ∙ a.nowhere c))
          (λ a.
          let e = eqb-true (source a.from) c (sym (a.there c) ∙ u) in
          rw a.is (selection-runs a.from c i e (a.grown.keeps t c 0 i small s)))
          (turn w code x)

    -- who stands at n + k, from 0, stands at k after n selections from class c
    pub moves_up : (w : World) (xs : List Offer) (n k i : ℕ) → Tidy (line w.machine) → selections_from code c w xs ≡ n
        → Stands (ready w.machine c) (n + k) i → Stands (ready (after_all code w xs).machine c) k i
    unfolding count_in after_all
    moves_up w [] n k i t e s = let p : n + k ≡ k = omega arith in rw p at s
    moves_up w (x ∷ xs) n k i t e s =
        let v : World = then w x in
        let r : ℕ = selections_from code c v xs in
        split (selects_from code c w x)
        (λ u.
        let d : 1 + r ≡ n = rw u at e in
        let p : n + k ≡ suc (r + k) = omega arith in
        moves_up v xs r k i (next_tidy w x t) refl (moves w x t (r + k) i u (rw p at s)))
        (λ u.
        let d : 0 + r ≡ n = rw u at e in
        let p : n + k ≡ r + k = omega arith in
        moves_up v xs r k i (next_tidy w x t) refl (stays w x t (r + k) i u (rw p at s)))

    -- ---- within the selections left
    module _ (i : ℕ) (Room : ℕ → ℕ → ℕ → Type 0) (rule : Rule c Room) where
      -- one more offer before
      later : (w : World) (x : Offer) (xs : List Offer) (k r k' r' : ℕ) → bit (selects_from code c w x) + k ≡ k' → bit (selects_at code w x) + r ≤ r'
          → RunsWithin code (then w x) c k r i xs → RunsWithin code w c k' r' i (x ∷ xs)
      unfolding count_in after_all
      later w x xs k r k' r' e l z =
          record {
            ys = x ∷ z.ys;
            zs = z.zs;
            whole = ap (λ (l : List Offer). x ∷ l) z.whole;
            runs = z.runs;
            kth = omega (arith, z.kth);
            soon = omega (arith, z.soon);
          }

      at_once : (w : World) (x : Offer) (xs : List Offer) (r : ℕ) → (then w x).machine.running ≡ i → bit (selects_from code c w x) ≡ 1 → bit (selects_at code w x) ≤ r
          → RunsWithin code w c 1 r i (x ∷ xs)
      unfolding count_in after_all
      at_once w x xs r e f l =
          record { ys = x ∷ []; zs = xs; whole = refl; runs = e; kth = omega arith; soon = omega arith }

      -- a selection, and what follows it
      module _ (w : World) (x : Offer) (xs : List Offer) (t : Tidy (line w.machine))
          (a : Selected w.machine (then w x).machine (selects_at code w x) (λ c. selects_from code c w x))
          (on : (k r : ℕ) → Stands (ready (then w x).machine c) k i → Room k (then w x).machine.count r → r ≤ selections_in code (then w x) xs
          → RunsWithin code (then w x) c (suc k) r i xs) where
        tidy : Tidy (line a.from)
        tidy = a.grown.tidy t

        one : bit (selects_at code w x) ≡ 1
        one = rw a.some

        count : (then w x).machine.count ≡ count_from a.from (source a.from)
        count = ap (λ (m : Machine). m.count) a.is ∙ selection-count a.from

        -- from another class
        past : (k r : ℕ) → eqb (source a.from) c ≡ false → Stands (ready w.machine c) k i → Room k w.machine.count r
            → r ≤ selections_in code w (x ∷ xs) → RunsWithin code w c (suc k) r i (x ∷ xs)
        unfolding count_in
        past k r b s m l =
            let z = a.there c ∙ b in
            let zero' : bit (selects_from code c w x) ≡ 0 = rw z in
            let some : 0 < (ready a.from c).len = omega (arith, (a.grown.keeps t c k i small s).within) in
            let p = rule.passed a.from k r tidy (eqb-false (source a.from) c b) some (rw a.grown.count m) in
            later w x xs (suc k) (r - 1) (suc k) r (omega arith) (omega (arith, one, rule.some w.machine k r t m))
            (on k (r - 1) (stays w x t k i z s) (rw count p) (omega (arith, one)))

        within : (k r : ℕ) → Stands (ready w.machine c) k i → Room k w.machine.count r → r ≤ selections_in code w (x ∷ xs)
            → RunsWithin code w c (suc k) r i (x ∷ xs)
        unfolding count_in
        within zero r s m l =
            split (eqb (source a.from) c)
            (λ b.
            let z = a.there c ∙ b in
            let one' : bit (selects_from code c w x) ≡ 1 = rw z in
            at_once w x xs r (runs w x t i z s) one' (omega (arith, one, rule.some w.machine 0 r t m)))
            (λ b. past 0 r b s m l)
        within (suc k) r s m l =
            split (eqb (source a.from) c)
            (λ b.
            let z = a.there c ∙ b in
            let one' : bit (selects_from code c w x) ≡ 1 = rw z in
            let e = eqb-true (source a.from) c b in
            let p = rule.nearer a.from k r tidy e (rw a.grown.count m) in
            later w x xs (suc k) (r - 1) (suc (suc k)) r (omega arith) (omega (arith, one, rule.some w.machine (suc k) r t m))
            (on k (r - 1) (moves w x t k i z s) (rw (count, e) p) (omega (arith, one))))
            (λ b. past (suc k) r b s m l)

      pub in_time : (w : World) (xs : List Offer) (k r : ℕ) → Tidy (line w.machine) → Stands (ready w.machine c) k i → Room k w.machine.count r
          → r ≤ selections_in code w xs → RunsWithin code w c (suc k) r i xs
      unfolding count_in
      in_time w [] k r t s m l = absurd (omega (arith, rule.some w.machine k r t m))
      in_time w (x ∷ xs) k r t s m l =
          let v : World = then w x in
          let t' = next_tidy w x t in
          let on = in_time v xs in
          ⊎_elim
          (λ a.
          let b : bit (selects_at code w x) ≡ 0 = rw a.none in
          let f : bit (selects_from code c w x) ≡ 0 = rw (a.nowhere c) in
          let m' : Room k v.machine.count r = rw a.grown.count m in
          later w x xs (suc k) r (suc k) r (omega arith) (omega arith)
          (on k r t' (stays w x t k i (a.nowhere c) s) m' (omega arith)))
          (λ a. within w x xs t a (λ k r s m l. on k r t' s m l) k r s m l)
          (turn w code x)
