-- Rows whose numbers rise: none fails, or one is the first that does
use mathlib.Core.Path.{◌≡◌, refl, sym, ◌∙◌}
use mathlib.Core.Bool.{Bool, true, false}
use mathlib.Core.List.{List, [], ◌∷◌}
use mathlib.Core.Logic.{◌↔◌}
use Prim.Native.Nat.{ℕ, ◌<◌, ◌≤◌}
use native.Mathlib.Omega.{arith}
use lib.Dec.{ltb, eqb}
use borrow.Author.Tests.{ltb-true, eqb-true, eq-eqb, ne_eqb}
use Rattle.notation.proofs.Upto.{split, never, both, below?}
use Rattle.image.specs.Refusal.{Reply, taken, refused}
use Rattle.exact.specs.Rows.{Row, fails, names, FirstToFail, RefusedBy, NoneFails, rise, reply, FirstRefuses}

data Comes (rows : List Row) : Reply → Type 0 where
  through : NoneFails rows → Comes rows (taken [])
  ends_at : (k : ℕ) (vs : List ℕ) → FirstToFail (fails rows) k → vs ≡ names rows k → Comes rows (refused k vs)

-- no row up to n is among those that rise from n on
below_all : (n j : ℕ) (rs : List Row) → rise n rs ≡ true → j ≤ n → fails rs j ≡ false
below_all n j [] u l = refl
below_all n j (r ∷ rs) u l =
    let (a, b) = both (ltb n r.number) (rise r.number rs) u in
    let m : n < r.number = ltb-true n r.number a in
    rw (ne_eqb j r.number (λ e. omega arith)) (below_all r.number j rs b (omega arith))

module _ (n : ℕ) (vs : List ℕ) (rs : List Row) (u : rise n rs ≡ true) where
  abbrev with : Bool → List Row
  with b = record { number = n; fails = b; names = vs } ∷ rs

  -- a row that passes says nothing
  passes : (k : ℕ) → fails (with false) k ≡ fails rs k
  passes k =
      split (eqb k n)
      (λ e. let z : k ≡ n = eqb-true k n e in rw e (sym (below_all n k rs u (omega arith))))
      (λ e. rw e)

  over : {x : Reply} → Comes rs x → Comes (with false) x
  over (through f) = through (λ k. passes k ∙ f k)
  over (ends_at k ws f e) =
      let other : k ≡ n → ⊥ = λ z. never (sym f.this ∙ below_all n k rs u (omega arith)) in
      ends_at k ws (record { this = passes k ∙ f.this; earlier = λ j l. passes j ∙ f.earlier j l }) (rw (ne_eqb k n other) e)

  in_front : (b : Bool) → Comes rs (reply rs) → Comes (with b) (reply (with b))
  in_front true c =
      ends_at n vs
      (record {
        this = rw (eq-eqb n n refl);
        earlier = λ j l. rw (ne_eqb j n (λ e. omega arith)) (below_all n j rs u (omega arith));
      })
      (rw (eq-eqb n n refl))
  in_front false c = over c

comes : (n : ℕ) (rows : List Row) → rise n rows ≡ true → Comes rows (reply rows)
comes n [] u = through (λ k. refl)
comes n (r ∷ rs) u =
    let (a, b) = both (ltb n r.number) (rise r.number rs) u in
    in_front r.number r.names rs b r.fails (comes r.number rs b)

-- two that are first are the same
one-first : (rows : ℕ → Bool) (j k : ℕ) → FirstToFail rows j → FirstToFail rows k → j ≡ k
one-first rows j k f g =
    below? j k
    (λ l. never (sym f.this ∙ g.earlier j l))
    (λ l. below? k j (λ m. never (sym g.this ∙ f.earlier k m)) (λ m. omega arith))

by_first : (rows : List Row) {x : Reply} → Comes rows x
    → ((k : ℕ) (vs : List ℕ) → (x ≡ refused k vs) ↔ RefusedBy rows k vs)
    × ((x ≡ taken []) ↔ NoneFails rows)
by_first rows (through f) =
    (λ k vs. (λ e. (record { this = cc; earlier = λ j l. cc }, cc), λ (g, e). never (sym g.this ∙ f k)), (λ e. f, λ g. refl))
by_first rows (ends_at j ws f y) =
    (λ k vs. (λ e. let z : j ≡ k = cc in let v : vs ≡ names rows j = cc in rw (← z) (f, v), λ (g, e). let z : j ≡ k = one-first (fails rows) j k f g in rw (y, z, e)), (λ e k. cc, λ g. never (sym f.this ∙ g j)))

pub first-refuses : FirstRefuses
first-refuses rows u = by_first rows (comes 0 rows u)
