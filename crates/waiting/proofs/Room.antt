-- How many selections are left for one who stands at k, from 0, where the count is n: one selection takes one away
use mathlib.Core.Path.{◌≡◌}
use mathlib.Core.Bool.{◌&&◌}
use Prim.Native.Nat.{ℕ, suc, ◌+◌, ◌-◌, ◌*◌, ◌<◌, ◌≤◌}
use native.Mathlib.Omega.{arith}
use lib.Dec.{ltb, leb, eqb}
use borrow.Author.Tests.{leb-true, leb-false, lt-ltb, ne_eqb}
use Rattle.notation.proofs.Upto.{split, both}
use Rattle.machine.specs.declared.Machine.{Machine}
use Rattle.machine.specs.State.{ready}
use Rattle.machine.specs.Classes.{some_ready, best, due, source, count_from}
use Rattle.waiting.proofs.Ready.{line, Tidy}

-- what has to hold of the selections left in class c: there is one; a selection from class c brings the others one nearer;
-- one from another class leaves them where they are
pub record Rule (c : ℕ) (Room : ℕ → ℕ → ℕ → Type 0) : Type 0 where
  pub some : (u : Machine) (k r : ℕ) → Tidy (line u) → Room k u.count r → 0 < r
  pub nearer : (u : Machine) (k r : ℕ) → Tidy (line u) → source u ≡ c → Room (suc k) u.count r → Room k (count_from u c) (r - 1)
  pub passed : (u : Machine) (k r : ℕ) → Tidy (line u) → (source u ≡ c → ⊥) → 0 < (ready u c).len → Room k u.count r
      → Room k (count_from u (source u)) (r - 1)

-- ---- class 2: each selection raises the count, or comes from class 2, after 8 others at most
abbrev pub Room2 : ℕ → ℕ → ℕ → Type 0
Room2 k n r = 9 * k + 9 ≤ r + n

not_due : (u : Machine) → (source u ≡ 2 → ⊥) → 0 < (ready u 2).len → u.count < 8
unfolding source due
not_due u n l =
    split (leb 8 u.count)
    (λ t. absurd (n (rw (t, lt-ltb 0 (ready u 2).len l))))
    (λ t. leb-false 8 u.count t)

counts_one : (u : Machine) → (source u ≡ 2 → ⊥) → 0 < (ready u 2).len → count_from u (source u) ≡ u.count + 1
unfolding count_from
counts_one u n l =
    rw (ne_eqb (source u) 2 n, lt-ltb 0 (ready u 2).len l, lt-ltb u.count 8 (not_due u n l))

pub rule2 : Rule 2 Room2
unfolding count_from
rule2 =
    record {
      some = λ u k r t m. omega (arith, t.low);
      nearer = λ u k r t e m. omega (arith, t.low);
      passed = λ u k r t n l m. omega (arith, counts_one u n l, not_due u n l);
    }

-- ---- class 0: each selection comes from class 0 and counts 1 at most, or comes after 8 and makes the count 0
abbrev pub Room0 : ℕ → ℕ → ℕ → Type 0
Room0 k n r = 9 * k + n < 8 * r

counts_most : (u : Machine) (c : ℕ) → count_from u c ≤ u.count + 1
unfolding count_from
counts_most u c =
    split (eqb c 2) (λ t. rw t (omega arith))
    (λ t. split (some_ready u 2)
    (λ s. split (ltb u.count 8) (λ p. rw (t, s, p) (omega arith)) (λ p. rw (t, s, p) (omega arith)))
    (λ s. rw (t, s) (omega arith)))

is_due : (u : Machine) → (source u ≡ 0 → ⊥) → 0 < (ready u 0).len → (source u ≡ 2) × (8 ≤ u.count)
unfolding source due best
is_due u n l =
    split (leb 8 u.count && some_ready u 2)
    (λ t. (rw t, leb-true 8 u.count (both (leb 8 u.count) (some_ready u 2) t).0))
    (λ t. absurd (n (rw (t, lt-ltb 0 (ready u 0).len l))))

pub rule0 : Rule 0 Room0
unfolding count_from
rule0 =
    record {
      some = λ u k r t m. omega arith;
      nearer = λ u k r t e m. omega (arith, counts_most u 0);
      passed = λ u k r t n l m. let d = is_due u n l in rw d.0 (omega (arith, d.1));
    }
