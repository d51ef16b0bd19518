-- A place in a queue: kept when one more joins, one nearer when the first goes
use mathlib.Core.Path.{◌≡◌, ◌∙◌}
use Prim.Native.Nat.{ℕ, suc, ◌-◌, ◌<◌, ◌≤◌}
use native.Mathlib.Omega.{arith}
use lib.Dec.{ltb}
use lib.ListN.{get_or}
use lib.Seq.{get_or-set_other}
use Rattle.notation.proofs.Upto.{split}
use Rattle.machine.specs.declared.Queue.{Queue}
use Rattle.machine.specs.Queue.{pushed, rest}
use Rattle.kept.proofs.Counts.{shifted_at}
use Rattle.waiting.specs.Waiting.{InPlace}

-- i stands in place k, counted from 0
pub record Stands (q : Queue) (k i : ℕ) : Type 0 where
  pub within : k < q.len
  pub there : get_or q.at k 0 ≡ i

pub stands_of : {q : Queue} {k i : ℕ} → InPlace q k i → Stands q (k - 1) i
stands_of p = record { within = omega (arith, p.first, p.last); there = p.there }

pub place_of : {q : Queue} {i : ℕ} (k n : ℕ) → 1 ≤ k → k - 1 ≡ n → Stands q n i → InPlace q k i
place_of k n b e s = record { first = b; last = omega (arith, s.within); there = rw e s.there }

pub stands-pushed : (q : Queue) (x k i : ℕ) → Stands q k i → Stands (pushed q x) k i
unfolding pushed
stands-pushed q x k i s =
    split (ltb q.len 10)
    (λ t. rw t
    (record {
      within = omega (arith, s.within);
      there = get_or-set_other q.at q.len k x 0 (λ e. omega (arith, s.within)) ∙ s.there;
    }))
    (λ t. rw t s)

pub stands-rest : {q : Queue} {k i : ℕ} → q.len ≤ 10 → Stands q (suc k) i → Stands (rest q) k i
unfolding rest
stands-rest {q} {k} few s =
    record {
      within = omega (arith, s.within);
      there = shifted_at q.at k (omega (arith, s.within)) ∙ s.there;
    }
