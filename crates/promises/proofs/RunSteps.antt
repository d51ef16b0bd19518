-- A run, step by step: each is taken while the machine goes on
use mathlib.Core.Path.{◌≡◌, refl, ap, ◌∙◌}
use mathlib.Core.List.{List}
use Prim.Native.Nat.{ℕ, zero, suc, ◌+◌, ◌<◌, ◌≤◌}
use native.Mathlib.Omega.{arith}
use lib.ListN.{replicate}
use Rattle.notation.proofs.Upto.{below?}
use Rattle.machine.specs.State.{nobody, going}
use Rattle.machine.specs.Store.{World}
use Rattle.machine.specs.Step.{Ended, onward, idle, starting, stopped, Stepped, stepped, step}
use Rattle.machine.specs.Run.{run}
use Rattle.machine.specs.Offer.{did, a_step, offer, after_all}
use Rattle.promises.specs.RunSteps.{Steps, none, last, first, Ran, RunSteps, RunWorld}
use Rattle.promises.proofs.Laws.{idle-step}
use Rattle.kept.proofs.Stepping.{Able, step-moved, able_again, step-taken, run_took}

-- ---- a step before a run
module _ (code : List ℕ) (budget k : ℕ) (w u : World) (s : Stepped) (one : k ≡ 1) (o : offer code w a_step ≡ did (stepped u onward 1)) where
  longer : {e : Ended} {v : World} → Steps code s.count u e v → Steps code (k + s.count) w e v
  longer r = let z : k + s.count ≡ suc s.count = omega arith in rw z (first o r)

  before : (e : Ended) → Ran code budget u s e → Ran code (suc budget) w (stepped s.world s.ended (k + s.count)) e
  before onward r = (omega arith, longer r.1)
  before idle r = (omega arith, longer r.1, r.2)
  before (starting d) r = (omega arith, longer r.1)
  before stopped r = (omega arith, longer r.1)

-- ---- a run of a state that accepts it
module _ (code : List ℕ) where
  as_one : (s : Stepped) (e : Ended) → s.ended ≡ e → s.count ≡ 1 → s ≡ stepped s.world e 1
  as_one s e p c = rw (← p, ← c)

  taken : (w : World) (e : Ended) → Able code w → w.machine.stop ≡ going → w.machine.running < nobody → (step code w).ended ≡ e
      → offer code w a_step ≡ did (stepped (step code w).world e 1)
  unfolding offer
  taken w e able g runs p = step-taken code w able g ∙ ap did (as_one (step code w) e p (step-moved code w able runs).count)

  ends : (budget : ℕ) (w : World) (e : Ended) (s : Stepped) → s.count ≡ 1 → offer code w a_step ≡ did (stepped s.world e 1)
      → (s.count ≤ suc budget) × Steps code s.count w e s.world
  ends budget w e s c o = (omega arith, rw c (last o))

  abbrev RanAll : ℕ → World → Type 0
  RanAll budget w = Ran code budget w (run code budget w) (run code budget w).ended

  -- a run that ends with its first step
  starts-run : (budget : ℕ) (w : World) (d : ℕ) → (step code w).ended ≡ starting d → run code (suc budget) w ≡ step code w
  unfolding run
  starts-run budget w d p = rw p

  stops-run : (budget : ℕ) (w : World) → (step code w).ended ≡ stopped → run code (suc budget) w ≡ step code w
  unfolding run
  stops-run budget w p = rw p

  -- the first step ends as e, and the rest is known
  by_end : (budget : ℕ) (w : World) → Able code w → w.machine.stop ≡ going → w.machine.running < nobody
      → (e : Ended) → (step code w).ended ≡ e
      → ((step code w).world.machine.stop ≡ going → RanAll budget (step code w).world)
      → RanAll (suc budget) w
  unfolding run
  by_end budget w able g runs onward e rest =
      let k = step-moved code w able runs in
      let s : Stepped = run code budget (step code w).world in
      let o = taken w onward able g runs e in
      rw e (before code budget (step code w).count w (step code w).world s k.count o s.ended (rest (k.goes e ∙ g)))
  by_end budget w able g runs idle e rest = absurd ((step-moved code w able runs).busy e)
  by_end budget w able g runs (starting d) e rest =
      rw (starts-run budget w d e, e) (ends budget w (starting d) (step code w) (step-moved code w able runs).count (taken w (starting d) able g runs e))
  by_end budget w able g runs stopped e rest =
      rw (stops-run budget w e, e) (ends budget w stopped (step code w) (step-moved code w able runs).count (taken w stopped able g runs e))

  no_more : (budget : ℕ) (w : World) → Able code w → w.machine.stop ≡ going → nobody ≤ w.machine.running → RanAll (suc budget) w
  unfolding run offer
  no_more budget w able g l =
      rw (idle-step code w l) (omega arith, none, step-taken code w able g ∙ ap did (idle-step code w l))

  ran : (budget : ℕ) (w : World) → Able code w → w.machine.stop ≡ going → RanAll budget w
  unfolding run
  ran zero w able g = (refl, none)
  ran (suc budget) w able g =
      below? w.machine.running nobody
      (λ runs. by_end budget w able g runs _ refl (ran budget (step code w).world (able_again code w able runs)))
      (λ l. no_more budget w able g l)

pub run-steps : RunSteps
run-steps code budget w s shape e =
    let t = run_took code budget w s shape e in
    rw (← t.same) (ran code budget w t.able t.stop)

-- ---- the world after so many steps
steps-world : {code : List ℕ} {k : ℕ} {w v : World} {e : Ended} → Steps code k w e v → v ≡ after_all code w (replicate k a_step)
unfolding after_all
steps-world none = refl
steps-world (last o) = rw (after_all, o)
steps-world (first o r) = rw (after_all, o) (steps-world r)

ran-world : (code : List ℕ) (budget : ℕ) (w : World) (s : Stepped) (e : Ended) → Ran code budget w s e
    → (s.count ≤ budget) × (s.world ≡ after_all code w (replicate s.count a_step))
ran-world code budget w s onward r = (omega arith, steps-world r.1)
ran-world code budget w s idle r = (omega arith, steps-world r.1)
ran-world code budget w s (starting d) r = (r.0, steps-world r.1)
ran-world code budget w s stopped r = (r.0, steps-world r.1)

pub run-world : RunWorld
run-world code budget w s shape e = ran-world code budget w s s.ended (run-steps code budget w s shape e)
