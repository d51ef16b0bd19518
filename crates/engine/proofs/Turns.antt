-- A burst, turn by turn: the process stays fit, and what is left to do gives the same end
use mathlib.Core.Path.{◌≡◌, sym, ap, ◌∙◌}
use mathlib.Core.Bool.{true, false, and-false}
use mathlib.Core.List.{List}
use Prim.Native.Nat.{ℕ, suc, ◌+◌, ◌-◌, ◌<◌, ◌≤◌}
use native.Mathlib.Omega.{arith}
use lib.ListN.{length}
use Rattle.word.specs.declared.Fault.{Fault}
use Rattle.word.specs.Word.{number_of}
use Rattle.machine.specs.declared.Regs.{Regs}
use Rattle.machine.specs.View.{View, next, faults, calls, Effect, effect, n, faulted}
use Rattle.machine.specs.Instruction.{instruct}
use Rattle.machine.specs.Sound.{job_ok}
use Rattle.laws.specs.Marks.{Fit}
use Rattle.laws.proofs.Marks.{marks_kept, stores_kept}
use Rattle.laws.proofs.Faults.{stops_keep, calls_keep}
use Rattle.laws.proofs.Runs.{in_job_lem, job-high}
use Rattle.std.specs.Prelude.{Result, Ok, Err}
use Rattle.engine.specs.declared.sight.Stop.{Stop}
use Rattle.engine.specs.declared.sight.Stop.TheVariants.{Fault as Fails, Call as Calls}
use Rattle.engine.specs.Did.{did}
use Rattle.engine.specs.Burst.{at_budget, at_call, at_fault, at_jobs_end, bursted, moved, job_over, follows, after, goes_on, fit}
use Rattle.notation.proofs.Test.{part, at_most, equal}

-- what the tests of a burst's beginning tell
pub told : (v : View) → fit v ≡ true → Fit v × (n v ≤ 16256)
told v e =
    let r : Regs = v.regs in (
      record {
        ordered = record {
          low = at_most 2048 v.floor e (λ t. simp (t, and-false));
          stack = at_most v.floor r.s e (λ t. simp (t, and-false));
          frame = at_most r.s r.b e (λ t. simp (t, and-false));
          ceiling = at_most r.b r.c e (λ t. simp (t, and-false));
          address = at_most r.address (n v) e (λ t. simp (t, and-false));
          job = part (job_ok (n v) r) e (λ t. simp (t, and-false));
        };
        common = equal (length v.common) 2048 e (λ t. simp (t, and-false));
        own = equal (length v.own) 2048 e (λ t. simp (t, and-false));
      },
      at_most (n v) 16256 e (λ t. simp (t, and-false)),
    )

-- a fit process has its marks in order, and a job of it may end
module _ (v : View) (f : Fit v) (h : n v ≤ 16256) where
  pub high : v.regs.c ≤ 4096
  high = job-high (n v) v.regs f.ordered.job

  pub near : v.regs.address ≤ 16256
  near = omega (arith, f.ordered.address)

  pub saved : v.regs.in_job ≡ true → v.regs.saved_s ≤ 4096
  saved j = let job = in_job_lem (n v) v.regs f.ordered.job j in omega arith

-- the budget is spent
pub spent : (v : View) (budget count : ℕ) → budget ≤ count
    → bursted v.regs count at_budget v.common v.own ≡ goes_on count (budget - count) v
unfolding goes_on
spent v budget count h = let z : budget - count ≡ 0 = omega arith in rw z

-- ---- one instruction, which answers o and leaves the stores c and q
module _ (v : View) (o : Result Regs Stop) (c q : List ℕ) (did-it : did o c q ≡ instruct v) where
  answers : {x : Result Regs Stop} → o ≡ x → did x c q ≡ instruct v
  answers k = sym (ap (λ x. did x c q) k) ∙ did-it

  -- where the process goes on it is fit again
  pub fit_again : (r : Regs) → Fit v → o ≡ Ok r → Fit (moved v r c q)
  fit_again r f k =
      let e : effect (next r) c q ≡ instruct v = answers k in
      record {
        ordered = marks_kept v r f (ap (λ d. d.out) (sym e));
        common = ap (λ d. length d.common) e ∙ (stores_kept v f).0;
        own = ap (λ d. length d.own) e ∙ (stores_kept v f).1;
      }

  module _ (budget count : ℕ) (some_left : count < budget) where
    turn : (d : Effect) → d ≡ instruct v
        → goes_on count (budget - count) v
        ≡ follows d.out v d count (goes_on (count + 1) (budget - (count + 1)) (after d.out v d))
    unfolding goes_on
    turn d e = let s : budget - count ≡ suc (budget - (count + 1)) = omega arith in rw (s, e)

    pub job-over : (r : Regs) → o ≡ Ok r → job_over v.regs r ≡ true
        → bursted r (count + 1) at_jobs_end c q ≡ goes_on count (budget - count) v
    job-over r k j = sym (turn (effect (next r) c q) (answers k) ∙ rw j)

    pub goes_on_lem : (r : Regs) → o ≡ Ok r → job_over v.regs r ≡ false
        → goes_on count (budget - count) v ≡ goes_on (count + 1) (budget - (count + 1)) (moved v r c q)
    goes_on_lem r k j = turn (effect (next r) c q) (answers k) ∙ rw j

    -- a fault and a kernel call are left as they were found
    pub at-fault : (f : Fault) → o ≡ Err (Fails f) → bursted v.regs count (at_fault (number_of f)) c q ≡ goes_on count (budget - count) v
    at-fault f k =
        let e : effect (faults (number_of f)) c q ≡ instruct v = answers k in
        let same : effect (faults (number_of f)) c q ≡ faulted v (number_of f) = e ∙ stops_keep v (number_of f) (ap (λ d. d.out) (sym e)) in
        rw (ap (λ d. d.common) same, ap (λ d. d.own) same) (sym (turn (effect (faults (number_of f)) c q) e))

    pub at_call_lem : (j : ℕ) → o ≡ Err (Calls j) → bursted v.regs count (at_call j) c q ≡ goes_on count (budget - count) v
    at_call_lem j k =
        let e : effect (calls j) c q ≡ instruct v = answers k in
        let same : effect (calls j) c q ≡ effect (calls j) v.common v.own = e ∙ calls_keep v j (ap (λ d. d.out) (sym e)) in
        rw (ap (λ d. d.common) same, ap (λ d. d.own) same) (sym (turn (effect (calls j) c q) e))
