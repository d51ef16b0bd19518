-- The process stays fit, and what is left to do gives the same end: an instruction of the burst is one turn of its definition.
use mathlib.Core.Path.{◌≡◌, sym, ◌∙◌}
use native.Mathlib.Omega.{arith}
use Rattle.engine.proofs.Turns.{high, near, saved, spent, fit_again, job-over, goes_on_lem, at-fault, at_call_lem}
use Rattle.engine.proofs.burst.go_on.Goals as goal

pub invariant_of-v : goal.invariant_of-v
invariant_of-v c =
    let (fit, small, rest) = c.loop-count.invariant in
    record {
      low = fit.ordered.low;
      floored = fit.ordered.stack;
      framed = fit.ordered.frame;
      topped = fit.ordered.ceiling;
      high = high _ fit small;
      near = near _ fit small;
      saved = saved _ fit small;
    }

pub returns-then-over : goal.returns-then-over
returns-then-over c = job-over _ _ _ _ c.instruct.ensures _ _ (omega arith) _ c.in-Ok.is (grind arith) ∙ sym c.loop-count.invariant.2

pub loop-count-preserved : goal.loop-count-preserved
loop-count-preserved c =
    let (fit, small, rest) = c.loop-count.invariant in
    (fit_again _ _ _ _ c.instruct.ensures _ fit c.in-Ok.is, small, rest ∙ goes_on_lem _ _ _ _ c.instruct.ensures _ _ (omega arith) _ c.in-Ok.is (grind arith))

pub returns-in-Err-Fault : goal.returns-in-Err-Fault
returns-in-Err-Fault c = at-fault _ _ _ _ c.instruct.ensures _ _ (omega arith) c.in-Err-Fault.f (grind arith) ∙ sym c.loop-count.invariant.2

pub returns-in-Err-Call : goal.returns-in-Err-Call
returns-in-Err-Call c = at_call_lem _ _ _ _ c.instruct.ensures _ _ (omega arith) c.in-Err-Call.k (grind arith) ∙ sym c.loop-count.invariant.2

pub returns : goal.returns
returns c = let e : c.loop-count.count ≡ c.args.budget = omega arith in rw e at (spent _ c.args.budget c.loop-count.count (omega arith) ∙ sym c.loop-count.invariant.2)
