-- The test is the definition's, and it tells what the loop requires; the two stores are lent as they are.
use mathlib.Core.Path.{refl, sym, ◌∙◌}
use borrow.Author.Tests.{not-true}
use Rattle.machine.specs.View.{View}
use Rattle.engine.specs.Did.{seen}
use Rattle.engine.specs.Burst.{bursts}
use Rattle.engine.proofs.Turns.{told, high, near, saved}
use Rattle.engine.proofs.burst.run_burst.Goals as goal

pub returns-then-not-is_fit : goal.returns-then-not-is_fit
unfolding bursts
returns-then-not-is_fit c = rw (sym (c.is_fit.ensures c.args.holding c.args.common.now c.args.own.now refl refl) ∙ not-true _ c.if-not-is_fit.true-raw)

pub unwrap-common-requires : goal.unwrap-common-requires
unwrap-common-requires c =
    let v : View = seen c.args.code.now c.args.floor c.args.holding c.args.r c.args.common.now c.args.own.now in
    c.as_mut_array.ensures.variant.1 (told v (sym (c.is_fit.ensures v.holding v.common v.own refl refl) ∙ c.if-not-is_fit.false)).0.common

pub unwrap-own-requires : goal.unwrap-own-requires
unwrap-own-requires c =
    let v : View = seen c.args.code.now c.args.floor c.args.holding c.args.r c.args.common.now c.args.own.now in
    c.as_mut_array-2.ensures.variant.1 (told v (sym (c.is_fit.ensures v.holding v.common v.own refl refl) ∙ c.if-not-is_fit.false)).0.own

pub invariant_of-v : goal.invariant_of-v
invariant_of-v c =
    let w : View = seen c.args.code.now c.args.floor c.args.holding c.args.r c.args.common.now c.args.own.now in
    let (fit, small) = told w (sym (c.is_fit.ensures w.holding w.common w.own refl refl) ∙ c.if-not-is_fit.false) in
    record {
      low = fit.ordered.low;
      floored = fit.ordered.stack;
      framed = fit.ordered.frame;
      topped = fit.ordered.ceiling;
      high = high _ fit small;
      near = near _ fit small;
      saved = saved _ fit small;
    }

pub go_on-requires : goal.go_on-requires
go_on-requires c =
    let v : View = seen c.args.code.now c.args.floor c.args.holding c.args.r c.args.common.now c.args.own.now in
    let common = rw c.unwrap-common.ensures at c.as_mut_array.ensures.cases in
    let own = rw c.unwrap-own.ensures at c.as_mut_array-2.ensures.cases in
    rw (common.same, own.same) (told v (sym (c.is_fit.ensures v.holding v.common v.own refl refl) ∙ c.if-not-is_fit.false))

pub returns : goal.returns
unfolding bursts
returns c =
    let common = rw c.unwrap-common.ensures at c.as_mut_array.ensures.cases in
    let own = rw c.unwrap-own.ensures at c.as_mut_array-2.ensures.cases in
    rw (sym (c.is_fit.ensures c.args.holding c.args.common.now c.args.own.now refl refl) ∙ c.if-not-is_fit.false) (rw (common.same, own.same) at c.go_on.ensures)
