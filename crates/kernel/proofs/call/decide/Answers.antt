use borrow.Author.Rules.{rules}
use mathlib.Core.Logic.{inl, inr}
use Rattle.kernel.specs.Did.{able}
use Rattle.kernel.proofs.Records.{unfit, unfit_stores}
use Rattle.kernel.proofs.Door.{was_answered, decides_call, decides_unfit}
use Rattle.kernel.proofs.call.decide.Goals as goal

pub returns-in_default : goal.returns-in_default
returns-in_default c =
    decides_unfit _ _ _ _ _ _ _ c.unfit.ensures (unfit c.args.common.now c.args.private.now (able c.args.who) (inl (unfit_stores c.args.common.now c.args.private.now (inl c.in_default.ensures.cases))))

pub returns-in_default-as_mut_array : goal.returns-in_default-as_mut_array
returns-in_default-as_mut_array c =
    let common = c.in-Some.ensures.cases in
    rw common.same (decides_unfit _ _ _ _ _ _ _ c.unfit-in_default-as_mut_array.ensures (unfit c.args.common.now c.args.private.now (able c.args.who) (inl (unfit_stores c.args.common.now c.args.private.now (inr (common.long, c.in_default-as_mut_array.ensures.cases))))))

pub returns-in_default-fit : goal.returns-in_default-fit
returns-in_default-fit c =
    rw (c.in-Some.ensures.cases.same, c.in-Some-as_mut_array.ensures.cases.same) (decides_unfit _ _ _ _ _ _ _ c.unfit-in_default-fit.ensures (unfit c.args.common.now c.args.private.now (able c.args.who) (inr c.in_default-fit.ensures)))

pub returns : goal.returns
returns c =
    let a = c.args in
    let common = c.in-Some.ensures.cases in
    let private = c.in-Some-as_mut_array.ensures.cases in
    let fit = c.in-Some-fit.ensures in
    rw (was_answered a.who c.call_of.result c.unwrap_or_else.result (λ f p. search rules) c.unwrap_or_else.ensures) (decides_call a.who a.processes a.gates a.k _ a.common.now a.private.now common.long private.long fit.1 c.well_formed.1.0.1.0.1 (rw (common.same, private.same, fit.0) at c.call_of.ensures))
