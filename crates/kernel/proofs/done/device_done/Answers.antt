use mathlib.Core.Path.{◌≡◌, ◌∙◌, sym}
use mathlib.Core.Logic.{inl, inr}
use Prim.Native.Nat.{◌≤◌}
use native.Mathlib.Omega.{arith}
use borrow.Author.Rules.{rules}
use borrow.Author.Tests.{le-ltb}
use lib.Dec.{ltb}
use lib.ListN.{length}
use Rattle.machine.specs.State.{no_device}
use Rattle.kernel.proofs.Records.{fit-device, held, unfit, unfit_stores, whole-high}
use Rattle.kernel.proofs.Door.{done_ends_lem, done_unable, done_unfit}
use Rattle.kernel.proofs.done.device_done.Goals as goal

pub returns-in_default : goal.returns-in_default
returns-in_default c =
    let a = c.args in done_unfit a.m a.d _ _ a.common.now a.private.now (unfit a.common.now a.private.now (ltb a.d 5) (inl (unfit_stores a.common.now a.private.now (inl c.in_default.ensures.cases))))

pub returns-in_default-as_mut_array : goal.returns-in_default-as_mut_array
returns-in_default-as_mut_array c =
    let a = c.args in
    let common = c.in-Some.ensures.cases in
    rw common.same (done_unfit a.m a.d _ _ a.common.now a.private.now (unfit a.common.now a.private.now (ltb a.d 5) (inl (unfit_stores a.common.now a.private.now (inr (common.long, c.in_default-as_mut_array.ensures.cases))))))

pub returns-in_default-get : goal.returns-in_default-get
returns-in_default-get c =
    let a = c.args in
    let long : length a.m.devices ≡ 5 = search rules in
    let past : 5 ≤ a.d = omega (arith, long, c.from.ensures, c.in_default-get.ensures.lookup.3) in
    let common = c.in-Some.ensures.cases in
    let private = c.in-Some-as_mut_array.ensures.cases in
    rw (common.same, private.same) (done_unfit a.m a.d _ _ a.common.now a.private.now (unfit a.common.now a.private.now (ltb a.d 5) (inr (le-ltb _ _ past))))

pub returns-then-not-is_held : goal.returns-then-not-is_held
returns-then-not-is_held c =
    let a = c.args in
    let common = c.in-Some.ensures.cases in
    let private = c.in-Some-as_mut_array.ensures.cases in
    let long : length a.m.devices ≡ 5 = search rules in
    let found = c.in-Some-get.ensures.lookup.3 in
    let fits = fit-device a.common.now a.private.now a.d common.long private.long (omega (arith, long, c.from.ensures, found.0)) in
    rw (common.same, private.same) (done_unable a.m a.d _ _ a.common.now a.private.now fits (rw (found.1 no_device, c.from.ensures) at (sym c.is_held.ensures ∙ c.if-not-is_held.true)))

pub write_record-requires : goal.write_record-requires
write_record-requires c =
    let h = held c.in-Some-get.field-0.now (sym c.is_held.ensures ∙ c.if-not-is_held.false) in (h.1, whole-high _ h.0)

pub returns : goal.returns
returns c =
    let a = c.args in
    let common = c.in-Some.ensures.cases in
    let private = c.in-Some-as_mut_array.ensures.cases in
    let long : length a.m.devices ≡ 5 = search rules in
    let found = c.in-Some-get.ensures.lookup.3 in
    let fits = fit-device a.common.now a.private.now a.d common.long private.long (omega (arith, long, c.from.ensures, found.0)) in
    let busy = rw (found.1 no_device, c.from.ensures) at (sym c.is_held.ensures ∙ c.if-not-is_held.false) in
    rw (c.select.ensures, c.device_end.ensures) (done_ends_lem a.m a.d _ _ a.common.now a.private.now _ _ fits busy (rw (common.same, private.same) at (c.write_record.ensures a.m a.d (rw (found.1 no_device, c.from.ensures)))))
