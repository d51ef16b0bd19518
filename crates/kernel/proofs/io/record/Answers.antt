use mathlib.Core.Path.{◌≡◌, ◌∙◌, sym}
use mathlib.Core.Logic.{inl, inr}
use Prim.Native.Nat.{◌≤◌}
use native.Mathlib.Omega.{arith}
use borrow.Author.Rules.{rules}
use borrow.Author.Tests.{le-ltb}
use lib.Dec.{ltb}
use lib.ListN.{length}
use Rattle.machine.specs.State.{no_device}
use Rattle.kernel.proofs.Records.{fit-device, four, handed_common, handed_idle, handed_own, handed_unfit, unfit, unfit_stores}
use Rattle.kernel.proofs.io.record.Goals as goal

pub returns-then-common-ne-COMMON : goal.returns-then-common-ne-COMMON
returns-then-common-ne-COMMON c =
    let a = c.args in
    handed_unfit a.m a.common.now a.private.now a.d (unfit a.common.now a.private.now (ltb a.d 5) (inl (unfit_stores a.common.now a.private.now c.then-common-ne-COMMON.either)))

pub returns-in_default : goal.returns-in_default
returns-in_default c =
    let a = c.args in
    let long : length a.m.devices ≡ 5 = search rules in
    let past : 5 ≤ a.d = omega (arith, long, c.from.ensures, c.in_default.ensures.lookup.3) in
    handed_unfit a.m a.common.now a.private.now a.d (unfit a.common.now a.private.now (ltb a.d 5) (inr (le-ltb _ _ past)))

pub returns-then-not-is_held : goal.returns-then-not-is_held
returns-then-not-is_held c =
    let a = c.args in
    let long : length a.m.devices ≡ 5 = search rules in
    let found = c.in-Some.ensures.lookup.3 in
    let fits = fit-device a.common.now a.private.now a.d c.if-common-ne-COMMON.false c.if-private-ne-PRIVATE.false (omega (arith, long, c.from.ensures, found.0)) in
    handed_idle a.m a.common.now a.private.now a.d fits (rw (found.1 no_device, c.from.ensures) at (sym c.is_held.ensures ∙ c.if-not-is_held.true))

pub returns-then-x-lt-OWN : goal.returns-then-x-lt-OWN
returns-then-x-lt-OWN c =
    let a = c.args in
    let long : length a.m.devices ≡ 5 = search rules in
    let found = c.in-Some.ensures.lookup.3 in
    let fits = fit-device a.common.now a.private.now a.d c.if-common-ne-COMMON.false c.if-private-ne-PRIVATE.false (omega (arith, long, c.from.ensures, found.0)) in
    let held = rw (found.1 no_device, c.from.ensures) at (sym c.is_held.ensures ∙ c.if-not-is_held.false) in
    rw (four, c.from-a.ensures, found.1 no_device, c.from.ensures) (handed_common a.m a.common.now a.private.now a.d fits held (rw (found.1 no_device, c.from.ensures) at c.if-x-lt-OWN.true))

pub returns-else-x-lt-OWN : goal.returns-else-x-lt-OWN
returns-else-x-lt-OWN c =
    let a = c.args in
    let long : length a.m.devices ≡ 5 = search rules in
    let found = c.in-Some.ensures.lookup.3 in
    let fits = fit-device a.common.now a.private.now a.d c.if-common-ne-COMMON.false c.if-private-ne-PRIVATE.false (omega (arith, long, c.from.ensures, found.0)) in
    let held = rw (found.1 no_device, c.from.ensures) at (sym c.is_held.ensures ∙ c.if-not-is_held.false) in
    rw (four, c.own-s.ensures, found.1 no_device, c.from.ensures) (handed_own a.m a.common.now a.private.now a.d fits held (rw (found.1 no_device, c.from.ensures) at c.if-x-lt-OWN.false))
