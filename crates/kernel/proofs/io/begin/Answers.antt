use mathlib.Core.Path.{◌∙◌, ap, sym}
use Prim.Native.Nat.{◌+◌}
use Rattle.kernel.specs.declared.answer.Act.TheVariants.{Go, Start, WaitBell}
use Rattle.kernel.specs.Did.{outcome, world}
use Rattle.kernel.proofs.Laws.{goes_at}
use Rattle.kernel.proofs.Records.{begins_bell, begins_device, begins_refused}
use Rattle.kernel.proofs.io.begin.Goals as goal

pub returns-then-is_for_bell : goal.returns-then-is_for_bell
returns-then-is_for_bell c =
    λ m t.
    let a = c.args in
    let e = begins_bell m a.common.now a.private.now a.who.caller a.d a.operation a.a t.caller (rw t.caller at c.requires.4) (sym (c.is_for_bell.ensures m (rw t.caller)) ∙ c.if-is_for_bell.true) in
    rw (c.goes.ensures, c.store.ensures.0, c.store.ensures.1) (goes_at t _ _ (a.who.caller.process.regs.s + 2) WaitBell ∙ ap (outcome (world m a.common.now a.private.now)) e)

pub returns-then-is_refused : goal.returns-then-is_refused
returns-then-is_refused c =
    λ m t.
    let a = c.args in
    let e = begins_refused m a.common.now a.private.now a.who.caller a.d a.operation a.a t.caller (rw t.caller at c.requires.4) (sym (c.is_for_bell.ensures m (rw t.caller)) ∙ c.if-is_for_bell.false) (sym (c.is_refused.ensures m (rw t.caller) (rw t.caller)) ∙ c.if-is_refused.true) in
    rw (c.goes-then-is_refused.ensures, c.store-then-is_refused.ensures.0, c.store-then-is_refused.ensures.1) (goes_at t _ _ (a.who.caller.process.regs.s + 2) Go ∙ ap (outcome (world m a.common.now a.private.now)) e)

pub returns : goal.returns
returns c =
    λ m t.
    let a = c.args in
    let e = begins_device m a.common.now a.private.now a.who.caller a.d a.operation a.a t.caller (rw t.caller at c.requires.4) (sym (c.is_for_bell.ensures m (rw t.caller)) ∙ c.if-is_for_bell.false) (sym (c.is_refused.ensures m (rw t.caller) (rw t.caller)) ∙ c.if-is_refused.false) in
    rw (c.goes-2.ensures, c.store-2.ensures.0, c.store-2.ensures.1) (goes_at t _ _ (a.who.caller.process.regs.s + 2) (Start a.d a.operation a.a) ∙ ap (outcome (world m a.common.now a.private.now)) e)
