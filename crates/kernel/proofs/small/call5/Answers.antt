use mathlib.Core.Path.{refl, ◌∙◌}
use Prim.Native.Nat.{◌+◌}
use lib.ListN.{get_or}
use native.Mathlib.Omega.{arith}
use Rattle.kernel.specs.declared.answer.Act.TheVariants.{StopJob}
use Rattle.machine.specs.Call.{call5}
use Rattle.kernel.proofs.Laws.{enough, goes_at, push_stopped, too_few, word_is}
use Rattle.kernel.proofs.small.call5.Goals as goal

pub returns-in_err-reason : goal.returns-in_err-reason
unfolding call5
returns-in_err-reason c =
    λ m t p k. too_few t 2 _ c.from_residual.result c.from_residual.ensures.1 c.in_err-reason.ensures

pub returns : goal.returns
unfolding call5
returns c =
    λ m t p k. let h = c.in_ok-reason.ensures in
    let s = c.args.who.caller.process.regs.s + 1 in
    let l = c.in_ok-reason.field-0 in
    rw (c.goes.ensures, c.own.ensures, c.stop_answer.ensures m p (rw t.caller)) (goes_at t k _ s (StopJob (get_or l 1 0) (get_or l 0 0)) ∙ push_stopped t k c.args.private.now _ s _ (get_or l 1 0) (get_or l 0 0) refl ∙ rw (enough t 2 h.there, ← word_is t k h 0 (omega arith), ← word_is t k h 1 (omega arith), t.caller))
