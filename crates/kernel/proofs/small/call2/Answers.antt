use mathlib.Core.Path.{refl}
use native.Mathlib.Omega.{arith}
use Rattle.machine.specs.Call.{call2}
use Rattle.kernel.proofs.Laws.{enough, stops_at, too_few, word_is}
use Rattle.kernel.proofs.small.call2.Goals as goal

pub returns-in_err-number : goal.returns-in_err-number
unfolding call2
returns-in_err-number c =
    λ m t k. too_few t 1 _ c.from_residual.result c.from_residual.ensures.1 c.in_err-number.ensures

pub returns : goal.returns
unfolding call2
returns c =
    λ m t k. let h = c.in_ok-number.ensures in
    rw (enough t 1 h.there, ← word_is t k h 0 (omega arith), ← c.asked.ensures) (stops_at t c.asked.result refl)
