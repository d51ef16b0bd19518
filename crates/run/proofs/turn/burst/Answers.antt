use mathlib.Core.Path.{refl, sym}
use Rattle.run.proofs.Ends as L
use Rattle.run.proofs.turn.burst.Goals as goal

pub returns : goal.returns
returns c = L.burst_put c.args.code.now c.from-i.result _ c.args.quota c.args.common.now c.args.private.now _ _ _ c.run_burst.ensures c.args.m.now (sym c.from-i.ensures) refl
