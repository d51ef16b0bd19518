use native.Mathlib.Omega.{arith}
use Rattle.run.proofs.Ends as L
use Rattle.run.proofs.turn.turn.Goals as goal

pub burst-x-requires : goal.burst-x-requires
burst-x-requires c =
    let a = c.args in
    L.fit_burst a.code.now a.m.now a.common.now a.private.now a.budget c.requires.accepted c.requires.runs c.requires.some

pub total-requires : goal.total-requires
total-requires c =
    let a = c.args in
    L.countable_end a.code.now a.m.now a.common.now a.private.now a.budget c.requires.accepted c.requires.runs c.requires.some _ c.quota_of.ensures _ _ _ c.burst-x.ensures (omega (arith, c.ranges.budget))

pub returns : goal.returns
returns c =
    let a = c.args in
    rw c.total.ensures (L.turned_on a.code.now a.m.now a.common.now a.private.now a.budget c.requires.accepted c.requires.runs c.requires.some _ c.quota_of.ensures c.burst-x.result _ _ c.burst-x.ensures _ _ _ c.follow.ensures)
