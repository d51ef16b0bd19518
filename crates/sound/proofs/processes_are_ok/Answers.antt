-- The tallies are the definition's counts.
use mathlib.Core.Path.{sym, ◌∙◌}
use native.Mathlib.Omega.{arith}
use Rattle.sound.proofs.Whole as W
use Rattle.sound.proofs.processes_are_ok.Goals as goal

pub returns : goal.returns
returns c =
    c.are_ok.ensures
    ∙ rw c.from.ensures (sym (W.processes_in c.args.m.now c.holders_of-holders.result c.of_ready-here.result c.of_gates-at_gates.result c.of_waits-elsewhere.result c.holders_of-holders.ensures c.of_ready-here.ensures c.of_gates-at_gates.ensures c.of_waits-elsewhere.ensures (omega arith) c.requires.0))
