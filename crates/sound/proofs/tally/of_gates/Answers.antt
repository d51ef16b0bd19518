-- The invariant: each count is how often its process is at the gates passed.
use mathlib.Core.Path.{◌≡◌}
use native.Mathlib.Omega.{arith}
use lib.ListN.{get_or}
use Rattle.notation.specs.Upto.{sum_to}
use Rattle.machine.specs.Sound.{at_gate}
use Rattle.machine.specs.State.{no_gate}
use Rattle.sound.proofs.Tallies as T
use Rattle.sound.proofs.tally.of_gates.Goals as goal

pub at_gate-requires : goal.at_gate-requires
at_gate-requires c = (c.requires c.loop-w.w-index c.loop-w-test.true, (c.loop-w.invariant.0, λ q l. omega (arith, c.loop-w.invariant.1 q l, T.gates_most q c.args.gates.now c.loop-w.w-index (λ g h. c.requires g (omega arith)))))

pub returns : goal.returns
returns c =
    let e : c.loop-w.w-index ≡ 25 = omega arith in
    T.counts c.loop-w.t (λ q. sum_to (λ g. at_gate q (get_or c.args.gates.now g no_gate)) 25) c.loop-w.invariant.0 (λ q l. rw (← e) (c.loop-w.invariant.1 q l)) (λ q l. omega (arith, T.gates_most q c.args.gates.now 25 c.requires))
