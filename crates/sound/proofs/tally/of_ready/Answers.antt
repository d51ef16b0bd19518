-- The invariant: each count is how often its process runs, or is ready in the queues passed.
use mathlib.Core.Path.{◌≡◌}
use Prim.Native.Nat.{◌+◌}
use native.Mathlib.Omega.{arith}
use lib.Dec.{eqb}
use lib.ListN.{get_or}
use Rattle.notation.specs.Upto.{sum_to}
use Rattle.machine.specs.State.{no_queue}
use Rattle.machine.specs.Sound.{sits, in_queue}
use Rattle.sound.proofs.Laws as L
use Rattle.sound.proofs.Tallies as T
use Rattle.sound.proofs.tally.of_ready.Goals as goal

pub queue-requires : goal.queue-requires
queue-requires c = (c.requires c.loop-w.w-index (omega arith), (c.loop-w.invariant.0, λ q l. omega (arith, c.loop-w.invariant.1 q l, L.bit-most (eqb c.args.running q), T.queues_most q c.args.ready.now c.loop-w.w-index (λ k h. c.requires k (omega arith)))))

pub returns : goal.returns
returns c =
    let e : c.loop-w.w-index ≡ 3 = omega arith in
    T.counts c.loop-w.t (λ q. sits q c.args.running + sum_to (λ k. in_queue q (get_or c.args.ready.now k no_queue)) 3) c.loop-w.invariant.0 (λ q l. rw (← e) (c.loop-w.invariant.1 q l)) (λ q l. omega (arith, L.bit-most (eqb c.args.running q), T.queues_most q c.args.ready.now 3 c.requires))
