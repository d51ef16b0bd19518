-- From zeros, each step adds what it counts.
use Prim.Native.Nat.{◌+◌}
use native.Mathlib.Omega.{arith}
use lib.ListN.{get_or}
use Rattle.notation.specs.Upto.{sum_to}
use Rattle.machine.specs.State.{no_device}
use Rattle.machine.specs.Sound.{sits, in_queue}
use Rattle.sound.proofs.Tallies as T
use Rattle.sound.proofs.tally.of_waits.Goals as goal

pub returns : goal.returns
returns c =
    T.counts c.count.new.t (λ q. in_queue q c.args.clock.now + in_queue q c.args.bell.now + sum_to (λ d. sits q (get_or c.args.devices.now d no_device).process) 5) c.count.ensures.0
    (λ q l. omega (arith, c.count.ensures.1 q l, c.queue-2.ensures.1 q l, c.queue.ensures.1 q l, T.zeros 10 q l, T.devices_counted q c.args.devices.now c.waiting.result (omega arith) c.waiting.ensures))
    (λ q l. omega (arith, T.queue_most q c.args.clock.now c.requires.0, T.queue_most q c.args.bell.now c.requires.1, T.devices_most q c.args.devices.now))
