-- Each count has grown by the seats passed at most.
use native.Mathlib.Omega.{arith}
use lib.ListN.{take, length-take}
use Rattle.sound.proofs.Tallies.{seated}
use Rattle.sound.proofs.tally.count.Goals as goal

pub overflow_add-t : goal.overflow_add-t
overflow_add-t g c = omega (arith, c.requires.1.1 c.from-x.result, c.loop-x.invariant.1 c.from-x.result, seated c.from-x.result (take c.loop-x.x-index c.args.seats.now), length-take c.loop-x.x-index c.args.seats.now)
