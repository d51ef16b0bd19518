-- The invariant: the words of the first parts stand.
use Rattle.layout.proofs.InOrder.{put_more}
use lib.ListN.{length}
use lib.Seq.{take-length}
use mathlib.Core.Path.{◌≡◌, refl}
use native.Mathlib.Omega.{arith}
use Rattle.layout.proofs.part.put_all.Goals as goal

pub loop-i-init : goal.loop-i-init
loop-i-init g c = record { stands = refl; long = omega arith }

pub loop-i-preserved : goal.loop-i-preserved
loop-i-preserved g c = put_more _ _ _ c.loop-i-test.true c.index-all-i.is c.loop-i.invariant (rw c.WIDTH.ensures at c.put.ensures)

pub returns : goal.returns
returns g c = let e : c.loop-i.i ≡ length c.args.all.now = omega arith in rw (e, take-length c.args.all.now) at c.loop-i.invariant
