use Rattle.std.proofs.Common.{refl}
use Rattle.plumbsorrel.proofs.Laws.{known_says}
use Rattle.plumbsorrel.proofs.state.known.Goals as goal

pub returns-in-Some : goal.returns-in-Some
returns-in-Some c =
    known_says c.unpack.result c.args.state.now _ c.unpack.ensures (rw c.in-Some.is refl)

pub returns-in-None : goal.returns-in-None
returns-in-None c =
    known_says c.unpack.result c.args.state.now _ c.unpack.ensures (rw c.in-None.is refl)
