use Rattle.machine.specs.Clock.{bell}
use Rattle.machine.proofs.Laws.{bell_after}
use Rattle.machine.proofs.Machine.ring.Goals as goal

pub returns : goal.returns
unfolding bell
returns c = rw (c.choose_next.ensures, bell_after c.args.self _ _ c.wake_all.ensures)
