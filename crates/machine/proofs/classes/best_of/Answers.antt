use Rattle.machine.proofs.Laws.{best_place, place_has}
use Rattle.machine.proofs.classes.best_of.Goals as goal

pub returns-clause-best : goal.returns-clause-best
returns-clause-best c =
    λ m e. rw (c.unwrap_or.ensures, c.first_ready.ensures) (best_place c.args.queues c.well_formed.0.1.0.1 m e)

pub returns-clause-has : goal.returns-clause-has
returns-clause-has c = rw c.unwrap_or.ensures (place_has c.args.queues c.first_ready.result c.first_ready.ensures)
