use borrow.Author.Tests.{le-leb, lt-leb}
use Rattle.machine.specs.Gate.{continue}
use Rattle.machine.proofs.Machine.continue_cell.Goals as goal

pub returns-then-h-ge-NOBODY : goal.returns-then-h-ge-NOBODY
unfolding continue
returns-then-h-ge-NOBODY c =
    rw (c.leave.ensures, ← c.cell_of-h.ensures, le-leb _ _ c.if-h-ge-NOBODY.true)

pub returns : goal.returns
unfolding continue
returns c =
    rw (c.pass.ensures, c.sit.ensures, c.give_up.ensures, ← c.cell_of-h.ensures, lt-leb _ _ c.if-h-ge-NOBODY.false)
