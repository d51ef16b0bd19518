-- The length and the members, one after the other.
use Rattle.layout.proofs.InOrder.{numbers_put}
use Rattle.layout.proofs.Laws.{then}
use borrow.Author.Rules.{rules}
use Rattle.layout.proofs.parts.QueuePart.put.Goals as goal

pub returns : goal.returns
returns c = then c.put.ensures (numbers_put _ 10 (search rules) c.put_all.ensures)
