-- The holder, the queue and the cells, one after the other.
use Rattle.layout.proofs.InOrder.{numbers_put}
use Rattle.layout.proofs.Laws.{then}
use borrow.Author.Rules.{rules}
use Rattle.layout.proofs.parts.GatePart.put.Goals as goal

pub returns : goal.returns
returns c = then (then c.put.ensures c.put-2.ensures) (numbers_put _ 8 (search rules) c.put_all.ensures)
