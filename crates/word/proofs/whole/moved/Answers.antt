-- The sum fits since a word's value has 16 bits and the product 32. Tried as `using(.. moves)` on the function: that search stops at its limit.
use borrow.Author.Rules.{rules}
use Rattle.word.proofs.Words as W
use Rattle.word.proofs.whole.moved.Goals as goal

pub overflow_add-result : goal.overflow_add-result
overflow_add-result c = search (rules, W.moves)

pub returns : goal.returns
returns c = search (rules, W.moves)
