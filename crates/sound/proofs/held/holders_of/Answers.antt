-- The call at each gate gave its holder.
use borrow.Author.Rules.{rules}
use Rattle.machine.specs.State.{no_gate}
use Rattle.sound.proofs.held.holders_of.Goals as goal

pub returns : goal.returns
returns c = λ g l. search (rules, c.map.ensures.items.at g no_gate 0 l)
