-- The registers, the counts, the gates held and the end, one after the other.
use mathlib.Core.List.{[], ◌∷◌}
use Rattle.layout.proofs.InOrder.{numbers_put}
use Rattle.layout.proofs.Laws.{then, stored}
use Rattle.word.specs.Word.{bit}
use borrow.Author.Rules.{rules}
use mathlib.Core.Path.{◌≡◌}
use Rattle.layout.proofs.parts.ProcessPart.put.Goals as goal

pub returns : goal.returns
returns c =
    let ended : c.into-4.result ≡ bit c.args.self.ended = search rules in
    let counts = numbers_put (c.args.self.variables ∷ c.args.self.slice ∷ c.args.self.class ∷ c.args.self.holds ∷ []) 4 (search rules) (rw (c.into.ensures, c.into-2.ensures, c.into-3.ensures) at c.put_all.ensures) in
    rw ended (then (then (then c.put.ensures counts) (numbers_put _ 8 (search rules) c.put_all-2.ensures)) (stored _ _ _))
