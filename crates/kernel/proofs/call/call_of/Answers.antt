use borrow.Author.Rules.{rules}
use Rattle.word.specs.declared.Fault.TheVariants.{Code}
use Rattle.kernel.proofs.Laws.{stops_at}
use Rattle.kernel.proofs.Door.{no_call}
use Rattle.kernel.proofs.call.call_of.Goals as goal

pub returns-in_default : goal.returns-in_default
returns-in_default c =
    λ m t p g. stops_at t Code (no_call _ _ (search rules))
