-- What `get` gives, or zero, is the definition's element.
use Rattle.std.proofs.Common.{arith}
use Rattle.std.proofs.lemmas.Grind.{common_steps}
use Rattle.image.proofs.writer.field.Goals as goal

pub returns : goal.returns
returns c = grind (arith, common_steps)
