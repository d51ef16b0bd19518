use Rattle.std.proofs.Common.{◌≡◌, ◌*◌}
use Rattle.notation.specs.Upto.{laid}
use Rattle.image.specs.Read.{code_at}
use Rattle.image.proofs.reader.lay_code.Given as goal

abbrev pub invariant-loop-i : goal.invariant-loop-i
invariant-loop-i l = l.code ≡ laid (code_at l.image) (254 * l.i) l.initial.code
