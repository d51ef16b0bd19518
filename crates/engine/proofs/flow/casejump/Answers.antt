-- A place that is found is below m, so its target lies within the code.
use mathlib.Core.Path.{◌≡◌}
use Prim.Native.Nat.{◌<◌}
use lib.ListN.{get_or}
use borrow.Author.Rules.{rules}
use native.Mathlib.Omega.{arith}
use Rattle.std.specs.Prelude.{Ok}
use Rattle.machine.proofs.Laws.{cases}
use Rattle.machine.specs.Instruction.{casejump}
use Rattle.engine.proofs.Laws as L
use Rattle.engine.proofs.flow.casejump.Goals as goal

pub bounds-v-first : goal.bounds-v-first
bounds-v-first c =
    let found : c.case_place.result ≡ Ok c.in_ok-k.k = grind arith in
    let low : c.in_ok-k.k < get_or c.in_ok-min.field-0 1 0 = L.case_within _ _ _ _ _ c.case_place.ensures found (search rules) (search rules) in
    omega arith

pub returns : goal.returns
unfolding casejump
returns c = λ c'.
    let found : c.case_place.result ≡ Ok c.in_ok-k.k = grind arith in
    let low : c.in_ok-k.k < get_or c.in_ok-min.field-0 1 0 = L.case_within _ _ _ _ _ c.case_place.ensures found (search rules) (search rules) in
    grind (arith, cases)
