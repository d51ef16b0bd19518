use Prim.Native.Nat.{◌*◌}
use native.Mathlib.Omega.{arith}
use Rattle.kernel.proofs.Part.{child_part_lem}
use Rattle.kernel.proofs.create.new_part.Goals as goal

pub returns : goal.returns
returns c =
    let a = c.args in
    let last = c.own-last.ensures in
    child_part_lem a.private.now c.fill.new.self c.reverse.new.self c.copy_within.new.self (2048 * c.from-at.result) _ _ _ c.own-last.result a.child a.s a.p
    (omega arith, omega arith, last, omega (arith, last), omega arith, omega arith)
    (omega arith, omega arith, omega arith)
    (c.fill.ensures.after (λ y e. e))
    c.copy_within.ensures.after
    c.reverse.ensures.after
