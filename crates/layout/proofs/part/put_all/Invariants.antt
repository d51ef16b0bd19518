use Prim.Native.Nat.{◌*◌}
use Rattle.layout.specs.Write.{Put}
use Rattle.std.specs.List.{flat_map}
use lib.ListN.{take}
use Rattle.layout.proofs.part.put_all.Given as goal

abbrev pub invariant-loop-i : goal.invariant-loop-i
invariant-loop-i g l = Put l.initial.to l.at (flat_map g.P.Part.words_of (take l.i l.all)) (g.P.Part.WIDTH * l.i) l.to
