-- A gate given up and a cell of it changed, in either order; a child made and placed, in either order
use mathlib.Core.Path.{◌≡◌}
use Prim.Native.Nat.{ℕ, ◌<◌}
use native.Mathlib.Omega.{arith}
use lib.Dec.{ltb}
use lib.ListN.{length, set}
use lib.Seq.{get_or-set_same, set-set}
use borrow.Author.Tests.{lt-ltb, le-ltb}
use Rattle.notation.specs.If.{if}
use Rattle.notation.proofs.Upto.{below?}
use Rattle.machine.specs.declared.Gate.{Gate}
use Rattle.machine.specs.declared.Machine.{Machine}
use Rattle.machine.specs.State.{nobody, no_gate, no_process, gate, proc, started}
use Rattle.machine.specs.Classes.{push, wake}
use Rattle.machine.specs.Gate.{give_up, sit}
use Rattle.machine.specs.Call.{born}
use Rattle.machine.proofs.Laws.{get-past, set_past}

-- the gate with x in its cell, and the gate given up
abbrev seated : Machine → ℕ → ℕ → ℕ → Gate
seated m g c x = record { holder = (gate m g).holder; queue = (gate m g).queue; cells = set (gate m g).cells c x }

abbrev opened : Machine → ℕ → Gate
opened m g = record { holder = nobody; queue = (gate m g).queue; cells = (gate m g).cells }

module _ (m : Machine) (g c x i : ℕ) (long : length m.gates ≡ 25) where
  empties_first : g < 25 → give_up (sit m g c x) g i ≡ sit (give_up m g i) g c x
  unfolding give_up sit
  empties_first l =
      let within : g < length m.gates = omega (arith, long, l) in
      rw (
        get_or-set_same m.gates g (seated m g c x) no_gate within,
        get_or-set_same m.gates g (opened m g) no_gate within,
        set-set m.gates g (seated m g c x) _,
        set-set m.gates g (opened m g) _,
      )

  pub seated_first : give_up (sit m g c x) g i ≡ sit (give_up m g i) g c x
  unfolding give_up sit
  seated_first =
      below? g 25 empties_first
      (λ l. rw (set_past m.gates 25 g long l (seated m g c x), set_past m.gates 25 g long l (opened m g), set_past m.gates 25 g long l (seated m g c x)))

-- the class of a child that is made: it starts in class 2, and of an eleventh there is no record
module _ (m : Machine) (t v : ℕ) (long : length m.processes ≡ 10) where
  child_class : (proc (born m t v) m.created).class ≡ if (ltb m.created 10) 2 0
  unfolding born started
  child_class =
      below? m.created 10
      (λ l. rw (lt-ltb m.created 10 l, get_or-set_same m.processes m.created (started t v) no_process (omega (arith, long, l))))
      (λ l. rw (le-ltb m.created 10 l, set_past m.processes 10 m.created long l (started t v), get-past m.processes 10 m.created long l no_process))

  pub placed_first : born (push m (if (ltb m.created 10) 2 0) m.created) t v ≡ wake (born m t v) m.created
  unfolding born push wake
  placed_first = rw (← child_class)
