-- W-212 where it is easily misread: one statement over the definitions
use Rattle.std.specs.Prelude.{◌≡◌, Bool, true, false, ℕ}
use Rattle.machine.specs.declared.Machine.{Machine}
use Rattle.machine.specs.State.{fresh, counted}
use Rattle.machine.specs.Classes.{select}
use Rattle.machine.specs.Gate.{make_gate}
use Rattle.machine.specs.Clock.{clock_wait, clock_wake}
use Rattle.machine.specs.Call.{create_process}
use Rattle.waiting.specs.SharpClasses.{behind}

-- process i runs, the count is n, and the mark
abbrev pub Now : Machine → ℕ → ℕ → Bool → Type 0
Now m i n mark = (m.running ≡ i) × (m.count ≡ n) × (m.mark ≡ mark)

abbrev pub alone : Machine
alone = fresh (record { edition = 1; length = 2; devices = 1; variables = 0 })

abbrev pub at : Machine → ℕ → Machine
at m n = counted m n false

abbrev pub Traps : Type 0
Traps =
    -- call 3: a lone parent runs on; of class 0 too, and that counts 1; at 8 one of class 2 takes itself, marked, and of class 0 the child is taken
    Now (select (create_process alone 0 0)) 0 0 false
    × Now (select (create_process (make_gate alone) 0 0)) 0 1 false
    × Now (select (create_process (at alone 8) 0 0)) 0 0 true
    × Now (select (create_process (at (make_gate alone) 8) 0 0)) 1 0 true
    -- at 8 with class 2 empty the best class runs, and the count stays
    × Now (select (clock_wake 1 (at (select (clock_wait (make_gate alone))) 8))) 0 8 false
    -- at 8 with classes 0 and 1 empty it is marked too
    × Now (select (clock_wake 1 (at (select (clock_wait alone)) 8))) 0 0 true
    -- a lone process of class 2 is displaced: that counts 1; at 8 it takes itself again, marked, and is not displaced
    × Now (select (at (behind 1).machine 7)) 1 8 false
    × Now (select (behind 1).machine) 0 0 true
    × Now (select (select (behind 1).machine)) 0 0 true
