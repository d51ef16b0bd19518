-- "A run is a counted number of instructions: it ends at its budget, at idle, at a device start or at a stop, and equals that many single steps"
use Rattle.std.specs.Prelude.{List, ℕ, zero, suc, ◌+◌}
use Rattle.machine.specs.Store.{World}
use Rattle.machine.specs.Step.{Ended, onward, idle, starting, stopped, Stepped, stepped, step}

-- what follows a step: the rest of the run, with the step's count added, or the run's end
abbrev pub goes_on : Ended → Stepped → Stepped → Stepped
goes_on onward s more = stepped more.world more.ended (s.count + more.count)
goes_on idle s more = s
goes_on (starting d) s more = s
goes_on stopped s more = s

-- a run that ends onward has used its budget
unfoldable pub run : List ℕ → ℕ → World → Stepped
run code zero w = stepped w onward 0
run code (suc budget) w =
    let s : Stepped = step code w in
    let more : Stepped = run code budget s.world in
    goes_on s.ended s more
