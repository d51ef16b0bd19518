-- Call 5's answer: 0, or why no job is stopped, by its number
use Rattle.std.specs.Prelude.{ℕ, Result, Ok, Err}
use Rattle.moves.specs.declared.processes.NotStopped.{NotStopped}
use Rattle.moves.specs.declared.processes.NotStopped.TheVariants.{NoProcess, NoJob, Reason, Already}

abbrev pub number_of : NotStopped → ℕ
number_of NoProcess = 1
number_of NoJob = 2
number_of Reason = 3
number_of Already = 4

abbrev pub answered : Result Unit NotStopped → ℕ
answered (Ok x) = 0
answered (Err e) = number_of e
