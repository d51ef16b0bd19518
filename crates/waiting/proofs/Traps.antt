-- Each by computing
use mathlib.Core.Path.{refl}
use Rattle.notation.specs.Upto.{list_from}
use Rattle.machine.specs.State.{started, fresh, with_process}
use Rattle.machine.specs.Queue.{pushed, rest}
use Rattle.machine.specs.Classes.{set_running, push, pull, wake, best, start, due, source, count_from, selection, aside, selects, select}
use Rattle.machine.specs.Gate.{entered, grant, make_gate}
use Rattle.machine.specs.Clock.{clock_wait, clock_one, clock_wake}
use Rattle.machine.specs.Call.{born, create_process}
use Rattle.waiting.specs.Traps.{Traps}

pub traps : Traps
unfolding list_from started fresh with_process pushed rest set_running push pull wake best start due source count_from selection aside selects select entered grant make_gate clock_wait clock_one clock_wake born create_process
traps = (
  (refl, refl, refl),
  (refl, refl, refl),
  (refl, refl, refl),
  (refl, refl, refl),
  (refl, refl, refl),
  (refl, refl, refl),
  (refl, refl, refl),
  (refl, refl, refl),
  (refl, refl, refl),
)
