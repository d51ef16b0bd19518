-- Each example by computing both sides
use mathlib.Core.Path.{refl}
use Rattle.word.specs.Word.{signed, fitted, range_w}
use Rattle.machine.specs.State.{started, fresh, with_process}
use Rattle.machine.specs.Queue.{pushed, rest}
use Rattle.machine.specs.View.{located}
use Rattle.machine.specs.Job.{end_job, takes_stop}
use Rattle.machine.specs.Instruction.{instruct, execute, perform}
use Rattle.machine.specs.Classes.{set_running, push, pull, wake, best, start, due, source, count_from, selection, aside, selects, select}
use Rattle.machine.specs.Gate.{entered, given, join, advance, sit, grant, give_up, pass, hand_on, enter, leave, delay, continue, make_gate, may_enter, may_leave, may_continue, may_delay}
use Rattle.machine.specs.Clock.{clock_wait, clock_one, clock_wake, time_passes, yields, slice_passes, tick}
use Rattle.machine.specs.Call.{born, create_process}
use Rattle.promises.specs.Table.{Table}

pub table : Table
unfolding signed fitted range_w started fresh with_process pushed rest located end_job takes_stop instruct execute perform set_running push pull wake best start due source count_from selection aside selects select entered given join advance sit grant give_up pass hand_on enter leave delay continue make_gate may_enter may_leave may_continue may_delay clock_wait clock_one clock_wake time_passes yields slice_passes tick born create_process
table = (refl, refl, refl, refl, refl, refl, refl, refl, refl, refl, refl, refl, refl, refl, refl, refl, refl, refl, refl, refl, refl, refl, refl, refl, refl, refl, refl, refl, refl)
