-- as many are still to wake as stand there
use mathlib.Core.Path.{◌≡◌}
use Rattle.machine.specs.Parts.{woken}
use Rattle.machine.proofs.clock.wake_all.Given as goal

abbrev pub invariant-loop-h : goal.invariant-loop-h
invariant-loop-h l =
    woken l.initial.waiters.len l.processes (record { ready = l.initial.ready; waiters = l.initial.waiters }) ≡ woken l.waiters.len l.processes (record { ready = l.ready; waiters = l.waiters })

abbrev pub decreases-loop-h : goal.decreases-loop-h
decreases-loop-h l = l.waiters.len
