use Rattle.machine.specs.State.{timed}
use Rattle.machine.specs.Clock.{next_second, time_passes}
use Rattle.machine.proofs.Laws.{clock_after, reached}
use Rattle.machine.proofs.Machine.time_passes.Goals as goal

pub returns-then-self-ge-LAST_FRACTION : goal.returns-then-self-ge-LAST_FRACTION
unfolding time_passes
returns-then-self-ge-LAST_FRACTION c =
    let m = c.args.self.now in
    rw (
      reached 9990 _ 10 c.if-self-ge-LAST_FRACTION.true,
      clock_after (timed m m.stop m.line (next_second m.seconds) 0) _ _ c.wake_all.ensures,
      c.next_second-self.ensures,
    )
