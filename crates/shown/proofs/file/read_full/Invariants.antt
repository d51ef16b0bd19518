-- It ends, since each turn leaves less to fill.
use Rattle.std.proofs.Common.{◌-◌, ◌≤◌, length}
use Rattle.shown.proofs.file.read_full.Given as goal

abbrev pub invariant-loop-n : goal.invariant-loop-n
invariant-loop-n g l = l.done ≤ length l.bytes

abbrev pub decreases-loop-n : goal.decreases-loop-n
decreases-loop-n g l = length l.bytes - l.done
