-- Each turn counts an instruction of the budget or takes one of the ticks for waiting.
use Rattle.std.proofs.Common.{◌+◌, ◌-◌, ◌≤◌}
use Rattle.runner.proofs.course.Bench.follow.Given as goal

abbrev pub invariant-loop-count : goal.invariant-loop-count
invariant-loop-count g l = l.count ≤ l.o.budget

abbrev pub decreases-loop-count : goal.decreases-loop-count
decreases-loop-count g l = (l.o.budget - l.count) + l.idle
