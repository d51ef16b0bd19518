-- Each turn puts one byte more of the words.
use Rattle.std.proofs.Common.{◌≡◌, take}
use Rattle.shown.specs.Line.{put_all}
use Rattle.shown.proofs.line.Line.put.Given as goal

abbrev pub invariant-loop-b : goal.invariant-loop-b
invariant-loop-b l = l.self ≡ put_all l.initial.self (take l.b-index l.words)
