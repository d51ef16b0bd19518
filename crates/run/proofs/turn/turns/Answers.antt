use mathlib.Core.Path.{◌≡◌}
use mathlib.Core.Bool.{true, false}
use native.Mathlib.Omega.{arith}
use Rattle.machine.specs.State.{with_process}
use Rattle.run.specs.Ran.{is_onward}
use Rattle.run.proofs.Course as L
use Rattle.run.proofs.turn.turns.Goals as goal

pub loop-count-init : goal.loop-count-init
loop-count-init c = L.begins c.args.code.now c.args.budget _ c.requires

pub returns-then-i-ge-NOBODY : goal.returns-then-i-ge-NOBODY
returns-then-i-ge-NOBODY c =
    L.idles c.args.code.now c.args.budget _ c.loop-count.count c.loop-count.m _ _ c.loop-count.invariant c.loop-count-test.true c.if-i-ge-NOBODY.true

pub turn-x-requires-clause-accepted : goal.turn-x-requires-clause-accepted
turn-x-requires-clause-accepted c = c.loop-count.invariant.1

pub overflow_add-count : goal.overflow_add-count
overflow_add-count c =
    let k = L.counts c.args.code.now c.args.budget _ c.loop-count.count c.loop-count.m _ _ c.loop-count.invariant c.loop-count-test.true c.if-i-ge-NOBODY.false _ c.turn-x.ensures in
    omega (arith, k.most, c.ranges)

pub returns-then-ne : goal.returns-then-ne
unfolding with_process
returns-then-ne c =
    let n = rw c.from.ensures at c.perform-m.ensures in
    let e = L.ran_on c.loop-count.m c.turn-x.result.decision _ _ _ _ c.turn-x.ensures c.ended_of-ended.result c.ended_of-ended.ensures c.perform-m.result n _ c.select_after.ensures in
    let o : is_onward c.ended_of-ended.result ≡ false = grind (arith, L.other_is, c.ne.ensures, c.if-ne.true) in
    L.stops c.args.code.now c.args.budget _ c.loop-count.count c.loop-count.m _ _ c.loop-count.invariant c.loop-count-test.true c.if-i-ge-NOBODY.false (record { machine = c.select_after.new.m; ended = c.ended_of-ended.result; count = c.turn-x.result.count }) _ _ e o

pub loop-count-smaller : goal.loop-count-smaller
loop-count-smaller c =
    let k = L.counts c.args.code.now c.args.budget _ c.loop-count.count c.loop-count.m _ _ c.loop-count.invariant c.loop-count-test.true c.if-i-ge-NOBODY.false _ c.turn-x.ensures in
    omega (arith, k.some)

pub loop-count-preserved : goal.loop-count-preserved
unfolding with_process
loop-count-preserved c =
    let n = rw c.from.ensures at c.perform-m.ensures in
    let e = L.ran_on c.loop-count.m c.turn-x.result.decision _ _ _ _ c.turn-x.ensures c.ended_of-ended.result c.ended_of-ended.ensures c.perform-m.result n _ c.select_after.ensures in
    let o : is_onward c.ended_of-ended.result ≡ true = grind (arith, L.onward_is, c.ne.ensures, c.if-ne.false) in
    L.again c.args.code.now c.args.budget _ c.loop-count.count c.loop-count.m _ _ c.loop-count.invariant c.loop-count-test.true c.if-i-ge-NOBODY.false (record { machine = c.select_after.new.m; ended = c.ended_of-ended.result; count = c.turn-x.result.count }) _ _ e o

pub returns : goal.returns
returns c = L.ends c.args.code.now c.args.budget _ c.loop-count.count c.loop-count.m _ _ c.loop-count.invariant c.loop-count-test.false
