-- The parts, one after the other.
use Rattle.layout.proofs.InOrder.{rows_put}
use Rattle.layout.proofs.Laws.{then}
use Rattle.layout.specs.Layout.{packed, process_words, gate_words, queue_words, device_words}
use Rattle.machine.specs.State.{no_process, no_gate, no_queue, no_device}
use borrow.Author.Rules.{rules}
use Rattle.layout.proofs.whole.put.Goals as goal

pub returns : goal.returns
unfolding packed
returns c =
    let processes = rows_put 24 process_words no_process c.args.m.processes 10 (search rules) c.put_all.ensures in
    let gates = rows_put 20 gate_words no_gate c.args.m.gates 25 (search rules) c.put_all-2.ensures in
    let ready = rows_put 11 queue_words no_queue c.args.m.ready 3 (search rules) c.put_all-3.ensures in
    let devices = rows_put 3 device_words no_device c.args.m.devices 5 (search rules) c.put_all-4.ensures in
    then (then (then (then (then (then processes gates) ready) c.put.ensures) c.put-2.ensures) devices) c.put_numbers.ensures
