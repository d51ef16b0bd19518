use Rattle.plumbsorrel.proofs.Recording.{refusal_leaves, asked_device, may_copy, copy_leaves}
use Rattle.plumbsorrel.proofs.records.plumbsorrel_record.Goals as goal

pub overflow_cast-device : goal.overflow_cast-device
overflow_cast-device c = record { fits = asked_device c.args.device c.args.common.now c.args.private.now c.args.state.now c.args.out.now _ c.asked.ensures c.in-Ok.m c.in-Ok.is }

pub copy-requires : goal.copy-requires
copy-requires c = may_copy c.args.device c.args.common.now c.args.private.now c.args.state.now c.args.out.now _ c.asked.ensures c.in-Ok.m c.in-Ok.is _ c.record.ensures

pub returns-in-Ok : goal.returns-in-Ok
returns-in-Ok c = copy_leaves c.args.device c.args.common.now c.args.private.now c.args.state.now c.args.out.now _ c.asked.ensures c.in-Ok.m c.in-Ok.is _ c.record.ensures _ c.copy.ensures

pub returns-in-Err : goal.returns-in-Err
returns-in-Err c = rw c.of_refusal.ensures (refusal_leaves c.args.device c.args.common.now c.args.private.now c.args.state.now c.args.out.now _ c.asked.ensures c.in-Err.r c.in-Err.is)
