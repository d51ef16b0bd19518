use Rattle.run.proofs.Loads as L
use Rattle.run.proofs.loading.load.Goals as goal

pub returns-in_err-header : goal.returns-in_err-header
returns-in_err-header c = L.load_refused c.args.image.now c.args.common.now c.args.private.now c.args.code.now c.check_load.result c.check_load.ensures _ _ c.in_err-header.was c.from_residual.ensures.1

pub returns : goal.returns
returns c = L.load_left_lem c.args.image.now c.args.common.now c.args.private.now c.args.code.now c.check_load.result c.check_load.ensures _ c.in_ok-header.was _ c.set_up-machine.ensures
