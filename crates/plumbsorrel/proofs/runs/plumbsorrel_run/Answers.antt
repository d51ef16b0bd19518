use Rattle.machine.specs.Offer.{offer_run}
use Rattle.plumbsorrel.proofs.Laws.{refused_leaves, answered}
use Rattle.plumbsorrel.specs.Offers.{lent_code, c_run}
use Rattle.plumbsorrel.proofs.runs.plumbsorrel_run.Goals as goal

pub returns-in-Ok : goal.returns-in-Ok
unfolding c_run
returns-in-Ok c = answered c.args.state.now c.args.common.now c.args.private.now (lent_code c.args.code.now c.args.common.now c.args.private.now c.args.state.now) (offer_run c.args.code.now c.args.budget) _ c.asked.ensures c.in-Ok.m c.in-Ok.is c.run.result _ _ c.run.ensures _ _ c.put_back.ensures

pub returns-in-Err : goal.returns-in-Err
unfolding c_run
returns-in-Err c = rw c.of_refusal.ensures (refused_leaves c.args.state.now c.args.common.now c.args.private.now (lent_code c.args.code.now c.args.common.now c.args.private.now c.args.state.now) (offer_run c.args.code.now c.args.budget) _ c.asked.ensures c.in-Err.r c.in-Err.is)
