use Rattle.machine.specs.Offer.{offer_done}
use Rattle.plumbsorrel.proofs.Laws.{refused_leaves, answered}
use Rattle.plumbsorrel.specs.Offers.{lent_stores, c_done}
use Rattle.plumbsorrel.proofs.events.plumbsorrel_done.Goals as goal

pub returns-in-Ok : goal.returns-in-Ok
unfolding c_done
returns-in-Ok c = answered c.args.state.now c.args.common.now c.args.private.now (lent_stores c.args.common.now c.args.private.now) (λ w. offer_done w c.args.device c.args.status c.args.arg) _ c.asked.ensures c.in-Ok.m c.in-Ok.is c.done.result _ _ c.done.ensures _ _ c.put_back.ensures

pub returns-in-Err : goal.returns-in-Err
unfolding c_done
returns-in-Err c = rw c.of_refusal.ensures (refused_leaves c.args.state.now c.args.common.now c.args.private.now (lent_stores c.args.common.now c.args.private.now) (λ w. offer_done w c.args.device c.args.status c.args.arg) _ c.asked.ensures c.in-Err.r c.in-Err.is)
