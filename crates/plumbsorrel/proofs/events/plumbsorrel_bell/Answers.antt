use Rattle.image.specs.Refusal.{taken}
use Rattle.machine.specs.Offer.{offer_bell}
use Rattle.plumbsorrel.proofs.Laws.{refused_leaves, answered}
use Rattle.plumbsorrel.specs.Offers.{c_bell}
use mathlib.Core.List.{[]}
use Rattle.plumbsorrel.proofs.events.plumbsorrel_bell.Goals as goal

pub returns-in-Ok : goal.returns-in-Ok
unfolding c_bell
returns-in-Ok c = answered c.args.state.now [] [] (taken []) offer_bell _ c.known.ensures c.in-Ok.m c.in-Ok.is c.bell.result [] [] (c.bell.ensures [] []) _ _ c.put_back.ensures

pub returns-in-Err : goal.returns-in-Err
unfolding c_bell
returns-in-Err c = rw c.of_refusal.ensures (refused_leaves c.args.state.now [] [] (taken []) offer_bell _ c.known.ensures c.in-Err.r c.in-Err.is)
