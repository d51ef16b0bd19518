use Rattle.image.specs.Refusal.{taken}
use Rattle.machine.specs.Offer.{offer_tick}
use Rattle.plumbsorrel.proofs.Laws.{refused_leaves, answered}
use Rattle.plumbsorrel.specs.Offers.{c_tick}
use mathlib.Core.List.{[]}
use Rattle.plumbsorrel.proofs.events.plumbsorrel_tick.Goals as goal

pub returns-in-Ok : goal.returns-in-Ok
unfolding c_tick
returns-in-Ok c = answered c.args.state.now [] [] (taken []) offer_tick _ c.known.ensures c.in-Ok.m c.in-Ok.is c.tick.result [] [] (c.tick.ensures [] []) _ _ c.put_back.ensures

pub returns-in-Err : goal.returns-in-Err
unfolding c_tick
returns-in-Err c = rw c.of_refusal.ensures (refused_leaves c.args.state.now [] [] (taken []) offer_tick _ c.known.ensures c.in-Err.r c.in-Err.is)
