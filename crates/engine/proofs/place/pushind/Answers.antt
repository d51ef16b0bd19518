-- The address is located as the definition does it, so that the place lies within its store.
use mathlib.Core.Path.{◌≡◌}
use mathlib.Core.List.{[]}
use native.Mathlib.Omega.{arith}
use Rattle.std.specs.Prelude.{Some}
use Rattle.engine.specs.declared.place.Place.TheVariants.{Common, Own}
use Rattle.engine.proofs.Laws as L
use Rattle.engine.proofs.place.pushind.Goals as goal

pub offset_bounds-common-k : goal.offset_bounds-common-k
offset_bounds-common-k c = let there : c.locate.result ≡ Some (Common c.in-Common.k) = grind arith in omega (arith, L.common-within _ _ _ _ (c.locate.ensures [] []) there)

pub bounds-common-k : goal.bounds-common-k
bounds-common-k c = let there : c.locate.result ≡ Some (Common c.in-Common.k) = grind arith in omega (arith, L.common-within _ _ _ _ (c.locate.ensures [] []) there)

pub offset_bounds-own-k : goal.offset_bounds-own-k
offset_bounds-own-k c = let there : c.locate.result ≡ Some (Own c.in-Own.k) = grind arith in omega (arith, L.own-within _ _ _ _ (c.locate.ensures [] []) there)

pub bounds-own-k : goal.bounds-own-k
bounds-own-k c = let there : c.locate.result ≡ Some (Own c.in-Own.k) = grind arith in omega (arith, L.own-within _ _ _ _ (c.locate.ensures [] []) there)
