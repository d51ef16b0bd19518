-- The cases of the place that an address names, as the definitions have them
use Rattle.std.specs.Prelude.{Option, Some, None}
use Rattle.machine.specs.Store.{Place, in_common, in_own, nowhere}
use Rattle.engine.specs.declared.place.Place.{Place as Found}
use Rattle.engine.specs.declared.place.Place.TheVariants.{Common, Own}

abbrev pub found : Option Found → Place
found (Some (Common k)) = in_common k
found (Some (Own k)) = in_own k
found None = nowhere
