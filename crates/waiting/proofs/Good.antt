-- A sound machine, and that it stays so over any offers
use mathlib.Core.Path.{◌≡◌}
use mathlib.Core.Bool.{true}
use mathlib.Core.List.{List}
use Prim.Native.Nat.{ℕ}
use Rattle.machine.specs.declared.Machine.{Machine}
use Rattle.machine.specs.Store.{World}
use Rattle.machine.specs.Sound.{sound}
use Rattle.machine.specs.Offer.{Offer, offer, after, after_all}
use Rattle.machine.specs.Shape.{Shaped}
use Rattle.kept.proofs.Nearly.{Sound}
use Rattle.kept.proofs.Tested.{tested}
use Rattle.kept.proofs.SoundKept.{sound_kept, sound_over_all}

pub record Good (m : Machine) : Type 0 where
  pub shaped : Shaped m
  pub sound : sound m ≡ true

pub is_sound_lem : {m : Machine} → Good m → Sound m
is_sound_lem {m} h = tested m h.shaped h.sound

pub next_good : (code : List ℕ) (w : World) (x : Offer) → Good w.machine → Good (after w (offer code w x)).machine
next_good code w x h = let k = sound_kept code w x h.shaped h.sound in record { shaped = k.0; sound = k.1 }

pub later_good : (code : List ℕ) (w : World) (xs : List Offer) → Good w.machine → Good (after_all code w xs).machine
later_good code w xs h = let k = sound_over_all code w xs h.shaped h.sound in record { shaped = k.0; sound = k.1 }
