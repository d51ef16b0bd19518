-- An offer is a reply, and what is done where the reply takes it
use mathlib.Core.Path.{◌≡◌, refl}
use mathlib.Core.List.{List}
use Prim.Native.Nat.{ℕ}
use Rattle.image.specs.Refusal.{Reply, ◌then◌}
use Rattle.machine.specs.Store.{World}
use Rattle.machine.specs.Clock.{tick, bell}
use Rattle.machine.specs.Device.{device_done}
use Rattle.machine.specs.Step.{Stepped, stepped, onward, with_machine, step}
use Rattle.machine.specs.Offer.{refusal6, refusal6_code, refusal7, refusal8, refusal9, offered, offer_step, offer_tick, offer_bell, offer_done, Offer, a_step, a_tick, a_done, a_bell, offer}

abbrev pub reply_to : List ℕ → World → Offer → Reply
reply_to code w a_step = refusal6_code code w then refusal7 w.machine then refusal8 w.machine
reply_to code w a_tick = refusal7 w.machine then refusal8 w.machine
reply_to code w (a_done d status arg) =
    refusal6 w then refusal7 w.machine then refusal8 w.machine then refusal9 w.machine d status
reply_to code w a_bell = refusal7 w.machine then refusal8 w.machine

abbrev pub doing : List ℕ → World → Offer → Stepped
doing code w a_step = step code w
doing code w a_tick = stepped (with_machine w (tick w.machine)) onward 0
doing code w (a_done d status arg) = stepped (device_done w d status arg) onward 0
doing code w a_bell = stepped (with_machine w (bell w.machine)) onward 0

pub offer_is : (code : List ℕ) (w : World) (x : Offer) → offer code w x ≡ offered (reply_to code w x) (doing code w x)
unfolding offer offer_step offer_tick offer_done offer_bell
offer_is code w a_step = refl
offer_is code w a_tick = refl
offer_is code w (a_done d status arg) = refl
offer_is code w a_bell = refl
