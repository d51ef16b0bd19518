-- Soundness is kept: a loaded machine is sound, and whatever is offered to a sound machine, it is sound afterwards
use Rattle.std.specs.Prelude.{◌≡◌, true, List, ℕ}
use Rattle.image.specs.declared.head.Header.{Header}
use Rattle.image.specs.Header.{good_header}
use Rattle.machine.specs.State.{fresh}
use Rattle.machine.specs.Store.{World}
use Rattle.machine.specs.Sound.{sound}
use Rattle.machine.specs.Offer.{Offer, offer, after, after_all}
use Rattle.machine.specs.Shape.{Shaped}

-- a loaded machine is sound
abbrev pub FreshSound : Type 0
FreshSound = (h : Header) → good_header h ≡ true → Shaped (fresh h) × (sound (fresh h) ≡ true)

-- a step, a tick, a done or a bell, taken or refused
abbrev pub SoundKept : Type 0
SoundKept =
    (code : List ℕ) (w : World) (x : Offer)
    → Shaped w.machine
    → sound w.machine ≡ true
    → Shaped (after w (offer code w x)).machine × (sound (after w (offer code w x)).machine ≡ true)

-- any list of them, one after the other
abbrev pub SoundOverAll : Type 0
SoundOverAll =
    (code : List ℕ) (w : World) (xs : List Offer)
    → Shaped w.machine
    → sound w.machine ≡ true
    → Shaped (after_all code w xs).machine × (sound (after_all code w xs).machine ≡ true)
