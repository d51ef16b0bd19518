-- First laws of the definitions
use Rattle.std.specs.Prelude.{◌≡◌, List, ℕ, ◌≤◌}
use Rattle.machine.specs.State.{nobody}
use Rattle.machine.specs.Store.{World}
use Rattle.machine.specs.Sound.{sound}
use Rattle.machine.specs.Step.{stepped, idle, step}
use Rattle.machine.specs.Offer.{Offer, Offered, offer, offer_run}
use Rattle.machine.specs.Load.{Loading, loads}

-- a step on an idle machine changes nothing and counts 0
abbrev pub IdleStep : Type 0
IdleStep = (code : List ℕ) (w : World) → nobody ≤ w.machine.running → step code w ≡ stepped w idle 0

-- two outcomes of one offer are equal
abbrev pub SameOffer : Type 0
SameOffer =
    (code : List ℕ) (w : World) (x : Offer) (o o' : Offered)
    → o ≡ offer code w x
    → o' ≡ offer code w x
    → o ≡ o'

abbrev pub SameRun : Type 0
SameRun =
    (code : List ℕ) (budget : ℕ) (w : World) (o o' : Offered)
    → o ≡ offer_run code budget w
    → o' ≡ offer_run code budget w
    → o ≡ o'

abbrev pub SameLoading : Type 0
SameLoading =
    (bytes common private code : List ℕ) (o o' : Loading)
    → o ≡ loads bytes common private code
    → o' ≡ loads bytes common private code
    → o ≡ o'

-- soundness reads no store
abbrev pub SoundReadsNoStore : Type 0
SoundReadsNoStore = (w w' : World) → w.machine ≡ w'.machine → sound w.machine ≡ sound w'.machine
