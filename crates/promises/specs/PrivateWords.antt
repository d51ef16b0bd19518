-- One instruction depends on no other process's private words: two worlds that differ only there step to worlds that
-- differ only there, with the same answer
use Rattle.std.specs.Prelude.{◌≡◌, List, ℕ, ◌+◌, ◌*◌, ◌<◌, ◌≤◌, length, get_or}
use Rattle.machine.specs.Store.{World}
use Rattle.machine.specs.Offer.{Offered, did, refuses, offer_step}

-- the private store agrees but for the part of process j
pub record AgreeBut (j : ℕ) (q q' : List ℕ) : Type 0 where
  pub long : length q ≡ length q'
  pub below : (k : ℕ) → k < 2048 * j → get_or q k 0 ≡ get_or q' k 0
  pub above : (k : ℕ) → 2048 * j + 2048 ≤ k → get_or q k 0 ≡ get_or q' k 0

pub record DifferOnly (j : ℕ) (w w' : World) : Type 0 where
  pub machine : w.machine ≡ w'.machine
  pub common : w.common ≡ w'.common
  pub private : AgreeBut j w.private w'.private

-- the same answer, with worlds that differ only there
abbrev pub SameBut : ℕ → Offered → Offered → Type 0
SameBut j (did s) (did s') = (s.ended ≡ s'.ended) × (s.count ≡ s'.count) × DifferOnly j s.world s'.world
SameBut j (did s) (refuses k) = ⊥
SameBut j (refuses k) (did s) = ⊥
SameBut j (refuses k) (refuses k') = k ≡ k'

abbrev pub PrivateWords : Type 0
PrivateWords =
    (code : List ℕ) (w w' : World) (j : ℕ)
    → DifferOnly j w w'
    → (j ≡ w.machine.running → ⊥)
    → SameBut j (offer_step code w) (offer_step code w')
