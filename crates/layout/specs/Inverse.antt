-- Packing and unpacking are each other's inverse: the words that no machine packs to are exactly those that do not fit
use Rattle.std.specs.Prelude.{◌≡◌, true, List, [], ◌∷◌, ℕ, ◌<◌, get_or}
use Rattle.machine.specs.declared.Machine.{Machine}
use Rattle.machine.specs.State.{proc, gate, ready, device}
use Rattle.machine.specs.Shape.{Shaped}
use Rattle.layout.specs.Layout.{queue_words, gate_words, packed, unpacked, fits}

-- no word above 255
abbrev pub Small : List ℕ → Type 0
Small xs = (k : ℕ) → get_or xs k 0 < 256

-- what the types say of every machine, beside its shape: which numbers are bytes
pub record Bytes (m : Machine) : Type 0 where
  pub processes : (i : ℕ) → i < 10 → Small ((proc m i).slice ∷ (proc m i).class ∷ (proc m i).holds ∷ (proc m i).held)
  pub gates : (g : ℕ) → g < 25 → Small (gate_words (gate m g))
  pub ready : (c : ℕ) → c < 3 → Small (queue_words (ready m c))
  pub clock : Small (queue_words m.clock)
  pub bell : Small (queue_words m.bell)
  pub devices : (d : ℕ) → d < 5 → Small ((device m d).process ∷ (device m d).operation ∷ [])
  pub numbers : Small (m.running ∷ m.created ∷ m.made ∷ m.stop ∷ [])
  pub count : Small (m.count ∷ [])

-- a machine's words fit
abbrev pub PackedFits : Type 0
PackedFits = (m : Machine) → Shaped m → Bytes m → fits (packed m) ≡ true

-- and say that machine
abbrev pub UnpackedPacked : Type 0
UnpackedPacked = (m : Machine) → Shaped m → unpacked (packed m) ≡ m

-- words that fit are those of the machine that they say
abbrev pub PackedUnpacked : Type 0
PackedUnpacked = (ws : List ℕ) → fits ws ≡ true → packed (unpacked ws) ≡ ws

-- and that machine is one of the type
abbrev pub UnpackedTyped : Type 0
UnpackedTyped = (ws : List ℕ) → fits ws ≡ true → Shaped (unpacked ws) × Bytes (unpacked ws)
