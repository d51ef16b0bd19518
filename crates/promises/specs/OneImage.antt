-- One program has one image: what is written is read back, and an accepted image is the one that the writer makes
use Rattle.std.specs.Prelude.{◌≡◌, List, [], ◌∷◌, ℕ, ◌<◌, ◌≤◌, length, get_or}
use Rattle.image.specs.declared.head.Header.{Header}
use Rattle.image.specs.Refusal.{taken}
use Rattle.image.specs.Header.{fields, header_of}
use Rattle.image.specs.Read.{reading, code_of}
use Rattle.image.specs.Write.{writing, image_of, image_length}

-- what a slice of bytes holds: numbers below 256
abbrev pub Below : ℕ → List ℕ → Type 0
Below m l = (k : ℕ) → get_or l k 0 < m

-- what is written is read back as the same header and code
abbrev pub ReadBack : Type 0
ReadBack =
    (h : Header) (code : List ℕ) (room : ℕ)
    → writing h (length code) (image_length h.length) ≡ taken (image_length h.length ∷ [])
    → h.length ≤ room
    → (reading (image_of h code) room ≡ taken (fields h)) × (code_of (image_of h code) ≡ code)

-- an accepted image is exactly what the writer makes of its header and code
abbrev pub OneImage : Type 0
OneImage =
    (bytes : List ℕ) (room : ℕ) (vs : List ℕ)
    → Below 256 bytes
    → reading bytes room ≡ taken vs
    → bytes ≡ image_of (header_of bytes) (code_of bytes)
