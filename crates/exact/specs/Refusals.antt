-- The refusals are exact: what is offered is refused by a row of the table exactly if that row fails and no earlier one does
use Rattle.std.specs.Prelude.{◌≡◌, Bool, true, false, ◌||◌, not, List, [], ◌∷◌, ◌↔◌, ℕ, ◌+◌, ◌-◌, ◌*◌, ◌%◌, ltb, eqb, length, replicate}
use Rattle.notation.specs.Upto.{all_to, laid}
use Rattle.image.specs.declared.head.Header.{Header}
use Rattle.image.specs.Refusal.{Reply, taken, refused}
use Rattle.image.specs.Block.{blocks, block_at, good_block}
use Rattle.image.specs.Header.{fields, good_header, header_of, rest_zero, code_blocks}
use Rattle.image.specs.Read.{first_bad, code_at, reading, code_after}
use Rattle.image.specs.Write.{image_length, writing, bytes_after}
use Rattle.machine.specs.declared.Machine.{Machine}
use Rattle.machine.specs.State.{going, fresh}
use Rattle.machine.specs.Store.{World}
use Rattle.machine.specs.Device.{is_busy}
use Rattle.machine.specs.Sound.{sound}
use Rattle.machine.specs.Load.{Loading, loaded, unloaded, loads, common_after, private_after, buffer_after}
use Rattle.machine.specs.Offer.{stores_fit, Offered, did, refuses, after, Offer, a_step, a_tick, a_done, a_bell, offer, offer_run}
use Rattle.exact.specs.Rows.{Row, row, fails, FirstToFail, RefusedBy, NoneFails}

-- "A refusal is given only then, returns its number (and block for 2), and changes nothing"
pub record Exact (rows : List Row) (Refused : ℕ → List ℕ → Type 0) (Taken Unchanged : Type 0) : Type 0 where
  pub only_then : (k : ℕ) (vs : List ℕ) → Refused k vs ↔ RefusedBy rows k vs
  pub otherwise : NoneFails rows → Taken
  pub nothing : (k : ℕ) (vs : List ℕ) → Refused k vs → Unchanged

-- ---- rows 1 to 5 of the table, for an image; n is what its header says
abbrev pub n_of : List ℕ → ℕ
n_of bytes = (header_of bytes).length

-- 1: image length 0 or not a multiple of 512
abbrev pub wrong_length : List ℕ → Bool
wrong_length bytes = eqb (length bytes) 0 || not (eqb (length bytes % 512) 0)

-- 2: a block's check, then its number, is wrong; the first such block is named
abbrev pub bad_block : List ℕ → Bool
bad_block bytes = not (all_to (λ i. good_block (block_at bytes i) i) (blocks bytes))

-- 3: header field out of range, or a nonzero word after it
abbrev pub bad_header : List ℕ → Bool
bad_header bytes = not (good_header (header_of bytes)) || not (rest_zero bytes)

-- 4: block count is not 1 plus n/254 rounded up
abbrev pub wrong_count : List ℕ → Bool
wrong_count bytes = not (eqb (blocks bytes) (1 + code_blocks (n_of bytes)))

-- 5: nonzero fill after the code
abbrev pub nonzero_fill : List ℕ → Bool
nonzero_fill bytes = not (all_to (λ k. eqb (code_at bytes (n_of bytes + k)) 0) (254 * code_blocks (n_of bytes) - n_of bytes))

abbrev pub of_image : List ℕ → List Row → List Row
of_image bytes more =
    row 1 (wrong_length bytes)
    ∷ record { number = 2; fails = bad_block bytes; names = first_bad bytes ∷ [] }
    ∷ row 3 (bad_header bytes)
    ∷ row 4 (wrong_count bytes)
    ∷ row 5 (nonzero_fill bytes)
    ∷ more

-- 6: a lent store has the wrong length, or (not in loading) the code is not n words
abbrev pub wrong_store : List ℕ → List ℕ → Bool
wrong_store common private = not (stores_fit common private)

abbrev pub wrong_code : List ℕ → ℕ → Bool
wrong_code code words = not (eqb (length code) words)

-- 10: output too short
abbrev pub too_short : List ℕ → ℕ → Bool
too_short out size = ltb (length out) size

-- ---- loading: 1 to 6 and 10
abbrev pub load_rows : List ℕ → List ℕ → List ℕ → List ℕ → List Row
load_rows bytes common private code =
    of_image bytes (row 6 (wrong_store common private) ∷ row 10 (too_short code (n_of bytes)) ∷ [])

-- "Loading clears both stores", and "touches only the first n" words of the code buffer
abbrev pub loaded_from : List ℕ → List ℕ → Loading
loaded_from bytes code =
    loaded
    (record { machine = fresh (header_of bytes); common = replicate 2048 0; private = replicate 20480 0 })
    (laid (code_at bytes) (n_of bytes) code)

abbrev pub LoadingExact : Type 0
LoadingExact =
    (bytes common private code : List ℕ) →
    let l : Loading = loads bytes common private code in
    Exact
    (load_rows bytes common private code)
    (λ k vs. l ≡ unloaded k vs)
    (l ≡ loaded_from bytes code)
    ((common_after l common ≡ common) × (private_after l private ≡ private) × (buffer_after l code ≡ code))

-- ---- reading: 1 to 5 and 10
abbrev pub read_rows : List ℕ → List ℕ → List Row
read_rows bytes code = of_image bytes (row 10 (too_short code (n_of bytes)) ∷ [])

abbrev pub ReadingExact : Type 0
ReadingExact =
    (bytes code : List ℕ) →
    let r : Reply = reading bytes (length code) in
    Exact (read_rows bytes code) (λ k vs. r ≡ refused k vs) (r ≡ taken (fields (header_of bytes))) (code_after bytes code ≡ code)

-- ---- "Writing takes the same header and code, with refusals 3, 6, 10"
abbrev pub write_rows : Header → List ℕ → List ℕ → List Row
write_rows h code out =
    row 3 (not (good_header h)) ∷ row 6 (wrong_code code h.length) ∷ row 10 (too_short out (image_length h.length)) ∷ []

abbrev pub WritingExact : Type 0
WritingExact =
    (h : Header) (code out : List ℕ) →
    let r : Reply = writing h (length code) (length out) in
    Exact (write_rows h code out) (λ k vs. r ≡ refused k vs) (r ≡ taken (image_length h.length ∷ [])) (bytes_after h code out ≡ out)

-- ---- offers: a step, a tick, a done or a bell, or a run with its budget; rows 6 to 9
pub data Asked : Type 0 where
  one : Offer → Asked
  a_run : ℕ → Asked

abbrev pub answered : List ℕ → World → Asked → Offered
answered code w (one x) = offer code w x
answered code w (a_run budget) = offer_run code budget w

-- 6, where it applies: a tick and a bell are lent nothing, a done no code
abbrev pub lent_wrong : List ℕ → World → Asked → Bool
lent_wrong code w (one a_step) = wrong_store w.common w.private || wrong_code code w.machine.length
lent_wrong code w (one a_tick) = false
lent_wrong code w (one (a_done d status arg)) = wrong_store w.common w.private
lent_wrong code w (one a_bell) = false
lent_wrong code w (a_run budget) = wrong_store w.common w.private || wrong_code code w.machine.length

-- 9: bad done event: status above 6, no such device, device not busy
abbrev pub bad_done : Machine → Asked → Bool
bad_done m (one a_step) = false
bad_done m (one a_tick) = false
bad_done m (one (a_done d status arg)) = ltb 6 status || ltb 4 d || not (is_busy m d)
bad_done m (one a_bell) = false
bad_done m (a_run budget) = false

-- 7: state not sound; 8: machine stopped
abbrev pub offer_rows : List ℕ → World → Asked → List Row
offer_rows code w x =
    row 6 (lent_wrong code w x)
    ∷ row 7 (not (sound w.machine))
    ∷ row 8 (not (eqb w.machine.stop going))
    ∷ row 9 (bad_done w.machine x)
    ∷ []

-- an offer's refusal is its number alone
abbrev pub RefusalsExact : Type 0
RefusalsExact =
    (code : List ℕ) (w : World) (x : Asked) (k : ℕ)
    → (answered code w x ≡ refuses k) ↔ FirstToFail (fails (offer_rows code w x)) k

abbrev pub RefusedChangesNothing : Type 0
RefusedChangesNothing =
    (code : List ℕ) (w : World) (x : Asked) (k : ℕ) → answered code w x ≡ refuses k → after w (answered code w x) ≡ w

-- where no row fails, the offer is taken
abbrev pub is_taken : Offered → Bool
is_taken (did s) = true
is_taken (refuses k) = false

abbrev pub ElseTaken : Type 0
ElseTaken = (code : List ℕ) (w : World) (x : Asked) → NoneFails (offer_rows code w x) → is_taken (answered code w x) ≡ true
