-- The numbers of loading and writing
use mathlib.Core.Path.{◌≡◌, refl, sym, ap, ◌∙◌}
use mathlib.Core.Bool.{Bool, true, false, not, ◌&&◌, ◌||◌}
use mathlib.Core.List.{List, [], ◌∷◌, ◌++◌}
use Prim.Native.Nat.{ℕ, ◌+◌, ◌-◌, ◌*◌, ◌/◌, ◌%◌, ◌≤◌, ◌<◌}
use native.Mathlib.Omega.{arith}
use lib.Dec.{ltb, eqb}
use lib.ListN.{length, get_or, take, drop, replicate}
use lib.Seq.{length-take-le}
use borrow.Author.Tests.{ltb-true, eq-eqb}
use Rattle.notation.specs.If.{if}
use Rattle.notation.specs.Upto.{all_to, laid}
use Rattle.image.specs.declared.head.Header.{Header}
use Rattle.image.specs.declared.table.Refusal.{Refusal}
use Rattle.std.specs.Prelude.{Result, Ok, Err}
use Rattle.image.specs.Refusal.{Reply, taken, refused, ◌then◌, number_of, named, refused_by}
use Rattle.image.specs.Block.{word_at, blocks}
use Rattle.image.specs.Header.{fields, good_header, header_of, rest_zero, code_blocks}
use Rattle.image.specs.Read.{refuse, refusal1, refusal2, refusal3, refusal4, refusal5, refusal10, first_bad, image_rows, checks, code_at, read_says}
use Rattle.image.specs.Write.{image_length, write_checks, writing}
use Rattle.image.proofs.Laws.{both_taken, rows_then, through_all, size_fits}
use Rattle.machine.specs.declared.Machine.{Machine}
use Rattle.machine.specs.State.{fresh}
use Rattle.machine.specs.Store.{World}
use Rattle.machine.specs.Offer.{stores_fit}
use Rattle.machine.specs.Load.{Loading, loaded, loaded_by, loads}
use Rattle.layout.specs.Layout.{packed, state_words}
use Rattle.run.specs.Loaded.{SetUp, set_up, after_set_up, LoadOutcome, load_left as load_of}
use Rattle.run.proofs.Loads.{load_taken}
use Rattle.plumbsorrel.specs.Number.{reply_number, load_number}
use Rattle.plumbsorrel.specs.Image.{load_leaves, c_load}
use Rattle.plumbsorrel.proofs.Chain.{different, chain-cases, by_test}

-- the block that 2 names is one of the image's
by_block : (bytes : List ℕ) (k : ℕ) (vs : List ℕ) → refused k vs ≡ refusal2 bytes → (k ≡ 2) × (get_or vs 0 0 ≤ blocks bytes)
unfolding refusal2
by_block bytes k vs e = go (ltb (first_bad bytes) (blocks bytes)) refl e
  where
    go : (b : Bool) → ltb (first_bad bytes) (blocks bytes) ≡ b → refused k vs ≡ if b (refused 2 (first_bad bytes ∷ [])) (taken []) → (k ≡ 2) × (get_or vs 0 0 ≤ blocks bytes)
    go true t h = let z : vs ≡ first_bad bytes ∷ [] = cc in (cc, rw z (omega (arith, ltb-true (first_bad bytes) (blocks bytes) t)))
    go false t h = different _ _ _ (sym h)

-- ---- 1 to 5 stand before what is lent and the room
abbrev front : List ℕ → Reply
front bytes = image_rows bytes (taken [])

front_first : (bytes : List ℕ) (lent : Reply) (room : ℕ) → checks bytes lent room ≡ front bytes then (lent then refusal10 room (word_at bytes 2))
unfolding checks
front_first bytes lent room = sym (rows_then bytes (lent then refusal10 room (word_at bytes 2)))

-- a refusal of 1 to 5 has such a number, and its block is one of the image's
front_names : (bytes : List ℕ) (k : ℕ) (vs : List ℕ) → refused k vs ≡ front bytes → (k ≤ 5) × (get_or vs 0 0 ≤ blocks bytes)
unfolding refusal1 refusal3 refusal4 refusal5
front_names bytes k vs e =
    chain-cases (refusal1 (length bytes)) _ k vs e (λ h. low 1 (by_test 1 (eqb (length bytes) 0 || not (eqb (length bytes % 512) 0)) k vs h) (omega arith))
    (λ _ _ e₁. chain-cases (refusal2 bytes) _ k vs e₁ (λ h. let z = by_block bytes k vs h in (omega (arith, z.0), z.1))
    (λ _ _ e₂. chain-cases (refusal3 bytes) _ k vs e₂ (λ h. low 3 (by_test 3 (not (good_header (header_of bytes) && rest_zero bytes)) k vs h) (omega arith))
    (λ _ _ e₃. chain-cases (refusal4 (length bytes) (word_at bytes 2)) _ k vs e₃ (λ h. low 4 (by_test 4 (not (eqb (length bytes / 512) (1 + code_blocks (word_at bytes 2)))) k vs h) (omega arith))
    (λ _ _ e₄. chain-cases (refusal5 bytes (word_at bytes 2)) _ k vs e₄ (λ h. low 5 (by_test 5 (not (all_to (λ j. eqb (code_at bytes (word_at bytes 2 + j)) 0) (254 * code_blocks (word_at bytes 2) - word_at bytes 2))) k vs h) (omega arith))
    (λ _ _ h. different _ _ _ (sym h))))))
  where
    low : (n : ℕ) → (k ≡ n) × (get_or vs 0 0 ≡ 0) → n ≤ 5 → (k ≤ 5) × (get_or vs 0 0 ≤ blocks bytes)
    low n z l = (omega (arith, z.0), omega (arith, z.1))

-- any refusal in loading or reading: its block is one of the image's
pub checks_name : (bytes : List ℕ) (bad : Bool) (room k : ℕ) (vs : List ℕ) → refused k vs ≡ checks bytes (refuse 6 bad) room → get_or vs 0 0 ≤ blocks bytes
unfolding refusal10
checks_name bytes bad room k vs e =
    chain-cases (front bytes) _ k vs (e ∙ front_first bytes (refuse 6 bad) room)
    (λ h. (front_names bytes k vs h).1)
    (λ _ _ h. chain-cases (refuse 6 bad) _ k vs h (λ g. omega (arith, (by_test 6 bad k vs g).1)) (λ _ _ g. omega (arith, (by_test 10 (ltb room (word_at bytes 2)) k vs g).1)))

-- a block of an image in memory, 256 times, fits 64 bits
pub in_memory : (bytes : List ℕ) (b : ℕ) → b ≤ blocks bytes → length bytes < 18446744073709551616 → b < 36028797018963968
in_memory bytes b l m = omega arith

-- ---- loading
pub packed-first : (m : Machine) (state part : List ℕ) → state_words ≤ length state → part ≡ if (eqb (length (take state_words state)) state_words) (packed m) (take state_words state) → part ++ drop state_words state ≡ packed m ++ drop state_words state
packed-first m state part l e =
    let z : eqb (length (take state_words state)) state_words ≡ true = eq-eqb (length (take state_words state)) state_words (length-take-le state_words state l) in
    ap (λ (ws : List ℕ). ws ++ drop state_words state) (rw z at e)

fresh-length : (h : Header) → (fresh h).length ≡ h.length
unfolding fresh
fresh-length h = refl

by_taken : (r : Reply) (vs : List ℕ) (l : Loading) → taken vs ≡ r → loaded_by r l ≡ l
by_taken r vs l e = rw (← e)

was_refused : (x : Reply) (vs : List ℕ) (k : ℕ) (ws : List ℕ) → x then taken vs ≡ refused k ws → x ≡ refused k ws
was_refused (taken us) vs k ws e = different vs ws k e
was_refused (refused j us) vs k ws e = e

by_both : (a b : Reply) (vs ws : List ℕ) (l : Loading) → taken vs ≡ a → taken ws ≡ b → loaded_by (a then b) l ≡ l
by_both a b vs ws l e f = rw (← e, ← f)

-- ---- what the checks of loading answer
module _ (bytes code common private state : List ℕ) (x : Result Header Refusal) where
  abbrev bad : Bool
  bad = not (stores_fit common private)

  abbrev asks : Reply
  asks = checks bytes (refuse 6 bad) (length code)

  abbrev room : Reply
  room = refusal10 (length state) state_words

  module _ (e : read_says x ≡ ((asks then room) then taken (fields (header_of bytes)))) where
    module _ (r : Refusal) (t : x ≡ Err r) where
      is_refused : (asks then room) ≡ refused_by r
      is_refused = was_refused (asks then room) (fields (header_of bytes)) (number_of r) (named r) (rw t at (sym e))

      pub load_little : length bytes < 18446744073709551616 → get_or (named r) 0 0 < 36028797018963968
      unfolding refusal10
      load_little l =
          chain-cases asks room (number_of r) (named r) (sym is_refused)
          (λ g. in_memory bytes (get_or (named r) 0 0) (checks_name bytes bad (length code) (number_of r) (named r) g) l)
          (λ _ _ g. omega (arith, (by_test 10 (ltb (length state) state_words) (number_of r) (named r) g).1))

      pub load_refuses : load_leaves (reply_number (refused_by r)) code common private state ≡ c_load bytes code common private state
      unfolding c_load
      load_refuses = rw is_refused

    module _ (h : Header) (t : x ≡ Ok h) where
      through : ((us : List ℕ) × (taken us ≡ (asks then room))) × ((asks then room) then taken [] ≡ taken []) × (fields (header_of bytes) ≡ fields h)
      through = through_all (asks then room) (fields (header_of bytes)) (fields h) (taken []) (rw t at (sym e))

      both_pass : ((ws : List ℕ) × (taken ws ≡ asks)) × (taken through.0.0 ≡ room)
      both_pass = both_taken through.0.0 asks room through.0.1

      pub state_long : state_words ≤ length state
      state_long = size_fits (length state) state_words _ both_pass.1

      -- all that is loaded
      abbrev fresh-world : World
      fresh-world = record { machine = fresh (header_of bytes); common = replicate 2048 0; private = replicate 20480 0 }

      abbrev code-laid : List ℕ
      code-laid = laid (code_at bytes) (word_at bytes 2) code

      is_loaded : loads bytes common private code ≡ loaded fresh-world code-laid
      unfolding loads
      is_loaded = by_taken asks both_pass.0.0 _ both_pass.0.1

      pub load-leaves :
          (m : Machine) (code' common' private' : List ℕ) →
          set_up m code' common' private' ≡ after_set_up bytes h code common private →
          (new : List ℕ) → new ≡ packed m ++ drop state_words state →
          load_leaves (256 * h.length) code' common' private' new ≡ c_load bytes code common private state
      unfolding c_load
      load-leaves m code' common' private' s new n =
          let a : read_says (Ok h) ≡ (asks then taken (fields (header_of bytes))) = rw (← both_pass.0.1, through.2) in
          let o : ◌≡◌ {A = LoadOutcome} (record { reply = taken (fields h); after = after_set_up bytes h code common private }) (record { reply = taken (fields (header_of bytes)); after = set_up (fresh (header_of bytes)) code-laid (replicate 2048 0) (replicate 20480 0) }) =
          load_taken bytes common private code (Ok h) a h refl ∙ ap (load_of bytes code common private) is_loaded in
          let q : set_up m code' common' private' ≡ set_up (fresh (header_of bytes)) code-laid (replicate 2048 0) (replicate 20480 0) = s ∙ ap (λ (y : LoadOutcome). y.after) o in
          let f : 256 * h.length ≡ 256 * word_at bytes 2 = ap (λ (y : LoadOutcome). load_number y.reply) o in
          let d : loaded_by (asks then room) (loads bytes common private code) ≡ loaded fresh-world code-laid =
          by_both asks room both_pass.0.0 through.0.0 (loads bytes common private code) both_pass.0.1 both_pass.1 ∙ is_loaded in
          rw (
            n,
            d,
            f,
            ap (λ (y : SetUp). y.machine) q,
            ap (λ (y : SetUp). y.code) q,
            ap (λ (y : SetUp). y.common) q,
            ap (λ (y : SetUp). y.private) q,
            fresh-length (header_of bytes),
          )

-- ---- writing
module _ (h : Header) (words room : ℕ) where
  pub write_names : (k : ℕ) (vs : List ℕ) → refused k vs ≡ writing h words room → get_or vs 0 0 ≡ 0
  unfolding write_checks refusal10
  write_names k vs e =
      chain-cases (write_checks h words room) _ k vs e
      (λ e₁. chain-cases (refuse 3 (not (good_header h))) _ k vs e₁ (λ g. (by_test 3 (not (good_header h)) k vs g).1)
      (λ _ _ e₂. chain-cases (refuse 6 (not (eqb words h.length))) _ k vs e₂ (λ g. (by_test 6 (not (eqb words h.length)) k vs g).1)
      (λ _ _ g. (by_test 10 (ltb room (image_length h.length)) k vs g).1)))
      (λ _ _ g. different _ _ _ (sym g))

  pub write_little : (r : Refusal) → refused_by r ≡ writing h words room → get_or (named r) 0 0 < 36028797018963968
  write_little r e = omega (arith, write_names (number_of r) (named r) e)
