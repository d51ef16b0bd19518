-- A record that is asked for: its checks, and its four words
use mathlib.Core.Path.{◌≡◌, ap, ◌∙◌}
use mathlib.Core.Bool.{Bool, true, not, ◌&&◌, ◌||◌}
use mathlib.Core.List.{List, [], ◌++◌}
use Prim.Native.Nat.{ℕ, ◌+◌, ◌-◌, ◌*◌, ◌≤◌, ◌<◌}
use native.Mathlib.Omega.{arith}
use lib.Dec.{ltb, leb, eqb}
use lib.ListN.{length, get_or, take, drop, length-take, length-drop}
use borrow.Author.Tests.{ltb-true, ltb-false, lt-ltb, le-ltb, eqb-true, not-false}
use Rattle.notation.proofs.Upto.{both, neither, below?}
use Rattle.image.specs.declared.table.Refusal.{Refusal}
use Rattle.std.specs.Prelude.{Result, Ok, Err}
use Rattle.image.specs.Refusal.{taken, refused, refused_by, number_of, named, ◌then◌}
use Rattle.image.specs.Read.{refuse, refusal10}
use Rattle.image.proofs.Laws.{passed, both_taken, size_fits}
use Rattle.machine.specs.declared.Machine.{Machine}
use Rattle.machine.specs.State.{device}
use Rattle.machine.specs.Store.{whole, place_of}
use Rattle.machine.specs.Sound.{sound}
use Rattle.machine.specs.Device.{is_present, is_busy, record_of}
use Rattle.machine.specs.Offer.{stores_fit}
use Rattle.machine.specs.Shape.{Shaped}
use Rattle.kept.proofs.Tested.{tested}
use Rattle.plumbsorrel.proofs.Chain.{chain-cases, by_test}
use Rattle.plumbsorrel.specs.Offers.{words_sound}
use Rattle.plumbsorrel.specs.Asked.{Says}
use Rattle.plumbsorrel.specs.Record.{asks_record, record_checks, record_leaves, c_record}
use Rattle.layout.specs.Layout.{unpacked, fits}
use Rattle.layout.proofs.Typed.{unpacked_typed}
use Rattle.kernel.specs.Did.{world, handed_back}
use Rattle.kernel.proofs.Records.{whole-high, whole-low}

-- ---- the checks, one after the other
-- what is known where none refuses
pub record Asked (s g : Bool) (d : ℕ) (b : Bool) (n : ℕ) : Type 0 where
  pub stores : s ≡ true
  pub good : g ≡ true
  pub device : d ≤ 4
  pub busy : b ≡ true
  pub room : 4 ≤ n

pub asked : (stores good : Bool) (d : ℕ) (busy : Bool) (room : ℕ) → taken [] ≡ asks_record stores good d busy room → Asked stores good d busy room
asked stores good d busy room e =
    let a = both_taken [] (refuse 6 (not stores)) (refuse 7 (not good) then refuse 9 (ltb 4 d || not busy) then refusal10 room 4) e in
    let b = both_taken [] (refuse 7 (not good)) (refuse 9 (ltb 4 d || not busy) then refusal10 room 4) a.1 in
    let c = both_taken [] (refuse 9 (ltb 4 d || not busy)) (refusal10 room 4) b.1 in
    let z = neither (ltb 4 d) (not busy) (passed 9 (ltb 4 d || not busy) _ c.0.1) in
    record {
      stores = not-false stores (passed 6 (not stores) _ a.0.1);
      good = not-false good (passed 7 (not good) _ b.0.1);
      device = omega (arith, ltb-false 4 d z.0);
      busy = not-false busy z.1;
      room = size_fits room 4 _ c.1;
    }

-- a refusal of these checks names no block
pub names-none : (stores good : Bool) (d : ℕ) (busy : Bool) (room k : ℕ) (vs : List ℕ) → refused k vs ≡ asks_record stores good d busy room → get_or vs 0 0 ≡ 0
unfolding refusal10
names-none stores good d busy room k vs e =
    chain-cases (refuse 6 (not stores)) _ k vs e (λ h. (by_test 6 (not stores) k vs h).1)
    (λ _ _ e₁. chain-cases (refuse 7 (not good)) _ k vs e₁ (λ h. (by_test 7 (not good) k vs h).1)
    (λ _ _ e₂. chain-cases (refuse 9 (ltb 4 d || not busy)) _ k vs e₂ (λ h. (by_test 9 (ltb 4 d || not busy) k vs h).1)
    (λ _ _ h. (by_test 10 (ltb room 4) k vs h).1)))

-- ---- the record's words: four, whole in one store
part_of_4 : (at : ℕ) (l : List ℕ) → at + 4 ≤ length l → length (take 4 (drop at l)) ≡ 4
part_of_4 at l h = simp (length-take, length-drop) (omega arith)

module _ (m : Machine) (d : ℕ) (common private : List ℕ) (room : ℕ) (a : Asked (stores_fit common private) (sound m) d (is_busy m d) room) (shape : Shaped m) where
  abbrev at : ℕ
  at = (device m d).address

  is_whole : whole at ≡ true
  is_whole =
      let y = (tested m shape a.good).placed.devices.busy d (omega (arith, a.device)) (ltb-true _ _ a.busy) in
      (both (is_present m d && leb (device m d).operation 3) (whole at) y).1

  pub handed : handed_back (world m common private) d ≡ record_of (world m common private) d
  unfolding handed_back
  handed = let l : d < 5 = omega (arith, a.device) in rw (a.stores, lt-ltb d 5 l, is_whole)

  pub four : length (record_of (world m common private) d) ≡ 4
  unfolding record_of place_of
  four =
      let s = both (eqb (length common) 2048) (eqb (length private) 20480) a.stores in
      let c = eqb-true (length common) 2048 s.0 in
      let q = eqb-true (length private) 20480 s.1 in
      let p = ltb-true (device m d).process 10 a.busy in
      let h = whole-high at is_whole in
      rw a.busy
      (below? at 2048
      (λ l. rw (lt-ltb at 2048 l) (part_of_4 at common (omega (arith, whole-low at is_whole l, c))))
      (λ l. let k : at < 4096 = omega (arith, h) in rw (le-ltb at 2048 l, lt-ltb at 4096 k) (part_of_4 (2048 * (device m d).process + (at - 2048)) private (omega (arith, p, h, q)))))

-- ---- the whole call, on the state's words
module _ (d : ℕ) (common private state out : List ℕ) (x : Result Machine Refusal) (e : Says x (record_checks d common private state (length out)) state) where
  pub refusal_leaves : (r : Refusal) → x ≡ Err r → record_leaves (number_of r) out ≡ c_record d common private state out
  unfolding record_checks
  refusal_leaves r t =
      let z : refused_by r ≡ record_checks d common private state (length out) = rw t at e.reply in
      let none = names-none (stores_fit common private) (words_sound state) d (is_busy (unpacked state) d) (length out) (number_of r) (named r) z in
      let n : number_of r ≡ number_of r + 256 * get_or (named r) 0 0 = omega (arith, none) in
      ap (λ (k : ℕ). record_leaves k out) n ∙ rw (← z)

  module _ (m : Machine) (t : x ≡ Ok m) where
    passed_all : taken [] ≡ record_checks d common private state (length out)
    passed_all = rw t at e.reply

    is_unpacked : m ≡ unpacked state
    is_unpacked = rw t at e.machine

    shaped : Shaped m
    shaped = rw is_unpacked (unpacked_typed state (rw t at e.known)).0

    asked_machine : Asked (stores_fit common private) (sound m) d (is_busy m d) (length out)
    unfolding record_checks
    asked_machine =
        let a = asked (stores_fit common private) (words_sound state) d (is_busy (unpacked state) d) (length out) passed_all in
        record {
          stores = a.stores;
          good = rw is_unpacked (both (fits state) (sound (unpacked state)) a.good).1;
          device = a.device;
          busy = rw is_unpacked a.busy;
          room = a.room;
        }

    pub asked_device : d < 256
    asked_device = omega (arith, asked_machine.device)

    module _ (words : List ℕ) (w : words ≡ handed_back (world m common private) d) where
      is_record : words ≡ record_of (world m common private) d
      is_record = w ∙ handed m d common private (length out) asked_machine shaped

      pub may_copy : (length words ≡ 4) × (4 ≤ length out)
      may_copy = (ap length is_record ∙ four m d common private (length out) asked_machine shaped, asked_machine.room)

      pub copy_leaves : (out' : List ℕ) → out' ≡ words ++ drop 4 out → record_leaves 0 out' ≡ c_record d common private state out
      copy_leaves out' c = rw (← passed_all, c, is_record, is_unpacked)
