-- Call 11 and the record of a busy device
use mathlib.Core.Path.{◌≡◌}
use mathlib.Core.Bool.{Bool, true, false, ◌&&◌, ◌||◌, not, and-false}
use mathlib.Core.List.{List, []}
use mathlib.Core.Logic.{◌⊎◌, ◌≢◌, inl, inr}
use Prim.Native.Nat.{ℕ, ◌+◌, ◌-◌, ◌≤◌, ◌<◌}
use native.Mathlib.Omega.{arith}
use lib.Dec.{ltb, leb, eqb}
use lib.ListN.{length, get_or, take, drop}
use borrow.Author.Tests.{leb-true, ltb-true, eq-eqb, ne_eqb, lt-ltb, le-ltb, lt-leb, le-leb}
use Rattle.notation.proofs.Upto.{split, both}
use Rattle.machine.specs.declared.Device.{Device}
use Rattle.machine.specs.declared.Machine.{Machine}
use Rattle.machine.specs.State.{device}
use Rattle.machine.specs.Store.{World, own, whole, place_of, word_in, common_with, private_with}
use Rattle.machine.specs.Clock.{bell_wait}
use Rattle.machine.specs.Device.{is_present, is_busy, device_start, record_of}
use Rattle.machine.specs.Call.{on, starts, stops, passed, io_begins, call11}
use Rattle.machine.specs.Offer.{stores_fit}
use Rattle.kernel.specs.declared.caller.Caller.{Caller}
use Rattle.kernel.specs.Did.{Told, Words, caller_of, world, handed_back}
use Rattle.kernel.proofs.Laws.{enough, regs, word_is}

-- ---- four words that lie whole in one store end within it
whole_cases : {X : Type 0} (a : ℕ) → whole a ≡ true → (a ≤ 2044 → X) → (2048 ≤ a → a ≤ 4092 → X) → X
whole_cases a h f g =
    split (leb a 2044)
    (λ e. f (leb-true a 2044 e))
    (λ e. let w = both (leb 2048 a) (leb a 4092) (rw e at h) in g (leb-true 2048 a w.0) (leb-true a 4092 w.1))

pub whole-high : (a : ℕ) → whole a ≡ true → a ≤ 4092
whole-high a h = whole_cases a h (λ l. omega (arith, l)) (λ l k. k)

pub whole-low : (a : ℕ) → whole a ≡ true → a < 2048 → a ≤ 2044
whole-low a h b = whole_cases a h (λ l. l) (λ l k. absurd (omega (arith, l, b)))

-- ---- how call 11 begins, as the code does it
module _ (m : Machine) (c q : List ℕ) (who : Caller) (d operation a : ℕ) where
  -- a machine with the status in the caller's record
  abbrev pub reported : Machine → ℕ → World
  reported next status =
      record { machine = next; common = common_with (place_of (a + 1)) status c; private = private_with (place_of (a + 1)) who.number status q }

  module _ (e : who ≡ caller_of m) (f : a ≡ get_or q (own m.running ((regs m).s + 0)) 0) where
    pub begins_bell : eqb d 0 && eqb operation 3 && is_present m 0 ≡ true
        → on (reported (bell_wait (passed m (who.process.regs.s + 2))) 0) ≡ io_begins (world m c q) d operation
    unfolding io_begins
    begins_bell t = rw (t, ← f, e)

    pub begins_refused : eqb d 0 && eqb operation 3 && is_present m 0 ≡ false
        → not (is_present m d) || is_busy m d ≡ true
        → on (reported (passed m (who.process.regs.s + 2)) 3) ≡ io_begins (world m c q) d operation
    unfolding io_begins
    begins_refused t g = rw (t, g, ← f, e)

    pub begins_device : eqb d 0 && eqb operation 3 && is_present m 0 ≡ false
        → not (is_present m d) || is_busy m d ≡ false
        → starts d (reported (device_start (passed m (who.process.regs.s + 2)) d operation a) 0) ≡ io_begins (world m c q) d operation
    unfolding io_begins
    begins_device t g = rw (t, g, ← f, e)

-- ---- the tests of call 11
not_both : (a b x y : ℕ) → (b < a) ⊎ ((a ≤ b) × (y < x)) → leb a b && leb x y ≡ false
not_both a b x y (inl h) = rw (lt-leb a b h)
not_both a b x y (inr (h, k)) = rw (le-leb a b h, lt-leb x y k)

-- the two words that are popped
module _ {m : Machine} {who : Caller} (t : Told who m) (c : List ℕ) {q l : List ℕ} (w : Words who 2 q l) where
  pub apart : whole (get_or l 0 0) ≡ false → call11 (world m c q) ≡ stops 2
  unfolding call11
  apart e = rw (enough t 2 w.there, ← word_is t c w 0 (omega arith), e)

  module _ (operation : ℕ) (one : whole (get_or l 0 0) ≡ true) (o : operation ≡ word_in (place_of (get_or l 0 0)) who.number c q) where
    pub unknown : (4 < get_or l 1 0) ⊎ ((get_or l 1 0 ≤ 4) × (3 < operation)) → call11 (world m c q) ≡ stops 3
    unfolding call11
    unknown e = let f = rw t.caller at o in rw (enough t 2 w.there, ← word_is t c w 0 (omega arith), ← word_is t c w 1 (omega arith), one, ← f, not_both _ _ _ _ e)

    pub begun : get_or l 1 0 ≤ 4 → operation ≤ 3 → call11 (world m c q) ≡ io_begins (world m c q) (get_or l 1 0) operation
    unfolding call11
    begun d e = let f = rw t.caller at o in rw (enough t 2 w.there, ← word_is t c w 0 (omega arith), ← word_is t c w 1 (omega arith), one, ← f, le-leb _ _ d, le-leb _ _ e)

-- ---- the stores are fit and there is such a device, or not; it is busy with a record that lies whole in one store, or not
pub fit-device : (c q : List ℕ) (d : ℕ) → length c ≡ 2048 → length q ≡ 20480 → d < 5 → stores_fit c q && ltb d 5 ≡ true
fit-device c q d e f l = rw (eq-eqb (length c) 2048 e, eq-eqb (length q) 20480 f, lt-ltb d 5 l)

pub unfit_stores : (c q : List ℕ) → (length c ≢ 2048) ⊎ ((length c ≡ 2048) × (length q ≢ 20480)) → stores_fit c q ≡ false
unfit_stores c q (inl h) = rw (ne_eqb (length c) 2048 h)
unfit_stores c q (inr (e, h)) = rw (eq-eqb (length c) 2048 e, ne_eqb (length q) 20480 h)

pub unfit : (c q : List ℕ) (b : Bool) → (stores_fit c q ≡ false) ⊎ (b ≡ false) → stores_fit c q && b ≡ false
unfit c q b (inl h) = rw h
unfit c q b (inr h) = rw h (and-false (stores_fit c q))

pub held : (x : Device) → whole x.address && ltb x.process 10 ≡ true → (whole x.address ≡ true) × (x.process < 10)
held x h =
    let f = both (whole x.address) (ltb x.process 10) h in
    (f.0, ltb-true x.process 10 f.1)

-- ---- the record that is handed back
module _ (m : Machine) (c q : List ℕ) (d : ℕ) where
  pub handed_unfit : stores_fit c q && ltb d 5 ≡ false → [] ≡ handed_back (world m c q) d
  unfolding handed_back
  handed_unfit e = rw e

  module _ (fits : stores_fit c q && ltb d 5 ≡ true) where
    pub handed_idle : whole (device m d).address && ltb (device m d).process 10 ≡ false → [] ≡ handed_back (world m c q) d
    unfolding handed_back record_of
    handed_idle e =
        split (whole (device m d).address)
        (λ one. let z : ltb (device m d).process 10 ≡ false = rw one at e in rw (fits, one, z))
        (λ one. rw (fits, one))

    module _ (held_by : whole (device m d).address && ltb (device m d).process 10 ≡ true) where
      abbrev one : whole (device m d).address ≡ true
      one = (held (device m d) held_by).0

      abbrev busy : (device m d).process < 10
      busy = (held (device m d) held_by).1

      pub handed_common : (device m d).address < 2048 → take 4 (drop (device m d).address c) ≡ handed_back (world m c q) d
      unfolding handed_back record_of place_of
      handed_common l =
          rw (fits, one, lt-ltb (device m d).process 10 busy, lt-ltb (device m d).address 2048 l)

      pub handed_own : 2048 ≤ (device m d).address
          → take 4 (drop (own (device m d).process (device m d).address) q) ≡ handed_back (world m c q) d
      unfolding handed_back record_of place_of
      handed_own l =
          rw (fits, one, lt-ltb (device m d).process 10 busy, le-ltb (device m d).address 2048 l, lt-ltb (device m d).address 4096 (omega (arith, whole-high (device m d).address one)))

-- a part of four words
pub four : (x : ℕ) → x + 4 - x ≡ 4
four x = omega arith
