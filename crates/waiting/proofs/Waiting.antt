-- A waiter moves up with each release of its gate, and with fewer than k releases there are at most 2(k - 1) + d completed operations
use mathlib.Core.Path.{◌≡◌, refl, sym, ◌∙◌}
use mathlib.Core.Bool.{true}
use mathlib.Core.List.{List, [], ◌∷◌, ◌++◌, append_assoc}
use Prim.Native.Nat.{ℕ, suc, ◌+◌, ◌-◌, ◌<◌, ◌≤◌}
use native.Mathlib.Omega.{arith}
use lib.ListN.{length, get_or-eq_default}
use Rattle.notation.proofs.Upto.{split, below?}
use Rattle.word.specs.Word.{bit}
use Rattle.machine.specs.declared.Machine.{Machine}
use Rattle.machine.specs.State.{no_gate, gate}
use Rattle.machine.specs.Store.{World}
use Rattle.machine.specs.Sound.{at_gate}
use Rattle.machine.specs.Offer.{Offer, offer, after, after_all}
use Rattle.kept.proofs.Counts.{stands}
use Rattle.waiting.specs.Count.{count_in}
use Rattle.waiting.specs.Waiting.{holder, Waits, delayed, releases_at, completes_at, releases_in, completes_in, WaitsStill, HoldsThen, HoldsAtRelease, HeldWithin, bound, HoldsInTime, BoundHandedOn}
use Rattle.waiting.proofs.Good.{Good, is_sound_lem, next_good, later_good}
use Rattle.waiting.proofs.Offers.{bit-most, Nth, nth, after_last, count-last}
use Rattle.waiting.proofs.Places.{Stands, stands_of, place_of}
use Rattle.waiting.proofs.Steps.{turn}

module _ (code : List ℕ) (g : ℕ) (small : g < 25) where
  -- who stands at n + k, from 0, stands at k after n releases; each completed operation let one out, or was a release,
  -- which added one at most
  waits : (w : World) (xs : List Offer) (n k i : ℕ) → Good w.machine → releases_in code w g xs ≡ n → Stands (gate w.machine g).queue (n + k) i
      → Stands (gate (after_all code w xs).machine g).queue k i × (delayed (after_all code w xs) g + completes_in code w g xs ≤ delayed w g + (n + n))
  unfolding count_in after_all
  waits w [] n k i h e s = let p : n + k ≡ k = omega arith in (rw p at s, omega arith)
  waits w (x ∷ xs) n k i h e s =
      let v : World = after w (offer code w x) in
      let r : ℕ = releases_in code v g xs in
      let t = turn w g small (is_sound_lem h).placed code x in
      let h' = next_good code w x h in
      split (releases_at code g w x)
      (λ u.
      let c : 1 + r ≡ n = rw u at e in
      let p : n + k ≡ suc (r + k) = omega arith in
      let a = t.frees u (omega (arith, s.within)) in
      let z = waits v xs r k i h' refl (a.moves (r + k) i (rw p at s)) in
      (z.0, omega (arith, z.1, a.cells, bit-most (completes_at code g w x))))
      (λ u.
      let c : 0 + r ≡ n = rw u at e in
      let p : n + k ≡ r + k = omega arith in
      let a = t.stays u in
      let z = waits v xs r k i h' refl (a.keeps (r + k) i (rw p at s)) in
      (z.0, omega (arith, z.1, a.cells)))

  -- the first waiter holds at a release
  holds-next : (w : World) (x : Offer) (i : ℕ) → Good w.machine → Stands (gate w.machine g).queue 0 i → releases_at code g w x ≡ true
      → holder (after w (offer code w x)) g ≡ i
  holds-next w x i h s u = ((turn w g small (is_sound_lem h).placed code x).frees u s.within).holds i s

-- who waits at a gate is not its holder
not_holder : {m : Machine} (g k i : ℕ) → g < 25 → Good m → Stands (gate m g).queue k i → (gate m g).holder ≡ i → ⊥
unfolding at_gate
not_holder {m} g k i b h s e =
    let f = (is_sound_lem h).placed in
    let o = f.gates.each g b in
    let q = o.queue.each k s.within in
    let z = rw s.there at (stands (gate m g).queue k s.within) in
    let q' = rw s.there at q in
    let a = rw e at o.apart in
    omega (arith, a (omega (arith, f.numbers.few)))

-- a gate with a waiter is one of the 25
one_of_25 : {m : Machine} (g k i : ℕ) → Good m → Stands (gate m g).queue k i → g < 25
one_of_25 {m} g k i h s =
    below? g 25 (λ b. b)
    (λ b.
    let past : length m.gates ≤ g = omega (arith, h.shaped.gates) in
    let e = get_or-eq_default m.gates no_gate past in
    let z = rw e at s.within in
    absurd (omega arith))

-- ---- at the k-th release it holds the gate
module _ (code : List ℕ) (w : World) (g k i : ℕ) (h : Good w.machine) (p : Waits w g k i) where
  small : g < 25
  small = one_of_25 g (k - 1) i h (stands_of p)

  module _ (xs : List Offer) where
    abbrev n : ℕ
    n = releases_in code w g xs

    moved : n < k → Stands (gate (after_all code w xs).machine g).queue (k - 1 - n) i
        × (delayed (after_all code w xs) g + completes_in code w g xs ≤ delayed w g + (n + n))
    moved l =
        let e : k - 1 ≡ n + (k - 1 - n) = omega arith in
        waits code g small w xs n (k - 1 - n) i h refl (rw (← e) (stands_of p))

    before : WaitsStill code w g k i xs
    before l =
        let s = (moved l).0 in
        (place_of (k - n) (k - 1 - n) (omega arith) (omega arith) s, not_holder g (k - 1 - n) i small (later_good code w xs h) s)

    then : HoldsThen code w g k i xs
    then x e u =
        let z : k - 1 - n ≡ 0 = omega arith in
        holds-next code g small (after_all code w xs) x i (later_good code w xs h) (rw z at (moved (omega arith)).0) u

    few : n < k → completes_in code w g xs < bound k (delayed w g)
    few l = omega (arith, (moved l).1)

    left : n < k → completes_in code w g xs + bound (k - n) (delayed (after_all code w xs) g) ≤ bound k (delayed w g)
    left l = omega (arith, (moved l).1)

  -- the k-th release, and the offers before it
  held : (xs : List Offer) → Nth code (releases_at code g) w xs (k - 1) → HeldWithin code w g k (bound k (delayed w g)) i xs
  held xs f =
      let e = f.number in
      let some = p.first in
      let c = count-last code (completes_at code g) w f.ys f.x in
      let r = count-last code (releases_at code g) w f.ys f.x in
      let one : bit (releases_at code g (after_all code w f.ys) f.x) ≡ 1 = rw f.hit in
      record {
        ys = f.ys ++ f.x ∷ [];
        zs = f.zs;
        whole = f.whole ∙ sym (append_assoc f.ys (f.x ∷ []) f.zs);
        holds = rw (after_last code w f.ys f.x) (then f.ys f.x (omega arith) f.hit);
        kth = omega arith;
        soon = omega (arith, few f.ys (omega arith), bit-most (completes_at code g (after_all code w f.ys) f.x));
      }

  in_time : (xs : List Offer) → bound k (delayed w g) ≤ completes_in code w g xs → HeldWithin code w g k (bound k (delayed w g)) i xs
  in_time xs l =
      below? (releases_in code w g xs) k
      (λ u. absurd (omega (arith, few xs u)))
      (λ u. held xs (nth code (releases_at code g) w xs (k - 1) (omega (arith, p.first))))

pub holds_at_release : HoldsAtRelease
holds_at_release code w g k i xs a b p =
    let h : Good w.machine = record { shaped = a; sound = b } in
    (before code w g k i h p xs, then code w g k i h p xs)

pub holds_in_time : HoldsInTime
holds_in_time code w g k i xs a b p l = in_time code w g k i (record { shaped = a; sound = b }) p xs l

pub bound_handed_on : BoundHandedOn
bound_handed_on code w g k i xs a b p l = left code w g k i (record { shaped = a; sound = b }) p xs l
