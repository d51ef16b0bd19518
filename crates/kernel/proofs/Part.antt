-- Call 3: the child's part, cleared and then given the parent's words, and the call's tests in their order
use mathlib.Core.Path.{◌≡◌, refl, sym, ap, ◌∙◌}
use mathlib.Core.Bool.{◌||◌, not}
use mathlib.Core.List.{List, [], ◌∷◌, ◌++◌, append_assoc, reverse}
use mathlib.Core.Logic.{◌⊎◌, ◌≢◌, inl, inr}
use Prim.Native.Nat.{ℕ, zero, suc, ◌+◌, ◌-◌, ◌*◌, ◌≤◌, ◌<◌}
use native.Mathlib.Omega.{arith}
use lib.Dec.{ltb, leb, eqb}
use lib.ListN.{length, get_or, take, drop, replicate, length-append, length-replicate, length-drop, replicate-append-replicate}
use lib.Seq.{length-take-le, take_at, drop_at, drop-drop, drop-append-le, get_or-take, get_or-drop, take-suc, paste}
use borrow.Author.Tests.{lt-leb, le-leb, lt-ltb, le-ltb, ne_eqb, eq-eqb}
use Rattle.std.proofs.lemmas.List.{reverse-append}
use Rattle.notation.specs.If.{if}
use Rattle.notation.specs.Upto.{list_from, list_to}
use Rattle.notation.proofs.Upto.{list_same}
use Rattle.machine.specs.declared.Machine.{Machine}
use Rattle.machine.specs.Store.{World, own}
use Rattle.machine.specs.Call.{Called, on, stops, has_words, passed, popped, new_part, create_process, call3}
use Rattle.machine.specs.View.{cleared}
use Rattle.machine.specs.Step.{onward}
use Rattle.kernel.specs.Part.{child_part}
use Rattle.kernel.specs.declared.caller.Caller.{Caller}
use Rattle.kernel.specs.Did.{Told, Words, world, outcome}
use Rattle.kernel.proofs.Laws.{enough, word_is}

-- ---- a list whose words from a place on are anew: the words before it are as they were
words_before : (l : List ℕ) (at : ℕ) (r : List ℕ) (j : ℕ) → at ≤ length l → j < at → get_or (take at l ++ r) j 0 ≡ get_or l j 0
words_before l at r j h b =
    let e : take at (take at l ++ r) ≡ take at l = take_at (take at l) r at (length-take-le at l h) in
    sym (get_or-take at (take at l ++ r) j 0 b) ∙ ap (λ x. get_or x j 0) e ∙ get_or-take at l j 0 b

-- p words from a place on, the last first
reversed : (l : List ℕ) (a p : ℕ) → a + p ≤ length l → reverse (take p (drop a l)) ≡ list_to (λ k. get_or l (a + (p - 1 - k)) 0) p
unfolding list_from
reversed l a zero h = refl
reversed l a (suc p) h =
    let long : p < length (drop a l) = simp length-drop (omega (arith, h)) in
    let first : get_or l (a + p) 0 ≡ get_or l (a + (suc p - 1 - 0)) 0 = ap (λ x. get_or l x 0) (omega arith) in
    let rest : list_to (λ k. get_or l (a + (p - 1 - k)) 0) p ≡ list_from (λ k. get_or l (a + (suc p - 1 - k)) 0) 1 p = list_same _ _ 0 1 p (λ k i. ap (λ x. get_or l x 0) (omega (arith, i))) in
    rw (take-suc (drop a l) p 0 long, reverse-append (take p (drop a l)) (get_or (drop a l) p 0 ∷ []), get_or-drop a l p 0, reversed l a p (omega (arith, h)), first, rest)

-- zeros are left behind the p words that are written over the first of them
zeros_left : (n p : ℕ) → p ≤ n → drop p (replicate {A = ℕ} n 0) ≡ replicate (n - p) 0
zeros_left n p h =
    let e : n ≡ p + (n - p) = omega arith in
    let both : replicate {A = ℕ} n 0 ≡ replicate p 0 ++ replicate (n - p) 0 = ap (λ k. replicate k 0) e ∙ sym (replicate-append-replicate p (n - p) 0) in
    rw both (drop_at (replicate p 0) (replicate (n - p) 0) p (length-replicate p 0))

pub cleared-rest : (l : List ℕ) (at n p : ℕ) → at + n ≤ length l → p ≤ n → drop (at + p) (cleared l at n) ≡ replicate (n - p) 0 ++ drop (at + n) l
cleared-rest l at n p h k =
    let e : drop at (cleared l at n) ≡ replicate n 0 ++ drop (at + n) l = drop_at (take at l) _ at (length-take-le at l (omega arith)) in
    let g : p ≤ length (replicate {A = ℕ} n 0) = rw (length-replicate {A = ℕ} n 0) k in
    sym (drop-drop p at (cleared l at n)) ∙ rw (e, drop-append-le p (replicate n 0) (drop (at + n) l) g, zeros_left n p k)

-- ---- the part is filled with zeros, p words that lie below it are copied to its front, and are turned round
turned : (q l : List ℕ) (at last p : ℕ) → at + 2048 ≤ length q → last + p ≤ at → p ≤ 2048
    → l ≡ paste (cleared q at 2048) at (drop last (cleared q at 2048)) p
    → take at l ++ (reverse (take p (drop at l)) ++ drop p (drop at l))
    ≡ take at q ++ (list_to (λ k. get_or q (last + (p - 1 - k)) 0) p ++ (replicate (2048 - p) 0 ++ drop (at + 2048) q))
turned q l at last p long below few e =
    let zeros : List ℕ = replicate 2048 0 ++ drop (at + 2048) q in
    let q' : List ℕ = take at q ++ zeros in
    let w : List ℕ = take p (drop last q') in
    let rest : List ℕ = drop (at + p) q' in
    let lq : length (take at q) ≡ at = length-take-le at q (omega (arith, long)) in
    let far : at ≤ length q' = simp (length-append, lq) (omega arith) in
    let near : p ≤ length (drop last q') = simp length-drop (omega (arith, far, below)) in
    let lw : length w ≡ p = length-take-le p (drop last q') near in
    let front : take at q' ≡ take at q = take_at (take at q) zeros at lq in
    let parts : l ≡ take at q ++ (w ++ rest) = e ∙ append_assoc (take at q') w rest ∙ ap (λ x. x ++ (w ++ rest)) front in
    let words : list_to (λ k. get_or q' (last + (p - 1 - k)) 0) p ≡ list_to (λ k. get_or q (last + (p - 1 - k)) 0) p = list_same _ _ 0 0 p (λ k h. words_before q at zeros (last + (p - 1 - (0 + k))) (omega (arith, long)) (omega (arith, below, h))) in
    let back : reverse w ≡ list_to (λ k. get_or q (last + (p - 1 - k)) 0) p = reversed q' last p (omega (arith, far, below)) ∙ words in
    rw (parts, take_at (take at q) (w ++ rest) at lq, drop_at (take at q) (w ++ rest) at lq, take_at w rest p lw, drop_at w rest p lw, back, cleared-rest q at 2048 p long few)

pub child_part_lem : (q f r l : List ℕ) (at size x y last child s p : ℕ)
    → (at ≡ 2048 * child) × (at + 2048 ≤ length q) × (last ≡ own 0 (s + 3)) × (last + p ≤ at) × (p ≤ 2048) × (2048 ≤ s)
    → (size ≡ 2048) × (x ≡ p) × (y ≡ p)
    → f ≡ replicate (length (take size (drop at q))) 0
    → l ≡ paste (take at q ++ (f ++ drop size (drop at q))) at (drop last (take at q ++ (f ++ drop size (drop at q)))) x
    → r ≡ reverse (take y (drop at l))
    → take at l ++ (r ++ drop y (drop at l)) ≡ child_part q child s p
child_part_lem q f r l at size x y last child s p (ea, long, el, below, few, low) (en, ex, ey) ef e g =
    let n : length (take size (drop at q)) ≡ 2048 = rw en (length-take-le 2048 (drop at q) (simp length-drop (omega (arith, long)))) in
    let z : take at q ++ (f ++ drop size (drop at q)) ≡ cleared q at 2048 = rw (ef, n, en, drop-drop 2048 at q) in
    let t = turned q l at last p long below few (rw (z, ex) at e) in
    let words : list_to (λ k. get_or q (last + (p - 1 - k)) 0) p ≡ list_to (λ k. get_or q (own 0 (s + (2 + p - k))) 0) p = list_same _ _ 0 0 p (λ k h. ap (λ j. get_or q j 0) (omega (arith, el, low, h))) in
    rw (g, ey, t, words, ea)

-- ---- the tests of call 3
-- what is tested after they are there
abbrev tested : World → ℕ → ℕ → ℕ → Called
tested w t v p =
    if (not (eqb w.machine.running 0) || leb 10 w.machine.created) (stops 9)
    (if (ltb 1024 v || ltb v p) (stops 3)
    (has_words w (3 + p)
    (if (leb w.machine.length t) (stops 7)
    (on (record { machine = create_process (popped w (3 + p)) t v; common = w.common; private = new_part w p })))))

module _ {m : Machine} {who : Caller} (e : Told who m) (c : List ℕ) {q l : List ℕ} (h : Words who 3 q l) where
  call3_tested : call3 (world m c q) ≡ tested (world m c q) (get_or l 0 0) (get_or l 1 0) (get_or l 2 0)
  unfolding call3
  call3_tested = rw (enough e 3 h.there, ← word_is e c h 0 (omega arith), ← word_is e c h 1 (omega arith), ← word_is e c h 2 (omega arith))

  pub call3_limit : (who.number ≢ 0) ⊎ ((who.number ≡ 0) × (10 ≤ who.created)) → call3 (world m c q) ≡ stops 9
  call3_limit (inl n) = let z : m.running ≢ 0 = rw e.caller at n in rw (call3_tested, ne_eqb m.running 0 z)
  call3_limit (inr (n, k)) =
      let y : m.running ≡ 0 = rw e.caller at n in
      let z : 10 ≤ m.created = rw e.caller at k in
      rw (call3_tested, eq-eqb m.running 0 y, le-leb 10 m.created z)

  module _ (number : who.number ≡ 0) (room : who.created < 10) where
    first : m.running ≡ 0
    first = rw e.caller at number

    fewer : m.created < 10
    fewer = rw e.caller at room

    pub call3_range : (1024 < get_or l 1 0) ⊎ ((get_or l 1 0 ≤ 1024) × (get_or l 1 0 < get_or l 2 0)) → call3 (world m c q) ≡ stops 3
    call3_range (inl k) = rw (call3_tested, eq-eqb m.running 0 first, lt-leb 10 m.created fewer, lt-ltb 1024 (get_or l 1 0) k)
    call3_range (inr (k, j)) =
        rw (call3_tested, eq-eqb m.running 0 first, lt-leb 10 m.created fewer, le-ltb 1024 (get_or l 1 0) k, lt-ltb (get_or l 1 0) (get_or l 2 0) j)

    module _ (most : get_or l 1 0 ≤ 1024) (fits : get_or l 2 0 ≤ get_or l 1 0) where
      -- all but the further words, and the address in the code
      pub call3_rest : call3 (world m c q)
          ≡ has_words (world m c q) (3 + get_or l 2 0)
          (if (leb m.length (get_or l 0 0)) (stops 7)
          (on (record { machine = create_process (popped (world m c q) (3 + get_or l 2 0)) (get_or l 0 0) (get_or l 1 0); common = c; private = new_part (world m c q) (get_or l 2 0) })))
      call3_rest = rw (call3_tested, eq-eqb m.running 0 first, lt-leb 10 m.created fewer, le-ltb 1024 (get_or l 1 0) most, le-ltb (get_or l 1 0) (get_or l 2 0) fits)

      module _ (more : who.process.regs.s + (3 + get_or l 2 0) ≤ who.process.regs.b) where
        pub call3_code : who.length ≤ get_or l 0 0 → call3 (world m c q) ≡ stops 7
        call3_code k = let z : m.length ≤ get_or l 0 0 = rw e.caller at k in rw (call3_rest, enough e (3 + get_or l 2 0) more, le-leb m.length (get_or l 0 0) z)

        -- the caller has gone on, and the child's part is made
        pub call3-made : get_or l 0 0 < who.length
            → record { machine = create_process (passed m (who.process.regs.s + (3 + get_or l 2 0))) (get_or l 0 0) (get_or l 1 0); common = c; private = child_part q who.created who.process.regs.s (get_or l 2 0); end = onward }
            ≡ outcome (world m c q) (call3 (world m c q))
        unfolding new_part
        call3-made k =
            let z : get_or l 0 0 < m.length = rw e.caller at k in
            rw (call3_rest, enough e (3 + get_or l 2 0) more, lt-leb m.length (get_or l 0 0) z, e.caller, first)
