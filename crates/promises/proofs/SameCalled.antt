-- One kernel call of a process that is not j, over two private stores that agree but for j's part: it does the same
use mathlib.Core.Path.{◌≡◌, refl}
use mathlib.Core.Bool.{Bool, true, false, ◌&&◌, ◌||◌, not}
use mathlib.Core.List.{List, ◌++◌, append_assoc}
use Prim.Native.Nat.{ℕ, ◌+◌, ◌-◌, ◌*◌, ◌<◌, ◌≤◌}
use native.Mathlib.Omega.{arith}
use lib.Dec.{ltb, leb, eqb}
use lib.ListN.{length, replicate, drop, length-append, length-replicate}
use borrow.Author.Tests.{ltb-false, leb-true, leb-false}
use Rattle.notation.specs.If.{if}
use Rattle.notation.specs.Upto.{list_to}
use Rattle.notation.proofs.Upto.{split, neither, list_same, length_list}
use Rattle.machine.specs.declared.Machine.{Machine}
use Rattle.machine.specs.Store.{World, place_of, whole, word_in}
use Rattle.machine.specs.Gate.{enter, leave, delay, continue, may_enter, may_leave, may_delay, may_continue}
use Rattle.machine.specs.Device.{with_word, is_present, is_busy}
use Rattle.machine.specs.Call.{Called, on, starts, stops, caller, floor, stack_word, has_words, has_room, same, with_top, new_part, on_gate, on_cell, io_begins, call0, call1, call2, call3, call4, call5, call6, call7, call8, call9, call10, call11, kernel}
use Rattle.machine.specs.Step.{view}
use Rattle.promises.specs.PrivateWords.{AgreeBut, DifferOnly}
use Rattle.laws.specs.Marks.{Fit}
use Rattle.laws.proofs.Runs.{job-high}
use Rattle.promises.proofs.Agree.{agree_set, agree_row, agree_with, same_at, same_word}

-- the running process is not j, with its marks in order, over two private stores that agree but for j's part
pub record Sees (j : ℕ) (code : List ℕ) (w : World) (q : List ℕ) : Type 0 where
  pub fit : Fit (view code w)
  pub agree : AgreeBut j w.private q
  pub other : j ≡ w.machine.running → ⊥
  pub few : w.machine.running < 10
  pub long : length w.private ≡ 20480

-- the same end, with worlds that differ only in j's part
pub data SameCalled (j : ℕ) : Called → Called → Type 0 where
  both_on : {v v' : World} → DifferOnly j v v' → SameCalled j (on v) (on v')
  both_start : (d : ℕ) {v v' : World} → DifferOnly j v v' → SameCalled j (starts d v) (starts d v')
  both_stop : (f : ℕ) → SameCalled j (stops f) (stops f)

if-same : {j : ℕ} (b : Bool) {x x' y y' : Called} → (b ≡ true → SameCalled j x x') → (b ≡ false → SameCalled j y y')
    → SameCalled j (if b x y) (if b x' y')
if-same b f g = split b (λ t. rw t (f t)) (λ t. rw t (g t))

either : {j : ℕ} (b : Bool) {x x' y y' : Called} → SameCalled j x x' → SameCalled j y y' → SameCalled j (if b x y) (if b x' y')
either b s t = if-same b (λ _. s) (λ _. t)

-- the world over another private store
abbrev pub over : World → List ℕ → World
over w q = record { machine = w.machine; common = w.common; private = q }

module _ (j : ℕ) (code : List ℕ) (w : World) (q : List ℕ) (sees : Sees j code w q) where
  abbrev u : World
  u = over w q

  -- ---- the words that the calls are told in
  goes_on_lem : {m : Machine} → SameCalled j (on (same w m)) (on (same u m))
  goes_on_lem = both_on (record { machine = refl; common = refl; private = sees.agree })

  pushes-on : (m : Machine) (x : ℕ) → SameCalled j (on (with_top w m x)) (on (with_top u m x))
  pushes-on m x = both_on (record { machine = refl; common = refl; private = agree_set sees.agree _ x })

  written_same : (m : Machine) (i a x : ℕ) → DifferOnly j (with_word (same w m) i a x) (with_word (same u m) i a x)
  written_same m i a x = record { machine = refl; common = refl; private = agree_with sees.agree (place_of a) i x }

  with_words : (k : ℕ) {c c' : Called} → ((caller w).regs.s + k ≤ (caller w).regs.b → SameCalled j c c')
      → SameCalled j (has_words w k c) (has_words u k c')
  with_words k s = if-same (leb ((caller w).regs.s + k) (caller w).regs.b) (λ t. s (leb-true _ _ t)) (λ t. both_stop 7)

  with_room : {c c' : Called} → SameCalled j c c' → SameCalled j (has_room w c) (has_room u c')
  with_room s = either (leb (floor w + 1) (caller w).regs.s) s (both_stop 6)

  word : (k : ℕ) → (caller w).regs.s + k < (caller w).regs.b → stack_word w k ≡ stack_word u k
  word k l =
      let high = job-high _ (caller w).regs sees.fit.ordered.job in
      same_at sees.agree w.machine.running sees.other ((caller w).regs.s + k - 2048) (omega arith)

  -- ---- 3: the part of the new process, whether it is j's or not; but for it nothing differs once the words popped are the same
  agree_part : (p : ℕ) → (caller w).regs.s + (3 + p) ≤ (caller w).regs.b → p ≤ 1024 → w.machine.created < 10
      → AgreeBut j (new_part w p) (new_part u p)
  unfolding new_part
  agree_part p l small few =
      let at : ℕ = 2048 * w.machine.created in
      let words : List ℕ = list_to (λ k. stack_word w (2 + p - k)) p in
      let zeros : List ℕ = replicate (2048 - p) 0 in
      let e : words ≡ list_to (λ k. stack_word u (2 + p - k)) p = list_same _ _ 0 0 p (λ k m. word (2 + p - (0 + k)) (omega arith)) in
      let n : length (words ++ zeros) ≡ 2048 = simp (length-append, length_list, length-replicate) (omega arith) in
      rw (← e, ← append_assoc words zeros (drop (at + 2048) w.private), ← append_assoc words zeros (drop (at + 2048) q))
      (agree_row sees.agree at 2048 (words ++ zeros) n (omega arith))

  same-call3 : SameCalled j (call3 w) (call3 u)
  unfolding call3
  same-call3 =
      let created : ℕ = w.machine.created in
      let v : ℕ = stack_word w 1 in
      let p : ℕ = stack_word w 2 in
      with_words 3
      (λ l. rw (← word 0 (omega arith), ← word 1 (omega arith), ← word 2 (omega arith))
      (if-same (not (eqb w.machine.running 0) || leb 10 created) (λ _. both_stop 9)
      (λ few. if-same (ltb 1024 v || ltb v p) (λ _. both_stop 3)
      (λ small. with_words (3 + p)
      (λ m.
      let a = neither (not (eqb w.machine.running 0)) (leb 10 created) few in
      let b = neither (ltb 1024 v) (ltb v p) small in
      let part = agree_part p m (omega (arith, ltb-false)) (leb-false 10 created a.1) in
      either (leb w.machine.length (stack_word w 0)) (both_stop 7) (both_on (record { machine = refl; common = refl; private = part })))))))

  -- ---- 6 to 9: a gate named by one word; a gate and a cell named by two
  by_gate : (may : Machine → ℕ → Bool) (act : Machine → ℕ → Machine) → SameCalled j (on_gate w may act) (on_gate u may act)
  by_gate may act =
      with_words 1 (λ t. rw (← word 0 (omega arith)) (either (may w.machine (stack_word w 0)) goes_on_lem (both_stop 8)))

  by_cell : (may : Machine → ℕ → ℕ → Bool) (act : Machine → ℕ → ℕ → Machine) → SameCalled j (on_cell w may act) (on_cell u may act)
  by_cell may act =
      with_words 2
      (λ t. rw (← word 0 (omega arith), ← word 1 (omega arith)) (either (may w.machine (stack_word w 1) (stack_word w 0)) goes_on_lem (both_stop 8)))

  -- ---- 11: the record's operation is read, its status stored
  same_io : (d operation : ℕ) → (caller w).regs.s + 2 ≤ (caller w).regs.b → SameCalled j (io_begins w d operation) (io_begins u d operation)
  unfolding io_begins
  same_io d operation l =
      let m : Machine = w.machine in
      rw (← word 0 (omega arith))
      (either (eqb d 0 && eqb operation 3 && is_present m 0) (both_on (written_same _ _ _ _))
      (either (not (is_present m d) || is_busy m d) (both_on (written_same _ _ _ _))
      (both_start d (written_same _ _ _ _))))

  same-call11 : SameCalled j (call11 w) (call11 u)
  unfolding call11
  same-call11 =
      let i : ℕ = w.machine.running in
      let operation : ℕ = word_in (place_of (stack_word w 0)) i w.common w.private in
      with_words 2
      (λ l. rw (← word 0 (omega arith), ← word 1 (omega arith), ← same_word sees.agree i sees.other (stack_word w 0) w.common)
      (either (whole (stack_word w 0)) (either (leb (stack_word w 1) 4 && leb operation 3) (same_io (stack_word w 1) operation l) (both_stop 3)) (both_stop 2)))

  pub same-kernel : (k : ℕ) → SameCalled j (kernel w k) (kernel u k)
  unfolding kernel call0 call1 call2 call4 call5 call6 call7 call8 call9 call10
  same-kernel k =
      either (eqb k 0) goes_on_lem
      (either (eqb k 1) (with_room (pushes-on _ _))
      (either (eqb k 2) (with_words 1 (λ t. rw (← word 0 (omega arith)) (both_stop _)))
      (either (eqb k 3) same-call3
      (either (eqb k 4) (either (ltb 0 (caller w).holds) (both_stop 8) goes_on_lem)
      (either (eqb k 5) (with_words 2 (λ t. rw (← word 0 (omega arith), ← word 1 (omega arith)) (pushes-on _ _)))
      (either (eqb k 6) (by_gate may_enter enter)
      (either (eqb k 7) (by_gate may_leave leave)
      (either (eqb k 8) (by_cell may_delay delay)
      (either (eqb k 9) (by_cell may_continue continue)
      (either (eqb k 10) (either (leb 25 w.machine.made) (both_stop 9) (either (leb 8 (caller w).holds) (both_stop 8) (with_room (pushes-on _ _))))
      (either (eqb k 11) same-call11
      (both_stop 7))))))))))))
