-- Each kernel call keeps every process in its place, or stops the machine with 0 to 9
use mathlib.Core.Path.{◌≡◌, ◌∙◌}
use mathlib.Core.Bool.{Bool, true, false, ◌&&◌, ◌||◌, not, and-false}
use Prim.Native.Nat.{ℕ, ◌+◌, ◌-◌, ◌<◌, ◌≤◌}
use native.Mathlib.Omega.{arith}
use lib.Dec.{ltb, leb, eqb}
use borrow.Author.Tests.{eqb-false, leb-true, leb-false, ltb-true, ltb-false, not-true, not-false}
use Rattle.notation.specs.If.{if}
use Rattle.notation.proofs.Upto.{split, both, neither}
use Rattle.machine.specs.declared.Process.{Process}
use Rattle.machine.specs.declared.Machine.{Machine}
use Rattle.machine.specs.State.{nobody, proc, gate, with_process}
use Rattle.machine.specs.Store.{World, place_of, whole, word_in}
use Rattle.machine.specs.Gate.{latest, cell, enter, leave, delay, continue, may_enter, may_leave, may_delay, may_continue}
use Rattle.machine.specs.Device.{is_present, is_busy}
use Rattle.machine.specs.Call.{Called, on, starts, stops, caller, floor, stack_word, has_words, has_room, passed, popped, on_gate, on_cell, io_begins, call0, call1, call2, call3, call4, call5, call6, call7, call8, call9, call10, call11, kernel}
use Rattle.notation.proofs.Test.{part, equal}
use Rattle.kept.proofs.Steady.{Ranged}
use Rattle.kept.proofs.Nearly.{Placed}
use Rattle.kept.proofs.Gates.{Mine, enter_kept, leave_kept, delay_kept, continue_kept, make_kept}
use Rattle.kept.proofs.Waits.{clock_wait_kept, bell_wait_kept, device_start_kept, finish_kept, create_kept}
use Rattle.kept.proofs.Registers.{passed_kept, passed-proc, stop_kept}

-- ---- what a call may do
pub data Fine : Called → Type 0 where
  goes : {v : World} → Placed v.machine → Fine (on v)
  begins : (d : ℕ) {v : World} → Placed v.machine → Fine (starts d v)
  halts : (f : ℕ) → f ≤ 9 → Fine (stops f)

if_fine : (b : Bool) {x y : Called} → (b ≡ true → Fine x) → (b ≡ false → Fine y) → Fine (if b x y)
if_fine b f g = split b (λ t. rw t (f t)) (λ t. rw t (g t))

either : (b : Bool) {x y : Called} → Fine x → Fine y → Fine (if b x y)
either b x y = if_fine b (λ _. x) (λ _. y)

-- ---- the caller: it runs, in no job, with its address before the call
pub record Calls (w : World) : Type 0 where
  pub placed : Placed w.machine
  pub runs : w.machine.running < nobody
  pub free : (caller w).regs.in_job ≡ false
  pub past : (caller w).regs.address + 2 ≤ w.machine.length

module _ (w : World) (calls : Calls w) where
  abbrev m : Machine
  m = w.machine

  abbrev f : Placed m
  f = calls.placed

  abbrev p : Process
  p = caller w

  -- its stack holds k words, or it stops with 7; it has room for one more, or it stops with 6
  with_words : (k : ℕ) {x : Called} → (p.regs.s + k ≤ p.regs.b → Fine x) → Fine (has_words w k x)
  with_words k x = if_fine (leb (p.regs.s + k) p.regs.b) (λ t. x (leb-true _ _ t)) (λ t. halts 7 (omega arith))

  with_room : {x : Called} → (floor w + 1 ≤ p.regs.s → Fine x) → Fine (has_room w x)
  with_room x = if_fine (leb (floor w + 1) p.regs.s) (λ t. x (leb-true _ _ t)) (λ t. halts 6 (omega arith))

  -- past the call it is as before, with S at s
  module _ (s : ℕ) where
    passes : floor w ≤ s → s ≤ p.regs.b → Placed (passed m s)
    passes low high = passed_kept calls.runs f s calls.past low high

    passed_free : (proc (passed m s) m.running).regs.in_job ≡ false
    passed_free = rw (passed-proc calls.runs f s) calls.free

    passed-holds : (proc (passed m s) m.running).holds ≡ p.holds
    passed-holds = rw (passed-proc calls.runs f s)

    passed-latest : latest (proc (passed m s) m.running) ≡ latest p
    passed-latest = rw (passed-proc calls.runs f s)

  ranged : Ranged m.length p.variables p.slice p.regs
  ranged = (f.processes.each m.running (f.runs.made calls.runs)).marks

  pops : (k : ℕ) → p.regs.s + k ≤ p.regs.b → Placed (popped w k)
  pops k l = passes (p.regs.s + k) (omega (arith, ranged.stack)) l

  pushes : floor w + 1 ≤ p.regs.s → Placed (passed m (p.regs.s - 1))
  pushes l = passes (p.regs.s - 1) (omega arith) (omega (arith, ranged.frame))

  -- ---- 0 to 5
  fine_0 : Fine (call0 w)
  unfolding call0 passed with_process
  fine_0 = goes (clock_wait_kept calls.runs (passed_free _) (pops 0 (omega (arith, ranged.frame))))

  fine_1 : Fine (call1 w)
  unfolding call1
  fine_1 = with_room (λ l. goes (pushes l))

  fine_2 : Fine (call2 w)
  unfolding call2
  fine_2 =
      with_words 1
      (λ l. halts _
      (split (leb (stack_word w 0) 6) (λ t. rw t (omega (arith, leb-true (stack_word w 0) 6 t))) (λ t. rw t (omega arith))))

  fine_3 : Fine (call3 w)
  unfolding call3 passed with_process
  fine_3 =
      let t : ℕ = stack_word w 0 in
      let v : ℕ = stack_word w 1 in
      let k : ℕ = stack_word w 2 in
      with_words 3
      (λ l. if_fine (not (eqb m.running 0) || leb 10 m.created) (λ _. halts 9 (omega arith))
      (λ a. if_fine (ltb 1024 v || ltb v k) (λ _. halts 3 (omega arith))
      (λ b. with_words (3 + k)
      (λ h. if_fine (leb m.length t) (λ _. halts 7 (omega arith))
      (λ c.
      let few = leb-false 10 m.created (neither (not (eqb m.running 0)) _ a).1 in
      let small = ltb-false 1024 v (neither (ltb 1024 v) _ b).0 in
      let code = leb-false m.length t c in
      goes (create_kept t v calls.runs few (omega arith) small (pops (3 + k) h)))))))

  fine_4 : Fine (call4 w)
  unfolding call4 passed with_process
  fine_4 =
      if_fine (ltb 0 p.holds) (λ _. halts 8 (omega arith))
      (λ t.
      let s : ℕ = p.regs.s + 0 in
      let e = passed-holds s in
      let z = ltb-false 0 p.holds t in
      goes (finish_kept calls.runs (passed_free s) (pops 0 (omega (arith, ranged.frame))) (omega arith)))

  fine_5 : Fine (call5 w)
  unfolding call5
  fine_5 = with_words 2 (λ l. goes (stop_kept (stack_word w 1) (stack_word w 0) (pops 1 (omega arith))))

  -- ---- 6 to 9: gates
  enters : (g s : ℕ) → may_enter m g ≡ true → Placed (passed m s) → Placed (enter (passed m s) g)
  unfolding may_enter passed with_process
  enters g s t f' =
      let e = passed-holds s in
      let made = ltb-true g m.made (part (ltb g m.made) t (λ u. rw u)) in
      let other = part (not (eqb (gate m g).holder m.running)) t (λ u. simp (u, and-false)) in
      let eight = ltb-true p.holds 8 (part (ltb p.holds 8) t (λ u. simp (u, and-false))) in
      enter_kept g calls.runs made (eqb-false _ _ (not-true _ other)) (omega arith) (passed_free s) f'

  mine : (g s : ℕ) → may_leave m g ≡ true → Mine (passed m s) g
  unfolding may_leave passed with_process
  mine g s t =
      let e = passed-holds s in
      let some = ltb-true 0 p.holds (part (ltb 0 p.holds) t (λ u. simp (u, and-false))) in
      record {
        runs = calls.runs;
        made = ltb-true g m.made (part (ltb g m.made) t (λ u. rw u));
        some = omega arith;
        last = passed-latest s ∙ equal (latest p) g t (λ u. simp (u, and-false));
      }

  small-cell : (g c : ℕ) → may_continue m g c ≡ true → (may_leave m g ≡ true) × (c < 8)
  unfolding may_continue
  small-cell g c t = let b = both (may_leave m g) _ t in (b.0, let l = leb-true c 7 b.1 in omega arith)

  delays : (g c s : ℕ) → may_delay m g c ≡ true → Placed (passed m s) → Placed (delay (passed m s) g c)
  unfolding may_delay passed with_process
  delays g c s t f' =
      let b = both (may_continue m g c) _ t in
      let k = small-cell g c b.0 in
      delay_kept (mine g s k.0) f' c k.1 (leb-true nobody (cell m g c) b.1) (passed_free s)

  continues : (g c s : ℕ) → may_continue m g c ≡ true → Placed (passed m s) → Placed (continue (passed m s) g c)
  continues g c s t f' = let k = small-cell g c t in continue_kept (mine g s k.0) f' c k.1

  by_gate : (may : Machine → ℕ → Bool) (act : Machine → ℕ → Machine)
      → ((g s : ℕ) → may m g ≡ true → Placed (passed m s) → Placed (act (passed m s) g)) → Fine (on_gate w may act)
  by_gate may act kept =
      with_words 1 (λ l. if_fine (may m (stack_word w 0)) (λ t. goes (kept (stack_word w 0) _ t (pops 1 l))) (λ _. halts 8 (omega arith)))

  by_cell : (may : Machine → ℕ → ℕ → Bool) (act : Machine → ℕ → ℕ → Machine)
      → ((g c s : ℕ) → may m g c ≡ true → Placed (passed m s) → Placed (act (passed m s) g c)) → Fine (on_cell w may act)
  by_cell may act kept =
      with_words 2 (λ l. if_fine (may m (stack_word w 1) (stack_word w 0)) (λ t. goes (kept (stack_word w 1) (stack_word w 0) _ t (pops 2 l))) (λ _. halts 8 (omega arith)))

  -- ---- 10
  fine_10 : Fine (call10 w)
  unfolding call10 passed with_process
  fine_10 =
      let s : ℕ = p.regs.s - 1 in
      if_fine (leb 25 m.made) (λ _. halts 9 (omega arith))
      (λ a. if_fine (leb 8 p.holds) (λ _. halts 8 (omega arith))
      (λ b. with_room
      (λ l.
      let e = passed-holds s in
      let eight = leb-false 8 p.holds b in
      goes (make_kept calls.runs (leb-false 25 m.made a) (omega arith) (passed_free s) (pushes l)))))

  -- ---- 11
  fine_io : (d operation : ℕ) → d < 5 → leb operation 3 ≡ true → whole (stack_word w 0) ≡ true → p.regs.s + 2 ≤ p.regs.b
      → Fine (io_begins w d operation)
  unfolding io_begins passed with_process
  fine_io d operation small least one l =
      let s : ℕ = p.regs.s + 2 in
      either (eqb d 0 && eqb operation 3 && is_present m 0) (goes (bell_wait_kept calls.runs (passed_free s) (pops 2 l)))
      (if_fine (not (is_present m d) || is_busy m d) (λ _. goes (pops 2 l))
      (λ t.
      let idle = neither (not (is_present m d)) (is_busy m d) t in
      begins d
      (device_start_kept calls.runs (passed_free s) (pops 2 l) d operation (stack_word w 0) small (ltb-false _ nobody idle.1)
      (rw (not-false (is_present m d) idle.0, least, one)))))

  fine_11 : Fine (call11 w)
  unfolding call11
  fine_11 =
      let d : ℕ = stack_word w 1 in
      let operation : ℕ = word_in (place_of (stack_word w 0)) m.running w.common w.private in
      with_words 2
      (λ l. if_fine (whole (stack_word w 0))
      (λ one. if_fine (leb d 4 && leb operation 3)
      (λ t. let b = both (leb d 4) _ t in let small = leb-true d 4 b.0 in fine_io d operation (omega arith) b.1 one l)
      (λ _. halts 3 (omega arith)))
      (λ _. halts 2 (omega arith)))

  pub fine : (k : ℕ) → Fine (kernel w k)
  unfolding kernel call6 call7 call8 call9
  fine k =
      either (eqb k 0) fine_0
      (either (eqb k 1) fine_1
      (either (eqb k 2) fine_2
      (either (eqb k 3) fine_3
      (either (eqb k 4) fine_4
      (either (eqb k 5) fine_5
      (either (eqb k 6) (by_gate may_enter enter enters)
      (either (eqb k 7) (by_gate may_leave leave (λ g s t f'. leave_kept (mine g s t) f'))
      (either (eqb k 8) (by_cell may_delay delay delays)
      (either (eqb k 9) (by_cell may_continue continue continues)
      (either (eqb k 10) fine_10
      (either (eqb k 11) fine_11
      (halts 7 (omega arith)))))))))))))
