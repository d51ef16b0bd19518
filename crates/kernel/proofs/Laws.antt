-- Why a call ends as the definitions have it
use mathlib.Core.Path.{◌≡◌, refl, sym, ap, ◌∙◌}
use mathlib.Core.Bool.{Bool, true, false, and-false}
use mathlib.Core.List.{List}
use Prim.Native.Nat.{ℕ, ◌+◌, ◌≤◌, ◌<◌}
use native.Mathlib.Omega.{arith}
use lib.Dec.{leb, ltb, eqb}
use lib.ListN.{length, get_or, set}
use lib.Seq.{get_or-set_same, set-get_or}
use borrow.Author.Tests.{lt-ltb, le-ltb, le-leb, lt-leb}
use Rattle.std.specs.Prelude.{Result, Ok, Err}
use Rattle.std.specs.Result.{IsErrAnd}
use Rattle.std.proofs.lemmas.Result.{err_from_is_err_and}
use Rattle.notation.specs.If.{if}
use Rattle.notation.proofs.Upto.{split, never, below?}
use Rattle.notation.proofs.Cells.{set_keeps}
use Rattle.word.specs.declared.Fault.{Fault}
use Rattle.word.specs.declared.Fault.TheVariants.{StackLimit, Code, Gate}
use Rattle.word.specs.Word.{number_of}
use Rattle.machine.specs.declared.Regs.{Regs}
use Rattle.machine.specs.declared.Process.{Process}
use Rattle.machine.specs.declared.Machine.{Machine}
use Rattle.machine.specs.State.{no_process, proc, with_process}
use Rattle.machine.specs.Gate.{grant, make_gate, may_enter, may_leave, may_continue, may_delay}
use Rattle.machine.specs.Store.{own}
use Rattle.machine.specs.Call.{Called, on, stops, stack_word, passed, with_top, on_gate, on_cell, stop_answer, stop_job}
use Rattle.machine.specs.Step.{onward}
use Rattle.machine.proofs.Registers.{make_regs}
use Rattle.kernel.specs.declared.answer.Act.{Act}
use Rattle.kernel.specs.declared.answer.Decision.{Decision}
use Rattle.kernel.specs.declared.caller.Caller.{Caller}
use Rattle.kernel.specs.Did.{Told, Words, world, performed, end_of, outcome, decided, gone, answered}

abbrev pub regs : Machine → Regs
regs m = (proc m m.running).regs

-- ---- a word as a number of a gate or a cell
abbrev pub narrow : ℕ → ℕ
narrow x = if (ltb x 256) x 255

-- a test that fails from 255 on gives the same of the word and of its number; where it holds, the number is the word
pub narrow_test : (f : ℕ → Bool) → ((y : ℕ) → 255 ≤ y → f y ≡ false) → (x : ℕ) → f (narrow x) ≡ f x
narrow_test f out x =
    below? x 256
    (λ l. rw (lt-ltb x 256 l))
    (λ l. rw (le-ltb x 256 l, out 255 (omega arith), out x (omega (arith, l))))

pub narrow_exact : (f : ℕ → Bool) → ((y : ℕ) → 255 ≤ y → f y ≡ false) → (x : ℕ) → f (narrow x) ≡ true → narrow x ≡ x
narrow_exact f out x e =
    below? x 256
    (λ l. rw (lt-ltb x 256 l))
    (λ l. let z = rw (le-ltb x 256 l) at e in never (sym z ∙ out 255 (omega arith)))

module _ (m : Machine) (few : m.made ≤ 25) where
  pub enter-out : (y : ℕ) → 255 ≤ y → may_enter m y ≡ false
  unfolding may_enter
  enter-out y l = rw (le-ltb y m.made (omega (arith, few, l)))

  pub leave-out : (y : ℕ) → 255 ≤ y → may_leave m y ≡ false
  unfolding may_leave
  leave-out y l = rw (le-ltb y m.made (omega (arith, few, l)))

  pub continue-out : (c y : ℕ) → 255 ≤ y → may_continue m y c ≡ false
  unfolding may_continue
  continue-out c y l = rw (leave-out y l)

  pub delay-out : (c y : ℕ) → 255 ≤ y → may_delay m y c ≡ false
  unfolding may_delay
  delay-out c y l = rw (continue-out c y l)

pub continue_cell_out : (m : Machine) (g y : ℕ) → 255 ≤ y → may_continue m g y ≡ false
unfolding may_continue
continue_cell_out m g y l = rw (lt-leb y 7 (omega (arith, l))) (and-false (may_leave m g))

pub delay_cell_out : (m : Machine) (g y : ℕ) → 255 ≤ y → may_delay m g y ≡ false
unfolding may_delay
delay_cell_out m g y l = rw (continue_cell_out m g y l)

-- a decision to stop leaves the caller's record as it is
pub same_process : (m : Machine) → with_process m m.running (proc m m.running) ≡ m
unfolding with_process
same_process m = rw (set-get_or m.processes m.running no_process)

-- ---- the top of the caller's stack after a move
passed_running : (m : Machine) (s : ℕ) → (passed m s).running ≡ m.running
unfolding passed with_process
passed_running m s = refl

passed-top : (m : Machine) (s : ℕ) → m.running < length m.processes → (proc (passed m s) m.running).regs.s ≡ s
unfolding passed with_process
passed-top m s l = ap (λ (p : Process). p.regs.s) (get_or-set_same m.processes m.running _ no_process l)

stop_running : (m : Machine) (q reason : ℕ) → (stop_job m q reason).running ≡ m.running
unfolding stop_job with_process
stop_running m q reason = split (eqb (stop_answer m q reason) 0) (λ e. rw e) (λ e. rw e)

stop_top : (m : Machine) (q reason i : ℕ) → (proc (stop_job m q reason) i).regs.s ≡ (proc m i).regs.s
unfolding stop_job with_process
stop_top m q reason i =
    split (eqb (stop_answer m q reason) 0)
    (λ e. rw e (set_keeps (λ (p : Process). p.regs.s) m.processes q _ no_process refl i))
    (λ e. rw e)

make_running : (m : Machine) → (make_gate m).running ≡ m.running
unfolding make_gate grant
make_running m = refl

-- ---- a call ends with a fault, or goes past KTRAP; what its tests tell of the definition's
module _ {m : Machine} {who : Caller} (t : Told who m) where
  pub stops_at : {c q : List ℕ} {x : Called} (f : Fault) → x ≡ stops (number_of f) → decided m (answered who (Err f)) c q ≡ outcome (world m c q) x
  stops_at f e = rw (e, t.caller, same_process m)

  -- at the exit of a ?
  exits : {c q : List ℕ} {x : Called} {e : Fault} (r : Result Decision Fault) (f : Fault) → IsErrAnd r (λ y. y ≡ e) → e ≡ f → x ≡ stops (number_of f)
      → decided m (answered who r) c q ≡ outcome (world m c q) x
  exits r f h a b = let p = err_from_is_err_and r h in rw (p.1, p.2, a) (stops_at f b)

  pub goes_at : (c q : List ℕ) (s : ℕ) (act : Act) → decided m (gone who s act) c q ≡ record { machine = performed (passed m s) act; common = c; private = q; end = end_of act }
  unfolding passed
  goes_at c q s act = rw t.caller

  -- k words are there, or not; a word more has room, or not
  pub enough : (k : ℕ) {x : Called} → who.process.regs.s + k ≤ who.process.regs.b → if (leb ((regs m).s + k) (regs m).b) x (stops 7) ≡ x
  enough k h = let n : (regs m).s + k ≤ (regs m).b = rw t.caller at h in rw (le-leb _ _ n)

  pub too_few : (k : ℕ) (x : Called) {c q : List ℕ} {e : Fault} (r : Result Decision Fault) → IsErrAnd r (λ y. y ≡ e) → (who.process.regs.b < who.process.regs.s + k) × (e ≡ Code)
      → decided m (answered who r) c q ≡ outcome (world m c q) (if (leb ((regs m).s + k) (regs m).b) x (stops 7))
  too_few k x r h (b, f) =
      let n : (regs m).b < (regs m).s + k = rw t.caller at b in
      let z : if (leb ((regs m).s + k) (regs m).b) x (stops 7) ≡ stops 7 = rw (lt-leb _ _ n) in
      exits r Code h f z

  pub roomy : {x : Called} → 2048 + who.process.variables + 1 ≤ who.process.regs.s → if (leb (2048 + (proc m m.running).variables + 1) (regs m).s) x (stops 6) ≡ x
  roomy h = let n : 2048 + (proc m m.running).variables + 1 ≤ (regs m).s = rw t.caller at h in rw (le-leb _ _ n)

  pub full : (x : Called) {c q : List ℕ} {e : Fault} (r : Result Decision Fault) → IsErrAnd r (λ y. y ≡ e) → who.process.regs.s < 2048 + who.process.variables + 1 → e ≡ StackLimit
      → decided m (answered who r) c q ≡ outcome (world m c q) (if (leb (2048 + (proc m m.running).variables + 1) (regs m).s) x (stops 6))
  full x r h b f =
      let n : (regs m).s < 2048 + (proc m m.running).variables + 1 = rw t.caller at b in
      let z : if (leb (2048 + (proc m m.running).variables + 1) (regs m).s) x (stops 6) ≡ stops 6 = rw (lt-leb _ _ n) in
      exits r StackLimit h f z

  pub word_is : (c : List ℕ) {q l : List ℕ} {k : ℕ} → Words who k q l → (j : ℕ) → j < k → get_or l j 0 ≡ stack_word (world m c q) j
  word_is c h j i = rw t.caller at (h.each j i)

  -- ---- calls 6 and 7 on a gate, 8 and 9 on a cell: the word, as the number that the code makes of it
  -- the move is made, or it is fault 8
  made : (c q : List ℕ) {r : Result Decision Fault} (b : Bool) (a : Act) (s : ℕ) {x : Called} → r ≡ if b (Ok (gone who s a)) (Err Gate)
      → (b ≡ true → record { machine = performed (passed m s) a; common = c; private = q; end = end_of a } ≡ outcome (world m c q) x)
      → (b ≡ false → x ≡ stops 8)
      → decided m (answered who r) c q ≡ outcome (world m c q) x
  made c q true a s e f g = rw e (goes_at c q s a ∙ f refl)
  made c q false a s e f g = rw e (stops_at Gate (g refl))

  module _ (may : Machine → ℕ → Bool) (act : Machine → ℕ → Machine) (out : (y : ℕ) → 255 ≤ y → may m y ≡ false) where
    gate_goes : (c : List ℕ) {q l : List ℕ} (g : ℕ) → Words who 1 q l → g ≡ narrow (get_or l 0 0) → may m g ≡ true
        → record { machine = act (passed m (who.process.regs.s + 1)) g; common = c; private = q; end = onward } ≡ outcome (world m c q) (on_gate (world m c q) may act)
    gate_goes c {q} {l} g h n f =
        let a = rw n at f in
        let z = narrow_exact (may m) out (get_or l 0 0) a in
        let u = rw z at a in
        rw (enough 1 h.there, ← word_is c h 0 (omega arith), u, n, z, t.caller)

    gate_stops : (c : List ℕ) {q l : List ℕ} (g : ℕ) → Words who 1 q l → g ≡ narrow (get_or l 0 0) → may m g ≡ false → on_gate (world m c q) may act ≡ stops 8
    gate_stops c {q} {l} g h n f =
        let u = sym (narrow_test (may m) out (get_or l 0 0)) ∙ rw n at f in
        rw (enough 1 h.there, ← word_is c h 0 (omega arith), u)

    pub gate_made : (c : List ℕ) {q l : List ℕ} {r : Result Decision Fault} (g : ℕ) (a : Act) → Words who 1 q l → g ≡ narrow (get_or l 0 0)
        → r ≡ if (may m g) (Ok (gone who (who.process.regs.s + 1) a)) (Err Gate)
        → ((n : Machine) → performed n a ≡ act n g) → end_of a ≡ onward
        → decided m (answered who r) c q ≡ outcome (world m c q) (on_gate (world m c q) may act)
    gate_made c {q} g a h n e f o =
        made c q (may m g) a (who.process.regs.s + 1) e (λ b. rw (f (passed m (who.process.regs.s + 1)), o) (gate_goes c g h n b)) (gate_stops c g h n)

  module _
      (may : Machine → ℕ → ℕ → Bool)
      (act : Machine → ℕ → ℕ → Machine)
      (out : (x y : ℕ) → 255 ≤ y → may m y x ≡ false)
      (outCell : (g y : ℕ) → 255 ≤ y → may m g y ≡ false)
    where
      cell_goes : (c : List ℕ) {q l : List ℕ} (g x : ℕ) → Words who 2 q l → x ≡ narrow (get_or l 0 0) → g ≡ narrow (get_or l 1 0) → may m g x ≡ true
          → record { machine = act (passed m (who.process.regs.s + 2)) g x; common = c; private = q; end = onward } ≡ outcome (world m c q) (on_cell (world m c q) may act)
      cell_goes c {q} {l} g x h a b f =
          let e = rw (a, b) at f in
          let y = narrow_exact (λ y. may m y (narrow (get_or l 0 0))) (out (narrow (get_or l 0 0))) (get_or l 1 0) e in
          let z = narrow_exact (may m (narrow (get_or l 1 0))) (outCell (narrow (get_or l 1 0))) (get_or l 0 0) e in
          let u = rw (y, z) at e in
          rw (enough 2 h.there, ← word_is c h 0 (omega arith), ← word_is c h 1 (omega arith), u, a, b, y, z, t.caller)

      cell_stops : (c : List ℕ) {q l : List ℕ} (g x : ℕ) → Words who 2 q l → x ≡ narrow (get_or l 0 0) → g ≡ narrow (get_or l 1 0) → may m g x ≡ false → on_cell (world m c q) may act ≡ stops 8
      cell_stops c {q} {l} g x h a b f =
          let e = rw (a, b) at f in
          let y = narrow_test (λ y. may m y (narrow (get_or l 0 0))) (out (narrow (get_or l 0 0))) (get_or l 1 0) in
          let z = narrow_test (may m (get_or l 1 0)) (outCell (get_or l 1 0)) (get_or l 0 0) in
          let u = sym z ∙ sym y ∙ e in
          rw (enough 2 h.there, ← word_is c h 0 (omega arith), ← word_is c h 1 (omega arith), u)

      pub cell_made : (c : List ℕ) {q l : List ℕ} {r : Result Decision Fault} (g x : ℕ) (a : Act) → Words who 2 q l → x ≡ narrow (get_or l 0 0) → g ≡ narrow (get_or l 1 0)
          → r ≡ if (may m g x) (Ok (gone who (who.process.regs.s + 2) a)) (Err Gate)
          → ((n : Machine) → performed n a ≡ act n g x) → end_of a ≡ onward
          → decided m (answered who r) c q ≡ outcome (world m c q) (on_cell (world m c q) may act)
      cell_made c {q} g x a h i n e f o =
          made c q (may m g x) a (who.process.regs.s + 2) e (λ b. rw (f (passed m (who.process.regs.s + 2)), o) (cell_goes c g x h i n b)) (cell_stops c g x h i n)

  -- ---- calls 1, 5 and 10 push a word
  pushes : (c q q' : List ℕ) (s x : ℕ) (n : Machine) → n.running ≡ m.running → (proc n m.running).regs.s ≡ s → q' ≡ set q (own who.number s) x
      → record { machine = n; common = c; private = q'; end = onward } ≡ outcome (world m c q) (on (with_top (world m c q) n x))
  pushes c q q' s x n a b f = rw (f, t.caller, a, b)

  pub push_passed : (c q q' : List ℕ) (s x : ℕ) → q' ≡ set q (own who.number s) x
      → record { machine = passed m s; common = c; private = q'; end = onward } ≡ outcome (world m c q) (on (with_top (world m c q) (passed m s) x))
  push_passed c q q' s x f = pushes c q q' s x (passed m s) (passed_running m s) (passed-top m s t.there) f

  pub push_stopped : (c q q' : List ℕ) (s x p reason : ℕ) → q' ≡ set q (own who.number s) x
      → record { machine = stop_job (passed m s) p reason; common = c; private = q'; end = onward } ≡ outcome (world m c q) (on (with_top (world m c q) (stop_job (passed m s) p reason) x))
  push_stopped c q q' s x p reason f =
      let n : Machine = passed m s in
      pushes c q q' s x (stop_job n p reason) (stop_running n p reason ∙ passed_running m s) (stop_top n p reason m.running ∙ passed-top m s t.there) f

  pub push_made : (c q q' : List ℕ) (s x : ℕ) → q' ≡ set q (own who.number s) x
      → record { machine = make_gate (passed m s); common = c; private = q'; end = onward } ≡ outcome (world m c q) (on (with_top (world m c q) (make_gate (passed m s)) x))
  push_made c q q' s x f =
      let n : Machine = passed m s in
      pushes c q q' s x (make_gate n) (make_running n ∙ passed_running m s) (ap (λ (r : Regs). r.s) (make_regs n m.running) ∙ passed-top m s t.there) f
