-- What a step leaves: the stores' lengths, the code length, the stop where the machine goes on, and a stopped job of another process
use mathlib.Core.Path.{◌≡◌, refl, sym, ap, ◌∙◌}
use mathlib.Core.Bool.{Bool, true, false, ◌&&◌, ◌||◌, not}
use mathlib.Core.List.{List, ◌++◌}
use Prim.Native.Nat.{ℕ, ◌+◌, ◌*◌, ◌<◌, ◌≤◌}
use native.Mathlib.Omega.{arith}
use lib.Dec.{ltb, leb, eqb}
use lib.ListN.{length, take, drop, length-append, length-take, length-drop, length-set, length-replicate}
use lib.Seq.{get_or-set_other}
use borrow.Author.Tests.{ltb-false, leb-false, eqb-true}
use Rattle.notation.specs.If.{if}
use Rattle.notation.proofs.Upto.{split, neither, length_list}
use Rattle.machine.specs.declared.Process.{Process}
use Rattle.machine.specs.declared.Machine.{Machine}
use Rattle.machine.specs.State.{nobody, no_process, proc, with_process}
use Rattle.machine.specs.Store.{World, Place, in_common, in_own, nowhere, place_of, whole, word_in, common_with, private_with}
use Rattle.machine.specs.Classes.{set_running, wake}
use Rattle.machine.specs.Gate.{enter, leave, delay, continue, may_enter, may_leave, may_delay, may_continue}
use Rattle.machine.specs.Device.{is_present, is_busy}
use Rattle.machine.specs.Call.{Called, on, starts, stops, caller, floor, stack_word, has_words, has_room, passed, popped, same, with_top, born, create_process, new_part, stop_answer, stop_job, reports, on_gate, on_cell, io_begins, call0, call1, call2, call3, call4, call5, call6, call7, call8, call9, call10, call11, kernel}
use Rattle.kept.proofs.Fixed.{Fixed, unchanged, also, fixed_running, fixed_wake, fixed_enter, fixed_leave, fixed_delay, fixed_continue, fixed_make, fixed_clock_wait, fixed_bell_wait, fixed_device_start, fixed_finish}

-- ---- of the machine: a process that does not run keeps its registers, where a stop is pending
pub record Spared (m m' : Machine) : Type 0 where
  pub stop : m'.stop ≡ m.stop
  pub length : m'.length ≡ m.length
  pub created : m.created ≤ m'.created
  pub regs : (q : ℕ) → q < m.created → (q ≡ m.running → ⊥) → ((proc m q).regs.reason ≡ 0 → ⊥) → (proc m' q).regs ≡ (proc m q).regs

pub by_fixed : {m m' m'' : Machine} → Spared m m' → Fixed m' m'' → Spared m m''
by_fixed s f =
    record {
      stop = f.stop ∙ s.stop;
      length = f.length ∙ s.length;
      created = omega (arith, s.created, f.created);
      regs = λ q l n r. f.regs q ∙ s.regs q l n r;
    }

-- process i is another
pub set_other : (m : Machine) (i : ℕ) (p : Process) (q : ℕ) → (q ≡ i → ⊥) → (proc (with_process m i p) q).regs ≡ (proc m q).regs
unfolding with_process
set_other m i p q n = ap (λ (x : Process). x.regs) (get_or-set_other m.processes i q p no_process n)

pub spared_running : (m : Machine) (p : Process) → Spared m (with_process m m.running p)
unfolding with_process
spared_running m p = record { stop = refl; length = refl; created = omega arith; regs = λ q l n r. set_other m m.running p q n }

spared_passed : (m : Machine) (s : ℕ) → Spared m (passed m s)
unfolding passed
spared_passed m s = spared_running m _

-- a stop is answered 0 only where none is pending
not_pending : (m : Machine) (q reason : ℕ) → stop_answer m q reason ≡ 0 → (proc m q).regs.reason ≡ 0
unfolding stop_answer
not_pending m q reason e =
    split (eqb (proc m q).regs.reason 0) (eqb-true _ 0)
    (λ t. split (leb m.created q) (λ t₁. let u = rw t₁ at e in absurd (omega arith))
    (λ t₁. split (not (proc m q).regs.in_job) (λ t₂. let u = rw (t₁, t₂) at e in absurd (omega arith))
    (λ t₂. split (ltb reason 16 || ltb 255 reason) (λ t₃. let u = rw (t₁, t₂, t₃) at e in absurd (omega arith))
    (λ t₃. let u = rw (t₁, t₂, t₃, t) at e in absurd (omega arith)))))

spared_stop : (m m' : Machine) (h reason : ℕ) → Spared m m' → Spared m (stop_job m' h reason)
unfolding stop_job with_process
spared_stop m m' h reason s =
    split (eqb (stop_answer m' h reason) 0)
    (λ t. rw t
    (record {
      stop = s.stop;
      length = s.length;
      created = s.created;
      regs = λ q l n r.
          let same = s.regs q l n r in
          let other : q ≡ h → ⊥ = λ e. r (ap (λ x. x.reason) (sym same) ∙ rw e (not_pending m' h reason (eqb-true _ 0 t))) in
          set_other m' h _ q other ∙ same;
    }))
    (λ t. rw t s)

spared_create : (m m' : Machine) (t v : ℕ) → Spared m m' → m'.created ≡ m.created → Spared m (create_process m' t v)
unfolding create_process born
spared_create m m' t v s e =
    let u : Machine = wake (set_running m' nobody) m'.running in
    let f : Fixed m' u = also (fixed_running m' nobody) (fixed_wake _ m'.running) in
    let c = f.created in
    let b : Spared m (born u t v) =
    record {
      stop = f.stop ∙ s.stop;
      length = f.length ∙ s.length;
      created = split (ltb u.created 10) (λ a. rw a (omega arith)) (λ a. rw a (omega arith));
      regs = λ q l n r.
          ap (λ (x : Process). x.regs) (get_or-set_other u.processes u.created q _ no_process (λ z. omega arith)) ∙ f.regs q ∙ s.regs q l n r;
    } in
    by_fixed b (fixed_wake _ _)

-- ---- of the world: the lengths of both stores too
pub record Kept (w v : World) : Type 0 where
  pub machine : Spared w.machine v.machine
  pub common : length v.common ≡ length w.common
  pub private : length v.private ≡ length w.private

pub data Keeps (w : World) : Called → Type 0 where
  goes : {v : World} → Kept w v → Keeps w (on v)
  begins : (d : ℕ) {v : World} → Kept w v → Keeps w (starts d v)
  halts : (f : ℕ) → Keeps w (stops f)

if_keeps : {w : World} (b : Bool) {x y : Called} → (b ≡ true → Keeps w x) → (b ≡ false → Keeps w y) → Keeps w (if b x y)
if_keeps b f g = split b (λ t. rw t (f t)) (λ t. rw t (g t))

either : {w : World} (b : Bool) {x y : Called} → Keeps w x → Keeps w y → Keeps w (if b x y)
either b x y = if_keeps b (λ _. x) (λ _. y)

pub length-common : (p : Place) (x : ℕ) (c : List ℕ) → length (common_with p x c) ≡ length c
length-common (in_common k) x c = length-set c k x
length-common (in_own k) x c = refl
length-common nowhere x c = refl

pub length-private : (p : Place) (i x : ℕ) (q : List ℕ) → length (private_with p i x q) ≡ length q
length-private (in_common k) i x q = refl
length-private (in_own k) i x q = length-set q (2048 * i + k) x
length-private nowhere i x q = refl

-- a part in place of another
pub length_part : (at : ℕ) (part q : List ℕ) → length part ≡ 2048 → at + 2048 ≤ length q
    → length (take at q ++ (part ++ drop (at + 2048) q)) ≡ length q
length_part at part q e l = simp (length-append, length-take, length-drop, e) (omega arith)

module _ (w : World) where
  abbrev m : Machine
  m = w.machine

  same_kept : {x : Machine} → Spared m x → Kept w (same w x)
  same_kept s = record { machine = s; common = refl; private = refl }

  top_kept : (x : Machine) (a : ℕ) → Spared m x → Kept w (with_top w x a)
  top_kept x a s = record { machine = s; common = refl; private = length-set w.private _ a }

  reports_kept : (x : Machine) (status : ℕ) → Spared m x → Kept w (reports w x status)
  reports_kept x status s =
      record {
        machine = s;
        common = length-common (place_of (stack_word w 0 + 1)) status w.common;
        private = length-private (place_of (stack_word w 0 + 1)) m.running status w.private;
      }

  popped_fixed : (k : ℕ) {x : Machine} → Fixed (popped w k) x → Spared m x
  popped_fixed k f = by_fixed (spared_passed m _) f

  with_words : (k : ℕ) {x : Called} → Keeps w x → Keeps w (has_words w k x)
  with_words k x = either (leb ((caller w).regs.s + k) (caller w).regs.b) x (halts 7)

  with_room : {x : Called} → Keeps w x → Keeps w (has_room w x)
  with_room x = either (leb (floor w + 1) (caller w).regs.s) x (halts 6)

  -- ---- 3
  length_new : (p : ℕ) → p ≤ 2048 → m.created < 10 → length w.private ≡ 20480 → length (new_part w p) ≡ length w.private
  unfolding new_part
  length_new p l few long = simp (length-append, length-take, length-drop, length_list, length-replicate) (omega arith)

  keeps_3 : length w.private ≡ 20480 → Keeps w (call3 w)
  unfolding call3 passed with_process
  keeps_3 long =
      let v : ℕ = stack_word w 1 in
      let p : ℕ = stack_word w 2 in
      with_words 3
      (if_keeps (not (eqb m.running 0) || leb 10 m.created) (λ _. halts 9)
      (λ few. if_keeps (ltb 1024 v || ltb v p) (λ _. halts 3)
      (λ small. with_words (3 + p)
      (either (leb m.length (stack_word w 0)) (halts 7)
      (goes
      (record {
        machine = spared_create m _ (stack_word w 0) v (spared_passed m _) refl;
        common = refl;
        private =
            let a = neither (ltb 1024 v) (ltb v p) small in
            let b = leb-false 10 m.created (neither (not (eqb m.running 0)) _ few).1 in
            length_new p (omega (arith, ltb-false 1024 v a.0, ltb-false v p a.1)) b long;
      }))))))

  -- ---- 6 to 9, and 11
  by_gate : (may : Machine → ℕ → Bool) (act : Machine → ℕ → Machine) → ((x : Machine) (g : ℕ) → Fixed x (act x g)) → Keeps w (on_gate w may act)
  by_gate may act f =
      with_words 1 (either (may m (stack_word w 0)) (goes (same_kept (popped_fixed 1 (f _ (stack_word w 0))))) (halts 8))

  by_cell : (may : Machine → ℕ → ℕ → Bool) (act : Machine → ℕ → ℕ → Machine) → ((x : Machine) (g c : ℕ) → Fixed x (act x g c))
      → Keeps w (on_cell w may act)
  by_cell may act f =
      with_words 2
      (either (may m (stack_word w 1) (stack_word w 0)) (goes (same_kept (popped_fixed 2 (f _ (stack_word w 1) (stack_word w 0))))) (halts 8))

  keeps_io : (d operation : ℕ) → Keeps w (io_begins w d operation)
  unfolding io_begins
  keeps_io d operation =
      either (eqb d 0 && eqb operation 3 && is_present m 0) (goes (reports_kept _ 0 (popped_fixed 2 (fixed_bell_wait _))))
      (either (not (is_present m d) || is_busy m d) (goes (reports_kept _ 3 (popped_fixed 2 unchanged)))
      (begins d (reports_kept _ 0 (popped_fixed 2 (fixed_device_start _ d operation (stack_word w 0))))))

  keeps_11 : Keeps w (call11 w)
  unfolding call11
  keeps_11 =
      let d : ℕ = stack_word w 1 in
      let operation : ℕ = word_in (place_of (stack_word w 0)) m.running w.common w.private in
      with_words 2
      (either (whole (stack_word w 0)) (either (leb d 4 && leb operation 3) (keeps_io d operation) (halts 3)) (halts 2))

  pub keeps : (k : ℕ) → length w.private ≡ 20480 → Keeps w (kernel w k)
  unfolding kernel call0 call1 call2 call4 call5 call6 call7 call8 call9 call10
  keeps k long =
      either (eqb k 0) (goes (same_kept (popped_fixed 0 (fixed_clock_wait _))))
      (either (eqb k 1) (with_room (goes (top_kept _ _ (spared_passed m _))))
      (either (eqb k 2) (with_words 1 (halts _))
      (either (eqb k 3) (keeps_3 long)
      (either (eqb k 4) (either (ltb 0 (caller w).holds) (halts 8) (goes (same_kept (popped_fixed 0 (fixed_finish _)))))
      (either (eqb k 5) (with_words 2 (goes (top_kept _ _ (spared_stop m _ _ _ (spared_passed m _)))))
      (either (eqb k 6) (by_gate may_enter enter fixed_enter)
      (either (eqb k 7) (by_gate may_leave leave fixed_leave)
      (either (eqb k 8) (by_cell may_delay delay fixed_delay)
      (either (eqb k 9) (by_cell may_continue continue fixed_continue)
      (either (eqb k 10) (either (leb 25 m.made) (halts 9) (either (leb 8 (caller w).holds) (halts 8) (with_room (goes (top_kept _ _ (by_fixed (spared_passed m _) (fixed_make _)))))))
      (either (eqb k 11) keeps_11
      (halts 7))))))))))))
