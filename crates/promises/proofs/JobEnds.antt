-- One instruction in a job: the job goes on with its stop, or ends with the stop's reason or the number of a fault
use mathlib.Core.Path.{◌≡◌, refl, sym, ◌∙◌}
use mathlib.Core.Bool.{Bool, true, false, ◌&&◌, ◌||◌}
use mathlib.Core.List.{List}
use mathlib.Core.Logic.{◌⊎◌, inl, inr}
use Prim.Native.Nat.{ℕ, ◌+◌, ◌-◌, ◌<◌, ◌≤◌}
use native.Mathlib.Omega.{arith}
use lib.Dec.{ltb, leb, eqb}
use lib.IntN.{pos, ◌+ℤ◌}
use lib.ListN.{set}
use borrow.Author.Tests.{ltb-true}
use Rattle.notation.specs.If.{if}
use Rattle.notation.proofs.Upto.{split, never}
use Rattle.word.specs.Word.{Reckoned, signed}
use Rattle.machine.specs.declared.Regs.{Regs}
use Rattle.machine.specs.Store.{Place, in_common, in_own, nowhere}
use Rattle.machine.specs.View.{View, next, Effect, effect, n, op, arg, past, local, top, under, marks, faulted, needs_code, needs_words, to_target, needs_room, pushes, replaces, stays, located, stores}
use Rattle.machine.specs.Job.{after_job, end_job, takes_stop}
use Rattle.machine.specs.Instruction.{newline, pushconst, pushind, copyword, localaddr, pop, index, range, unary, binary, jump, falsejump, to_case, casejump, call, enter, exit, callprog, exitprog, ktrap, perform, execute, settled, instruct}
use Rattle.promises.proofs.JobFaults.{Numbered, a_word, a_fault, fitted_numbered, range_numbered, index_numbered, case_numbered, unary_numbered, binary_numbered, fetched_numbered}

-- the result of a job, where the reason is given
abbrev pub Returns : ℕ → ℕ → Type 0
Returns reason x = (x ≡ reason) ⊎ ((1 ≤ x) × (x ≤ 9))

pub data Does (v : View) : Effect → Type 0 where
  goes : {r : Regs} {c q : List ℕ} → r.in_job ≡ true → r.reason ≡ v.regs.reason → Does v (effect (next r) c q)
  fails : (f : ℕ) → (1 ≤ f) × (f ≤ 9) → Does v (faulted v f)
  ends : (x : ℕ) → Returns v.regs.reason x → v.floor < v.regs.saved_s
      → Does v (effect (next (after_job v.regs (v.regs.saved_s - 1))) v.common (set v.own (v.regs.saved_s - 1 - 2048) x))

module _ (v : View) (job : v.regs.in_job ≡ true) where
  if_does : (b : Bool) {d e : Effect} → (b ≡ true → Does v d) → (b ≡ false → Does v e) → Does v (if b d e)
  if_does b s t = split b (λ e. rw e (s e)) (λ e. rw e (t e))

  either : (b : Bool) {d e : Effect} → Does v d → Does v e → Does v (if b d e)
  either b s t = if_does b (λ _. s) (λ _. t)

  -- outside a job it may do anything
  outside : {d : Effect} → v.regs.in_job ≡ false → Does v d
  outside e = never (sym job ∙ e)

  fails_7 : Does v (faulted v 7)
  fails_7 = fails 7 (omega arith)

  -- ---- the words that the instructions are told in
  goes_on_lem : {a line s b : ℕ} {c q : List ℕ} → Does v (effect (next (marks v.regs a line s b)) c q)
  goes_on_lem = goes job refl

  with_code : (k : ℕ) {d : Effect} → Does v d → Does v (needs_code v k d)
  with_code k s = either (leb (past v k) (n v)) s fails_7

  with_words : (k : ℕ) {d : Effect} → Does v d → Does v (needs_words v k d)
  with_words k s = either (leb (v.regs.s + k) v.regs.b) s fails_7

  with_target : (t : ℕ) {d : Effect} → Does v d → Does v (to_target v t d)
  with_target t s = either (ltb t (n v)) s fails_7

  with_room : (k : ℕ) {d : Effect} → Does v d → Does v (needs_room v k d)
  with_room k s = either (leb (v.floor + k) v.regs.s) s (fails 6 (omega arith))

  pushes_does : (a : ℕ) {r : Reckoned} → Numbered r → Does v (pushes v a r)
  pushes_does a a_word = with_room 1 goes_on_lem
  pushes_does a (a_fault f l) = fails f l

  replaces_does : (a s : ℕ) {r : Reckoned} → Numbered r → Does v (replaces v a s r)
  replaces_does a s a_word = goes_on_lem
  replaces_does a s (a_fault f l) = fails f l

  stays_does : (a : ℕ) {r : Reckoned} → Numbered r → Does v (stays v a r)
  stays_does a a_word = goes_on_lem
  stays_does a (a_fault f l) = fails f l

  taken_does : {r : Reckoned} → Numbered r → Does v (to_case v r)
  taken_does (a_word {x = k}) = with_target (arg v (3 + k)) goes_on_lem
  taken_does (a_fault f l) = fails f l

  stores_does : (p : Place) (x s : ℕ) → Does v (stores v p x s)
  stores_does (in_common k) x s = goes_on_lem
  stores_does (in_own k) x s = goes_on_lem
  stores_does nowhere x s = fails 2 (omega arith)

  end_does : (x : ℕ) → Returns v.regs.reason x → Does v (end_job v x)
  unfolding end_job
  end_does x r = if_does (ltb v.floor v.regs.saved_s) (λ e. ends x r (ltb-true _ _ e)) (λ _. fails 6 (omega arith))

  -- ---- the instruction of a code: in a job, CALLPROG and KTRAP are 7
  perform_does : (code : ℕ) → Does v (perform v code)
  unfolding perform newline pushconst pushind copyword localaddr pop index range unary binary jump falsejump casejump call enter exit callprog exitprog ktrap
  perform_does code =
      let s : ℕ = v.regs.s in
      let t : ℕ = arg v 1 in
      let m : ℕ = v.regs.b + 2 + t in
      let old : ℕ = local v v.regs.b in
      let framed : Bool = leb s v.regs.b && leb m v.regs.c && leb m old && leb old v.regs.c && ltb (local v (v.regs.b + 1)) (n v) in
      either (eqb code 0) (with_code 2 goes_on_lem)
      (either (eqb code 1) (with_code 2 (pushes_does (past v 2) (a_word {x = t})))
      (either (eqb code 2) (with_words 1 (replaces_does (past v 1) s (fetched_numbered v (located v (top v)))))
      (either (eqb code 3) (with_words 2 (stores_does (located v (under v)) (top v) (s + 2)))
      (either (eqb code 4) (with_code 2 (pushes_does (past v 2) (fitted_numbered (pos v.regs.b +ℤ signed t))))
      (either (eqb code 5) (with_words 1 goes_on_lem)
      (either (eqb code 6) (with_code 4 (with_words 2 (replaces_does (past v 4) (s + 1) (index_numbered (under v) (top v) t (arg v 2) (arg v 3)))))
      (either (eqb code 7) (with_code 3 (with_words 1 (stays_does (past v 3) (range_numbered (top v) t (arg v 2)))))
      (either (eqb code 8 || eqb code 11) (with_words 1 (replaces_does (past v 1) s (unary_numbered code (top v))))
      (either (leb 9 code && leb code 19) (with_words 2 (replaces_does (past v 1) (s + 1) (binary_numbered code (under v) (top v))))
      (either (eqb code 20) (with_code 2 (with_target t goes_on_lem))
      (either (eqb code 21) (with_code 2 (with_words 1 (either (eqb (top v) 0) (with_target t goes_on_lem) goes_on_lem)))
      (either (eqb code 22) (with_code (3 + arg v 2) (with_words 1 (taken_does (case_numbered (top v) t (arg v 2)))))
      (either (eqb code 23) (with_code 2 (with_target t (with_room 1 goes_on_lem)))
      (either (eqb code 24) (with_code 2 (with_room (t + 1) goes_on_lem))
      (either (eqb code 25) (with_code 2 (either framed goes_on_lem fails_7))
      (either (eqb code 26) (with_code 3 (if_does v.regs.in_job (λ _. fails_7) outside))
      (either (eqb code 27) (if_does v.regs.in_job (λ _. end_does v.regs.reason (inl refl)) outside)
      (either (eqb code 28) (with_code 2 (if_does v.regs.in_job (λ _. fails_7) outside))
      fails_7))))))))))))))))))

  execute_does : Does v (execute v)
  unfolding execute
  execute_does = either (ltb v.regs.address (n v)) (perform_does (op v)) fails_7

  -- ---- one instruction: a fault ends the job with its number
  settled_does : {d : Effect} → Does v d → Does v (settled v d.out d)
  settled_does (goes j r) = goes j r
  settled_does (fails f l) = if_does v.regs.in_job (λ _. end_does f (inr l)) outside
  settled_does (ends x r l) = ends x r l

  pub instruct_does : Does v (instruct v)
  unfolding instruct
  instruct_does = either (takes_stop v) (end_does v.regs.reason (inl refl)) (settled_does execute_does)
