-- An instruction that faults or calls the kernel leaves both stores: each of the words that the instructions are told in does
use mathlib.Core.Path.{◌≡◌, refl, subst}
use mathlib.Core.Bool.{Bool, ◌&&◌, ◌||◌}
use mathlib.Core.List.{List}
use Prim.Native.Nat.{ℕ, ◌+◌}
use lib.Dec.{ltb, leb, eqb}
use Rattle.notation.specs.If.{if}
use Rattle.notation.proofs.Upto.{split}
use Rattle.word.specs.Word.{Reckoned, word, fault, unary_w, binary_w, local_addr_w, range_w, index_w, case_w}
use Rattle.machine.specs.declared.Regs.{Regs}
use Rattle.machine.specs.Store.{Place, in_common, in_own, nowhere}
use Rattle.machine.specs.View.{View, Out, next, faults, calls, Effect, effect, n, op, arg, past, local, top, under, faulted, needs_code, needs_words, to_target, needs_room, pushes, replaces, stays, located, fetched, stores}
use Rattle.machine.specs.Job.{end_job, takes_stop}
use Rattle.machine.specs.Instruction.{newline, pushconst, pushind, copyword, localaddr, pop, index, range, unary, binary, jump, falsejump, to_case, casejump, call, enter, exit, callprog, exitprog, ktrap, perform, execute, settled, instruct}
use Rattle.laws.specs.Faults.{FaultsKeep, StopsKeep, CallsKeep}

abbrev Stored : View → Out → List ℕ → List ℕ → Type 0
Stored v (next r) c q = Unit {0}
Stored v (faults f) c q = (c ≡ v.common) × (q ≡ v.own)
Stored v (calls k) c q = (c ≡ v.common) × (q ≡ v.own)

record Kept (v : View) (d : Effect) : Type 0 where
  stores : Stored v d.out d.common d.own

module _ (v : View) where
  either : (b : Bool) {d e : Effect} → Kept v d → Kept v e → Kept v (if b d e)
  either b s t = split b (λ e. rw e s) (λ e. rw e t)

  fails : (f : ℕ) → Kept v (faulted v f)
  fails f = record { stores = (refl, refl) }

  goes_on_lem : {r : Regs} {c q : List ℕ} → Kept v (effect (next r) c q)
  goes_on_lem = record { stores = tt }

  -- ---- the words that the instructions are told in
  with_code : (k : ℕ) {d : Effect} → Kept v d → Kept v (needs_code v k d)
  with_code k s = either (leb (past v k) (n v)) s (fails 7)

  with_words : (k : ℕ) {d : Effect} → Kept v d → Kept v (needs_words v k d)
  with_words k s = either (leb (v.regs.s + k) v.regs.b) s (fails 7)

  with_target : (t : ℕ) {d : Effect} → Kept v d → Kept v (to_target v t d)
  with_target t s = either (ltb t (n v)) s (fails 7)

  with_room : (k : ℕ) {d : Effect} → Kept v d → Kept v (needs_room v k d)
  with_room k s = either (leb (v.floor + k) v.regs.s) s (fails 6)

  pushes_kept : (a : ℕ) (r : Reckoned) → Kept v (pushes v a r)
  pushes_kept a (word x) = with_room 1 goes_on_lem
  pushes_kept a (fault f) = fails f

  replaces_kept : (a s : ℕ) (r : Reckoned) → Kept v (replaces v a s r)
  replaces_kept a s (word x) = goes_on_lem
  replaces_kept a s (fault f) = fails f

  stays_kept : (a : ℕ) (r : Reckoned) → Kept v (stays v a r)
  stays_kept a (word x) = goes_on_lem
  stays_kept a (fault f) = fails f

  taken_kept : (r : Reckoned) → Kept v (to_case v r)
  taken_kept (word k) = with_target (arg v (3 + k)) goes_on_lem
  taken_kept (fault f) = fails f

  stores_kept : (p : Place) (x s : ℕ) → Kept v (stores v p x s)
  stores_kept (in_common k) x s = goes_on_lem
  stores_kept (in_own k) x s = goes_on_lem
  stores_kept nowhere x s = fails 2

  end_kept : (result : ℕ) → Kept v (end_job v result)
  unfolding end_job
  end_kept result = either (ltb v.floor v.regs.saved_s) goes_on_lem (fails 6)

  -- ---- the instruction of a code
  perform_kept : (code : ℕ) → Kept v (perform v code)
  unfolding perform newline pushconst pushind copyword localaddr pop index range unary binary jump falsejump casejump call enter exit callprog exitprog ktrap
  perform_kept code =
      let s : ℕ = v.regs.s in
      let t : ℕ = arg v 1 in
      let m : ℕ = v.regs.b + 2 + t in
      let old : ℕ = local v v.regs.b in
      let framed : Bool = leb s v.regs.b && leb m v.regs.c && leb m old && leb old v.regs.c && ltb (local v (v.regs.b + 1)) (n v) in
      either (eqb code 0) (with_code 2 goes_on_lem)
      (either (eqb code 1) (with_code 2 (pushes_kept (past v 2) (word t)))
      (either (eqb code 2) (with_words 1 (replaces_kept (past v 1) s (fetched v (located v (top v)))))
      (either (eqb code 3) (with_words 2 (stores_kept (located v (under v)) (top v) (s + 2)))
      (either (eqb code 4) (with_code 2 (pushes_kept (past v 2) (local_addr_w v.regs.b t)))
      (either (eqb code 5) (with_words 1 goes_on_lem)
      (either (eqb code 6) (with_code 4 (with_words 2 (replaces_kept (past v 4) (s + 1) (index_w (under v) (top v) t (arg v 2) (arg v 3)))))
      (either (eqb code 7) (with_code 3 (with_words 1 (stays_kept (past v 3) (range_w (top v) t (arg v 2)))))
      (either (eqb code 8 || eqb code 11) (with_words 1 (replaces_kept (past v 1) s (unary_w code (top v))))
      (either (leb 9 code && leb code 19) (with_words 2 (replaces_kept (past v 1) (s + 1) (binary_w code (under v) (top v))))
      (either (eqb code 20) (with_code 2 (with_target t goes_on_lem))
      (either (eqb code 21) (with_code 2 (with_words 1 (either (eqb (top v) 0) (with_target t goes_on_lem) goes_on_lem)))
      (either (eqb code 22) (with_code (3 + arg v 2) (with_words 1 (taken_kept (case_w (top v) t (arg v 2)))))
      (either (eqb code 23) (with_code 2 (with_target t (with_room 1 goes_on_lem)))
      (either (eqb code 24) (with_code 2 (with_room (t + 1) goes_on_lem))
      (either (eqb code 25) (with_code 2 (either framed goes_on_lem (fails 7)))
      (either (eqb code 26) (with_code 3 (either v.regs.in_job (fails 7) (with_words (arg v 2) (either v.holding (fails 8) (with_target t goes_on_lem)))))
      (either (eqb code 27) (either v.regs.in_job (end_kept v.regs.reason) (fails 7))
      (either (eqb code 28) (with_code 2 (either v.regs.in_job (fails 7) (either (leb t 11) (record { stores = (refl, refl) }) (fails 7))))
      (fails 7)))))))))))))))))))

  -- ---- one instruction with its job
  execute_kept : Kept v (execute v)
  unfolding execute
  execute_kept = either (ltb v.regs.address (n v)) (perform_kept (op v)) (fails 7)

  settled_kept : (o : Out) {d : Effect} → Kept v d → Kept v (settled v o d)
  settled_kept (next r) k = k
  settled_kept (faults f) k = either v.regs.in_job (end_kept f) k
  settled_kept (calls c) k = k

  instruct_kept : Kept v (instruct v)
  unfolding instruct
  instruct_kept = either (takes_stop v) (end_kept v.regs.reason) (settled_kept (execute v).out execute_kept)

  -- ---- what it answers tells the stores after it
  answered : {d : Effect} {o : Out} → Kept v d → d.out ≡ o → Stored v o d.common d.own
  answered {d} k e = subst (λ o. Stored v o d.common d.own) e k.stores

  all_same : (d : Effect) (o : Out) → d.out ≡ o → (d.common ≡ v.common) × (d.own ≡ v.own) → d ≡ effect o v.common v.own
  all_same d o e s = rw (← e, ← s.0, ← s.1)

pub faults_keep : FaultsKeep
faults_keep v code f e = all_same v (perform v code) (faults f) e (answered v (perform_kept v code) e)

pub stops_keep : StopsKeep
stops_keep v f e = all_same v (instruct v) (faults f) e (answered v (instruct_kept v) e)

pub calls_keep : CallsKeep
calls_keep v k e = all_same v (instruct v) (calls k) e (answered v (instruct_kept v) e)
