-- One instruction keeps the marks, the stores' lengths and, in a job, the words outside its region
use mathlib.Core.Path.{◌≡◌, refl, sym, subst, ◌∙◌}
use mathlib.Core.Bool.{Bool, true, false, ◌&&◌, ◌||◌, and-false}
use mathlib.Core.List.{List, [], ◌∷◌}
use mathlib.Core.Logic.{◌⊎◌, ⊎_elim}
use Prim.Native.Nat.{ℕ, suc, ◌+◌, ◌-◌, ◌<◌, ◌≤◌}
use native.Mathlib.Omega.{arith}
use lib.Dec.{ltb, leb, eqb}
use lib.IntN.{pos, ◌+ℤ◌}
use lib.ListN.{length, get_or, set, replicate, length-set, length-replicate}
use lib.Seq.{get_or-set_other, sets}
use borrow.Author.Tests.{ltb-true, leb-true}
use Rattle.notation.specs.If.{if}
use Rattle.notation.proofs.Upto.{split, never, both}
use Rattle.word.specs.Word.{Reckoned, signed}
use Rattle.machine.specs.declared.Regs.{Regs}
use Rattle.machine.specs.Store.{place_of}
use Rattle.machine.specs.View.{View, Out, next, faults, calls, Effect, effect, n, op, arg, past, local, top, under, marks, faulted, goes_with, needs_code, needs_words, to_target, needs_room, pushes, replaces, stays, in_region, located, stores, cleared}
use Rattle.machine.specs.Job.{end_job, takes_stop}
use Rattle.machine.specs.Instruction.{newline, pushconst, pushind, copyword, localaddr, pop, index, range, unary, binary, jump, falsejump, to_case, casejump, call, enter, exit, callprog, exitprog, ktrap, perform, execute, settled, instruct}
use Rattle.machine.specs.Sound.{job_ok}
use Rattle.laws.specs.Marks.{Ordered, Fit, MarksKept, StoresKept, JobRegion}
use Rattle.laws.proofs.Rows.{row_sets}
use Rattle.laws.proofs.SmallFaults.{Small, a_word, a_fault, fitted-small, range_small, index-small, case_small, unary-small, binary-small, fetched-small}
use Rattle.laws.proofs.Runs.{in_job_lem, job-starts, job-high}
use Rattle.notation.proofs.Test.{part, at_most}

-- ---- what an instruction keeps: the marks where the process goes on, the common store, its own part
-- who starts a job holds no gate; who calls the kernel is in no job, and its address may pass the call; a fault is at most 9
pub record Goes (v : View) (r : Regs) : Type 0 where
  pub ordered : Ordered v.floor (n v) r
  pub starts : r.in_job ≡ true → v.regs.in_job ≡ false → v.holding ≡ false

pub record Asks (v : View) : Type 0 where
  pub free : v.regs.in_job ≡ false
  pub past : v.regs.address + 2 ≤ n v

abbrev pub Marked : View → Out → Type 0
Marked v (next r) = Goes v r
Marked v (faults f) = f ≤ 9
Marked v (calls k) = Asks v

abbrev Outside : View → ℕ → Type 0
Outside v k = (2048 + k < v.floor) ⊎ (v.regs.c + v.regs.p ≤ 2048 + k)

record Common (v : View) (c : List ℕ) : Type 0 where
  long : length c ≡ 2048
  job : v.regs.in_job ≡ true → c ≡ v.common

record Own (v : View) (q : List ℕ) : Type 0 where
  long : length q ≡ 2048
  job : v.regs.in_job ≡ true → (k : ℕ) → Outside v k → get_or q k 0 ≡ get_or v.own k 0

record Kept (v : View) (d : Effect) : Type 0 where
  marks : Marked v d.out
  common : Common v d.common
  own : Own v d.own

module _ (v : View) (fit : Fit v) where
  high : v.regs.c ≤ 4096
  high = job-high (n v) v.regs fit.ordered.job

  -- ---- stores
  common-same : Common v v.common
  common-same = record { long = fit.common; job = λ j. refl }

  own_same : Own v v.own
  own_same = record { long = fit.own; job = λ j k o. refl }

  -- an address that in a job lies in its region
  abbrev Inside : ℕ → Type 0
  Inside a = v.regs.in_job ≡ true → (v.floor ≤ a) × (a < v.regs.c + v.regs.p)

  -- the common store lies below L, so no job writes there
  common-set : (a x : ℕ) → a < 2048 → Inside a → Common v (set v.common a x)
  common-set a x l h =
      record { long = length-set v.common a x ∙ fit.common; job = λ j. absurd (omega (arith, h j)) }

  own-set : {q : List ℕ} → Own v q → (i x : ℕ) → Inside (2048 + i) → Own v (set q i x)
  own-set {q} o i x h =
      record {
        long = length-set q i x ∙ o.long;
        job = λ j k out. get_or-set_other q i k x 0 (⊎_elim (λ a. omega (arith, h j)) (λ a. omega (arith, h j)) out) ∙ o.job j k out;
      }

  own_sets : {q : List ℕ} → Own v q → (i : ℕ) (xs : List ℕ) → v.floor ≤ 2048 + i → 2048 + (i + length xs) ≤ v.regs.c
      → Own v (sets q i xs)
  own_sets o i [] l h = o
  own_sets o i (x ∷ xs) l h = own_sets (own-set o i x (λ j. omega arith)) (suc i) xs (omega arith) (omega arith)

  own-cleared : {q : List ℕ} → Own v q → (i m : ℕ) → v.floor ≤ 2048 + i → 2048 + (i + m) ≤ v.regs.c
      → Own v (cleared q i m)
  own-cleared {q} o i m l h =
      let zeros : List ℕ = replicate m 0 in
      let e : length zeros ≡ m = length-replicate m 0 in
      rw (row_sets q i m zeros e (omega (arith, high, o.long))) (own_sets o i zeros l (omega arith))

  -- ---- the words that the instructions are told in
  if_kept : (b : Bool) {d e : Effect} → (b ≡ true → Kept v d) → (b ≡ false → Kept v e) → Kept v (if b d e)
  if_kept b f g = split b (λ t. rw t (f t)) (λ t. rw t (g t))

  either : (b : Bool) {d e : Effect} → Kept v d → Kept v e → Kept v (if b d e)
  either b s t = if_kept b (λ _. s) (λ _. t)

  fails : {f : ℕ} → f ≤ 9 → Kept v (faulted v f)
  fails l = record { marks = l; common = common-same; own = own_same }

  fails_7 : Kept v (faulted v 7)
  fails_7 = fails (omega arith)

  needs : (a b f : ℕ) {d : Effect} → f ≤ 9 → (a ≤ b → Kept v d) → Kept v (if (leb a b) d (faulted v f))
  needs a b f l s = if_kept (leb a b) (λ t. s (leb-true a b t)) (λ t. fails l)

  with_code : (k : ℕ) {d : Effect} → (past v k ≤ n v → Kept v d) → Kept v (needs_code v k d)
  with_code k = needs (past v k) (n v) 7 (omega arith)

  with_words : (k : ℕ) {d : Effect} → (v.regs.s + k ≤ v.regs.b → Kept v d) → Kept v (needs_words v k d)
  with_words k = needs (v.regs.s + k) v.regs.b 7 (omega arith)

  with_target : (t : ℕ) {d : Effect} → (t < n v → Kept v d) → Kept v (to_target v t d)
  with_target t = needs (suc t) (n v) 7 (omega arith)

  with_room : (k : ℕ) {d : Effect} → (v.floor + k ≤ v.regs.s → Kept v d) → Kept v (needs_room v k d)
  with_room k = needs (v.floor + k) v.regs.s 6 (omega arith)

  -- ---- the process goes on: with registers in order, of which the job's are in their ranges
  abbrev Stands : Regs → Type 0
  Stands r = (v.floor ≤ r.s) × (r.s ≤ r.b) × (r.b ≤ r.c) × (r.address ≤ n v)

  next_kept : {r : Regs} {c q : List ℕ} → job_ok (n v) r ≡ true → (r.in_job ≡ true → v.regs.in_job ≡ false → v.holding ≡ false)
      → Stands r → Common v c → Own v q → Kept v (effect (next r) c q)
  next_kept j starts h c o =
      record {
        marks =
            record {
              ordered = record { low = fit.ordered.low; stack = h.0; frame = h.1; ceiling = h.2; address = h.3; job = j };
              starts = starts;
            };
        common = c;
        own = o;
      }

  -- the job's registers are as before
  goes_over : {a line s b : ℕ} {c q : List ℕ} → Stands (marks v.regs a line s b) → Common v c → Own v q
      → Kept v (effect (next (marks v.regs a line s b)) c q)
  unfolding job_ok
  goes_over h c o = next_kept fit.ordered.job (λ j i. never (sym j ∙ i)) h c o

  goes_on_lem : {a line s b : ℕ} → Stands (marks v.regs a line s b)
      → Kept v (effect (next (marks v.regs a line s b)) v.common v.own)
  goes_on_lem h = goes_over h common-same own_same

  -- with a word of the stack at S
  abbrev OnStack : ℕ → ℕ → Type 0
  OnStack a s = (a ≤ n v) × (v.floor ≤ s) × (s < v.regs.b)

  goes_with_lem : {a s : ℕ} (x : ℕ) → OnStack a s → Kept v (goes_with v a s s x)
  goes_with_lem {s = s} x h = goes_over (omega arith) common-same (own-set own_same (s - 2048) x (λ j. omega arith))

  pushes_kept : (a : ℕ) {r : Reckoned} → Small r → a ≤ n v → Kept v (pushes v a r)
  pushes_kept a (a_word {x}) h = with_room 1 (λ t. goes_with_lem x (omega arith))
  pushes_kept a (a_fault f l) h = fails l

  replaces_kept : (a s : ℕ) {r : Reckoned} → Small r → OnStack a s → Kept v (replaces v a s r)
  replaces_kept a s (a_word {x}) h = goes_with_lem x h
  replaces_kept a s (a_fault f l) h = fails l

  stays_kept : (a : ℕ) {r : Reckoned} → Small r → a ≤ n v → Kept v (stays v a r)
  stays_kept a a_word h = goes_on_lem (omega arith)
  stays_kept a (a_fault f l) h = fails l

  in_region_lem : (a : ℕ) → in_region v a ≡ true → Inside a
  in_region_lem a r j =
      let t : leb v.floor a && ltb a (v.regs.c + v.regs.p) ≡ true = rw j at r in
      let e = both (leb v.floor a) _ t in
      (leb-true _ _ e.0, ltb-true _ _ e.1)

  stores_at : (a x s : ℕ) → Stands (marks v.regs (past v 1) v.regs.line s v.regs.b)
      → Kept v (stores v (located v a) x s)
  unfolding located place_of
  stores_at a x s h =
      split (in_region v a)
      (λ r. split (ltb a 2048)
      (λ t. rw (r, t) (goes_over h (common-set a x (ltb-true _ _ t) (in_region_lem a r)) own_same))
      (λ t. split (ltb a 4096)
      (λ u. rw (r, t, u) (goes_over h common-same (own-set own_same (a - 2048) x (λ j. omega (arith, in_region_lem a r j)))))
      (λ u. rw (r, t, u) (fails (omega arith)))))
      (λ r. rw r (fails (omega arith)))

  -- the end of a job: the result stands at C - 1, in its region
  end_kept : (result : ℕ) → v.regs.in_job ≡ true → Kept v (end_job v result)
  unfolding end_job job_ok
  end_kept result j =
      let job = in_job_lem (n v) v.regs fit.ordered.job j in
      needs (suc v.floor) v.regs.saved_s 6 (omega arith)
      (λ t. next_kept refl (λ j i. never (sym j)) (omega arith) common-same (own-set own_same (v.regs.saved_s - 1 - 2048) result (λ j. omega arith)))

  -- ---- the instructions that are more than a line, where the address is below n
  module _ (runs : v.regs.address < n v) where
    falsejump_kept : Kept v (falsejump v)
    unfolding falsejump
    falsejump_kept =
        with_code 2
        (λ c. with_words 1
        (λ t. either (eqb (top v) 0) (with_target (arg v 1) (λ g. goes_on_lem (omega arith))) (goes_on_lem (omega arith))))

    taken_kept : {r : Reckoned} → Small r → v.regs.s + 1 ≤ v.regs.b → Kept v (to_case v r)
    taken_kept (a_word {x = k}) h = with_target (arg v (3 + k)) (λ g. goes_on_lem (omega arith))
    taken_kept (a_fault f l) h = fails l

    casejump_kept : Kept v (casejump v)
    unfolding casejump
    casejump_kept = with_code (3 + arg v 2) (λ c. with_words 1 (λ t. taken_kept (case_small (top v) (arg v 1) (arg v 2)) t))

    enter_kept : Kept v (enter v)
    unfolding enter
    enter_kept =
        let m : ℕ = arg v 1 in
        let s : ℕ = v.regs.s - 1 in
        with_code 2
        (λ c. with_room (m + 1)
        (λ t.
        let framed = own-set own_same (s - 2048) v.regs.b (λ j. omega arith) in
        goes_over (omega arith) common-same (own-cleared framed (s - m - 2048) m (omega arith) (omega arith))))

    exit_kept : Kept v (exit v)
    unfolding exit
    exit_kept =
        let s : ℕ = v.regs.b + 2 + arg v 1 in
        let old : ℕ = local v v.regs.b in
        let back : ℕ = local v (v.regs.b + 1) in
        with_code 2
        (λ c. if_kept (leb v.regs.s v.regs.b && leb s v.regs.c && leb s old && leb old v.regs.c && ltb back (n v))
        (λ t.
        let target = at_most (suc back) (n v) t (λ f. simp (f, and-false)) in
        let frame = at_most s old t (λ f. simp (f, and-false)) in
        let ceiling = at_most old v.regs.c t (λ f. simp (f, and-false)) in
        goes_on_lem (omega arith))
        (λ t. fails_7))

    -- a job starts with C and B at S, and the p words above them
    callprog_kept : Kept v (callprog v)
    unfolding callprog
    callprog_kept =
        with_code 3
        (λ c. either v.regs.in_job fails_7
        (with_words (arg v 2)
        (λ t. if_kept v.holding (λ _. fails (omega arith))
        (λ h. with_target (arg v 1)
        (λ g. next_kept (job-starts _ _ refl refl (omega (arith, high))) (λ j i. h) (omega arith) common-same own_same)))))

    ktrap_kept : Kept v (ktrap v)
    unfolding ktrap
    ktrap_kept =
        with_code 2
        (λ c. if_kept v.regs.in_job (λ _. fails_7)
        (λ free. needs (arg v 1) 11 7 (omega arith) (λ k. record { marks = record { free = free; past = c }; common = common-same; own = own_same })))

    -- ---- the instruction of a code
    perform_kept : (code : ℕ) → Kept v (perform v code)
    unfolding perform newline pushconst pushind copyword localaddr pop index range unary binary jump call exitprog
    perform_kept code =
        let s : ℕ = v.regs.s in
        let address = index-small (under v) (top v) (arg v 1) (arg v 2) (arg v 3) in
        either (eqb code 0) (with_code 2 (λ c. goes_on_lem (omega arith)))
        (either (eqb code 1) (with_code 2 (pushes_kept (past v 2) (a_word {x = arg v 1})))
        (either (eqb code 2) (with_words 1 (λ t. replaces_kept (past v 1) s (fetched-small v (located v (top v))) (omega arith)))
        (either (eqb code 3) (with_words 2 (λ t. stores_at (under v) (top v) (s + 2) (omega arith)))
        (either (eqb code 4) (with_code 2 (pushes_kept (past v 2) (fitted-small (pos v.regs.b +ℤ signed (arg v 1)))))
        (either (eqb code 5) (with_words 1 (λ t. goes_on_lem (omega arith)))
        (either (eqb code 6) (with_code 4 (λ c. with_words 2 (λ t. replaces_kept (past v 4) (s + 1) address (omega arith))))
        (either (eqb code 7) (with_code 3 (λ c. with_words 1 (λ t. stays_kept (past v 3) (range_small (top v) (arg v 1) (arg v 2)) c)))
        (either (eqb code 8 || eqb code 11) (with_words 1 (λ t. replaces_kept (past v 1) s (unary-small code (top v)) (omega arith)))
        (either (leb 9 code && leb code 19) (with_words 2 (λ t. replaces_kept (past v 1) (s + 1) (binary-small code (under v) (top v)) (omega arith)))
        (either (eqb code 20) (with_code 2 (λ c. with_target (arg v 1) (λ g. goes_on_lem (omega arith))))
        (either (eqb code 21) falsejump_kept
        (either (eqb code 22) casejump_kept
        (either (eqb code 23) (with_code 2 (λ c. with_target (arg v 1) (λ g. with_room 1 (λ t. goes_with_lem (past v 2) (omega arith)))))
        (either (eqb code 24) enter_kept
        (either (eqb code 25) exit_kept
        (either (eqb code 26) callprog_kept
        (either (eqb code 27) (if_kept v.regs.in_job (end_kept v.regs.reason) (λ t. fails_7))
        (either (eqb code 28) ktrap_kept
        fails_7))))))))))))))))))

  execute_kept : Kept v (execute v)
  unfolding execute
  execute_kept = needs (suc v.regs.address) (n v) 7 (omega arith) (λ runs. perform_kept runs (op v))

  -- ---- one instruction with its job
  settled_kept : (o : Out) {d : Effect} → Kept v d → Kept v (settled v o d)
  settled_kept (next r) k = k
  settled_kept (faults f) k = if_kept v.regs.in_job (end_kept f) (λ t. k)
  settled_kept (calls c) k = k

  instruct_kept : Kept v (instruct v)
  unfolding instruct takes_stop
  instruct_kept =
      if_kept (takes_stop v)
      (λ t. end_kept v.regs.reason (part v.regs.in_job t (λ f. rw f)))
      (λ t. settled_kept (execute v).out execute_kept)

pub marked : (v : View) → Fit v → Marked v (instruct v).out
marked v fit = (instruct_kept v fit).marks

pub marks_kept : MarksKept
marks_kept v r fit e = let m = subst (Marked v) e (marked v fit) in m.ordered

pub stores_kept : StoresKept
stores_kept v fit = let k = instruct_kept v fit in (k.common.long, k.own.long)

pub job_region : JobRegion
job_region v fit j = let k = instruct_kept v fit in (k.common.job j, k.own.job j)
