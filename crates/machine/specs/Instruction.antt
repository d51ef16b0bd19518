-- The instructions of document 01, codes 0 to 28, in its order, and one instruction with its job
use Rattle.std.specs.Prelude.{true, ◌&&◌, ◌||◌, ℕ, ◌+◌, ◌-◌, ltb, leb, eqb, set}
use Rattle.notation.specs.If.{if}
use Rattle.word.specs.Word.{Reckoned, word, fault, unary_w, binary_w, local_addr_w, range_w, index_w, case_w}
use Rattle.machine.specs.declared.Regs.{Regs}
use Rattle.machine.specs.View.{View, Out, next, faults, calls, Effect, effect, n, op, arg, past, local, top, under, marks, faulted, goes, goes_with, needs_code, needs_words, to_target, needs_room, pushes, replaces, stays, located, fetched, stores, cleared}
use Rattle.machine.specs.Job.{end_job, takes_stop}

-- ---- 0 NEWLINE n; 1 PUSHCONST c
unfoldable pub newline : View → Effect
newline v =
    needs_code v 2
    (effect (next (marks v.regs (past v 2) (arg v 1) v.regs.s v.regs.b)) v.common v.own)

unfoldable pub pushconst : View → Effect
pushconst v = needs_code v 2 (pushes v (past v 2) (word (arg v 1)))

-- 2 PUSHIND (address to word); 3 COPYWORD (pop value, then address; store)
unfoldable pub pushind : View → Effect
pushind v = needs_words v 1 (replaces v (past v 1) v.regs.s (fetched v (located v (top v))))

unfoldable pub copyword : View → Effect
copyword v = needs_words v 2 (stores v (located v (under v)) (top v) (v.regs.s + 2))

-- 4 LOCALADDR d (push B + d); 5 POP
unfoldable pub localaddr : View → Effect
localaddr v = needs_code v 2 (pushes v (past v 2) (local_addr_w v.regs.b (arg v 1)))

unfoldable pub pop : View → Effect
pop v = needs_words v 1 (goes v (past v 1) (v.regs.s + 1))

-- 6 INDEX min max len (pop i; top address grows by (i - min) times len); 7 RANGE min max (top stays)
unfoldable pub index : View → Effect
index v = needs_code v 4 (needs_words v 2 (replaces v (past v 4) (v.regs.s + 1) (index_w (under v) (top v) (arg v 1) (arg v 2) (arg v 3))))

unfoldable pub range : View → Effect
range v = needs_code v 3 (needs_words v 1 (stays v (past v 3) (range_w (top v) (arg v 1) (arg v 2))))

-- 8 NOT and 11 NEG; 9 AND, 10 OR and 12 ADD to 19 GREATER: "the later pushed is the right one"
unfoldable pub unary : View → ℕ → Effect
unary v code = needs_words v 1 (replaces v (past v 1) v.regs.s (unary_w code (top v)))

unfoldable pub binary : View → ℕ → Effect
binary v code = needs_words v 2 (replaces v (past v 1) (v.regs.s + 1) (binary_w code (under v) (top v)))

-- 20 JUMP t; 21 FALSEJUMP t (jumps on 0)
unfoldable pub jump : View → Effect
jump v = needs_code v 2 (to_target v (arg v 1) (goes v (arg v 1) v.regs.s))

unfoldable pub falsejump : View → Effect
falsejump v =
    needs_code v 2
    (needs_words v 1
    (if (eqb (top v) 0) (to_target v (arg v 1) (goes v (arg v 1) (v.regs.s + 1))) (goes v (past v 2) (v.regs.s + 1))))

-- 22 CASEJUMP min m t1..tm (outside min..min+m-1: fault 3)
abbrev pub to_case : View → Reckoned → Effect
to_case v (word k) = to_target v (arg v (3 + k)) (goes v (arg v (3 + k)) (v.regs.s + 1))
to_case v (fault f) = faulted v f

unfoldable pub casejump : View → Effect
casejump v = needs_code v (3 + arg v 2) (needs_words v 1 (to_case v (case_w (top v) (arg v 1) (arg v 2))))

-- 23 CALL t (push return)
unfoldable pub call : View → Effect
call v =
    needs_code v 2
    (to_target v (arg v 1) (needs_room v 1 (goes_with v (arg v 1) (v.regs.s - 1) (v.regs.s - 1) (past v 2))))

-- 24 ENTER m (push B, B := S, push m zeros)
unfoldable pub enter : View → Effect
enter v =
    let m : ℕ = arg v 1 in
    let s : ℕ = v.regs.s in
    needs_code v 2
    (needs_room v (m + 1)
    (effect (next (marks v.regs (past v 2) v.regs.line (s - 1 - m) (s - 1))) v.common
    (cleared (set v.own (s - 1 - 2048) v.regs.b) (s - 1 - m - 2048) m)))

-- 25 EXIT p (needs S <= B <= C-2-p, old B from B+2+p to C, return 0 to n-1, else 7; S := B+2+p)
unfoldable pub exit : View → Effect
exit v =
    let s : ℕ = v.regs.b + 2 + arg v 1 in
    let old : ℕ = local v v.regs.b in
    let back : ℕ = local v (v.regs.b + 1) in
    needs_code v 2
    (if (leb v.regs.s v.regs.b && leb s v.regs.c && leb s old && leb old v.regs.c && ltb back (n v))
    (effect (next (marks v.regs back v.regs.line s old)) v.common v.own) (faulted v 7))

-- 26 CALLPROG t p: "needs no held gate (8) and p words on the stack. Then C := S, B := S"; in a job it is 7
abbrev pub in_job : Regs → ℕ → ℕ → Regs
in_job r t p =
    record { address = t; line = r.line; s = r.s; b = r.s; c = r.s; in_job = true; saved_s = r.s; saved_b = r.b; saved_address = r.address + 3; p = p; reason = 0 }

unfoldable pub callprog : View → Effect
callprog v =
    needs_code v 3
    (if v.regs.in_job (faulted v 7)
    (needs_words v (arg v 2)
    (if v.holding (faulted v 8)
    (to_target v (arg v 1) (effect (next (in_job v.regs (arg v 1) (arg v 2))) v.common v.own)))))

-- 27 EXITPROG: "result 0, or the stop's reason", and reason 0 is no stop; "outside a job is 7"
unfoldable pub exitprog : View → Effect
exitprog v = if v.regs.in_job (end_job v v.regs.reason) (faulted v 7)

-- 28 KTRAP k (0 to 11, else 7), in a job 7
unfoldable pub ktrap : View → Effect
ktrap v =
    needs_code v 2
    (if v.regs.in_job (faulted v 7)
    (if (leb (arg v 1) 11) (effect (calls (arg v 1)) v.common v.own) (faulted v 7)))

-- ---- the instruction of a code; any other code is 7
unfoldable pub perform : View → ℕ → Effect
perform v code =
    if (eqb code 0) (newline v)
    (if (eqb code 1) (pushconst v)
    (if (eqb code 2) (pushind v)
    (if (eqb code 3) (copyword v)
    (if (eqb code 4) (localaddr v)
    (if (eqb code 5) (pop v)
    (if (eqb code 6) (index v)
    (if (eqb code 7) (range v)
    (if (eqb code 8 || eqb code 11) (unary v code)
    (if (leb 9 code && leb code 19) (binary v code)
    (if (eqb code 20) (jump v)
    (if (eqb code 21) (falsejump v)
    (if (eqb code 22) (casejump v)
    (if (eqb code 23) (call v)
    (if (eqb code 24) (enter v)
    (if (eqb code 25) (exit v)
    (if (eqb code 26) (callprog v)
    (if (eqb code 27) (exitprog v)
    (if (eqb code 28) (ktrap v)
    (faulted v 7)))))))))))))))))))

-- "Running at address n is 7"
unfoldable pub execute : View → Effect
execute v = if (ltb v.regs.address (n v)) (perform v (op v)) (faulted v 7)

-- ---- one instruction of the process, in a job or not: a job ends "at a fault (result its number)"; else a fault stops the machine
abbrev pub settled : View → Out → Effect → Effect
settled v (next r) d = d
settled v (faults f) d = if v.regs.in_job (end_job v f) d
settled v (calls k) d = d

unfoldable pub instruct : View → Effect
instruct v = if (takes_stop v) (end_job v v.regs.reason) (settled v (execute v).out (execute v))
