-- From the step that stops a job, its stop stays pending, whatever is offered, until the job ends
use mathlib.Core.Path.{◌≡◌, refl, sym, ap, subst, ◌∙◌}
use mathlib.Core.Bool.{Bool, true, false, ◌&&◌, and-false}
use mathlib.Core.List.{List, [], ◌∷◌, ◌++◌}
use mathlib.Core.Logic.{⊎_elim}
use Prim.Native.Nat.{ℕ, ◌+◌, ◌-◌, ◌*◌, ◌<◌, ◌≤◌}
use native.Mathlib.Omega.{arith}
use lib.Dec.{leb, ltb, eqb}
use lib.ListN.{length, get_or, set, take, drop, get_or-append, length-set}
use lib.Seq.{length-take-le, get_or-append-add, get_or-set_same}
use borrow.Author.Tests.{ltb-true, lt-leb, eqb-true, eqb-false, eq-eqb}
use Rattle.notation.proofs.Upto.{split, never, both, below?}
use Rattle.image.specs.Refusal.{Reply, taken, refused, ◌then◌}
use Rattle.machine.specs.declared.Regs.{Regs}
use Rattle.machine.specs.declared.Process.{Process}
use Rattle.machine.specs.declared.Machine.{Machine}
use Rattle.machine.specs.State.{nobody, no_process, proc, with_process, with_regs}
use Rattle.machine.specs.Store.{World, own, with_part}
use Rattle.machine.specs.View.{Out, next, faults, calls, Effect}
use Rattle.machine.specs.Job.{after_job}
use Rattle.machine.specs.Instruction.{instruct}
use Rattle.machine.specs.Classes.{select}
use Rattle.machine.specs.Clock.{tick, bell}
use Rattle.machine.specs.Device.{device_done}
use Rattle.machine.specs.Call.{on, stack_word, caller, passed, popped, with_top, stop_answer, stopping, stop_job, call5, kernel}
use Rattle.machine.specs.Step.{view, Stepped, stepped, onward, with_machine, selected, halted, resulted, step}
use Rattle.machine.specs.Sound.{sound}
use Rattle.machine.specs.Offer.{refusal6, refusal7, refusal8, refusal9, Offered, did, refuses, offered, offer_step, offer_tick, offer_bell, offer_done, after, Offer, a_step, a_tick, a_done, a_bell, offer, after_all}
use Rattle.machine.specs.Release.{is_completed, by_call}
use Rattle.machine.specs.Shape.{Shaped}
use Rattle.promises.specs.StoppedJob.{is_in_job, Pending, stays_in_job, result_of, PendingJobNeverReturns0, PendingJobReturns, answers0, stops_job, StoppedJobNeverReturns0, StoppedJobReturns, StillPending}
use Rattle.promises.proofs.Laws.{idle-step}
use Rattle.laws.proofs.Runs.{in_job_lem}
use Rattle.laws.proofs.Marks.{Marked, marked}
use Rattle.kept.proofs.Tested.{tested}
use Rattle.kept.proofs.Registers.{stops_of}
use Rattle.kept.proofs.SoundKept.{sound_kept}
use Rattle.kept.proofs.Fixed.{Fixed, also, fixed_select, fixed_tick, fixed_bell, fixed_device_end}
use Rattle.kept.proofs.Spares.{set_other}
use Rattle.kept.proofs.Stepping.{Able, private-long, able-fit, step-moved, able_again, step_took}
use Rattle.promises.proofs.JobEnds.{Returns, Does, goes, fails, ends, instruct_does}
use Rattle.notation.proofs.Test.{part, equal}

-- what becomes of a pending stop: it is still so, or the job has ended and returned the reason or the number of a fault
data Fate (why q : ℕ) (w u : World) : Type 0 where
  pends : w.machine.created ≤ u.machine.created → is_in_job u q ≡ true → (proc u.machine q).regs.reason ≡ why → Fate why q w u
  over : is_in_job u q ≡ false → Returns why (result_of u q) → Fate why q w u

as_before : {why q : ℕ} {w : World} (u : World) → Pending why q w → w.machine.created ≤ u.machine.created
    → (proc u.machine q).regs ≡ (proc w.machine q).regs → Fate why q w u
as_before u p c e = pends c (ap (λ r. r.in_job) e ∙ p.job) (ap (λ r. r.reason) e ∙ p.reason)

by_fixed : {why q : ℕ} {w : World} (u : World) → Pending why q w → Fixed w.machine u.machine → Fate why q w u
by_fixed {q = q} u p f = as_before u p (omega (arith, f.created)) (f.regs q)

-- ---- a step of the process itself
-- word k of a part that is put into the private store
part_word : (i : ℕ) (x q : List ℕ) (k : ℕ) → length x ≡ 2048 → 2048 * i ≤ length q → k < 2048
    → get_or (with_part i x q) (2048 * i + k) 0 ≡ get_or x k 0
part_word i x q k long room l =
    let front : length (take (2048 * i) q) ≡ 2048 * i = length-take-le (2048 * i) q room in
    let rest : List ℕ = drop (2048 * i + 2048) q in
    ap (λ (a : ℕ). get_or (with_part i x q) (a + k) 0) (sym front) ∙ get_or-append-add (take (2048 * i) q) (x ++ rest) k 0 ∙ get_or-append x rest 0 k (omega arith)

module _ (code : List ℕ) (w : World) (why : ℕ) (able : Able code w) (p : Pending why w.machine.running w) where
  abbrev i : ℕ
  i = w.machine.running

  abbrev r₀ : Regs
  r₀ = (proc w.machine i).regs

  runs : i < nobody
  runs = omega (arith, p.made, (tested w.machine p.shape p.whole).placed.numbers.few)

  -- its registers after the instruction
  next-regs : (r : Regs) → (proc (select (with_process w.machine i (with_regs (proc w.machine i) r))) i).regs ≡ r
  unfolding with_process
  next-regs r =
      (fixed_select _).regs i ∙ ap (λ (x : Process). x.regs) (get_or-set_same w.machine.processes i _ no_process (omega (arith, runs, p.shape.processes)))

  next_created : (x : Process) → w.machine.created ≤ (select (with_process w.machine i x)).created
  unfolding with_process
  next_created x = omega (arith, (fixed_select (with_process w.machine i x)).created)

  -- the result stands at S
  abbrev ended_by : ℕ → World
  ended_by x = (resulted w (next (after_job r₀ (r₀.saved_s - 1))) w.common (set (view code w).own (r₀.saved_s - 1 - 2048) x)).world

  returned : (x : ℕ) → Returns r₀.reason x → (view code w).floor < r₀.saved_s → Fate why i w (ended_by x)
  returned x r l =
      let k : ℕ = r₀.saved_s - 1 - 2048 in
      let part : List ℕ = (view code w).own in
      let fit = able-fit code w able runs in
      let job = in_job_lem (length code) r₀ fit.ordered.job p.job in
      let small : k < 2048 = omega (arith, fit.ordered.low) in
      let e = next-regs (after_job r₀ (r₀.saved_s - 1)) in
      let word = part_word i (set part k x) w.private k (length-set part k x ∙ fit.own) (omega (arith, private-long code w able, runs)) small in
      let there = get_or-set_same part k x 0 (omega (arith, fit.own)) in
      let is : result_of (ended_by x) i ≡ x = ap (λ (r : Regs). get_or (with_part i (set part k x) w.private) (own i r.s) 0) e ∙ word ∙ there in
      over (ap (λ r. r.in_job) e) (subst (Returns why) (sym is) (subst (λ z. Returns z x) p.reason r))

  resulted_fate : {d : Effect} → Does (view code w) d → Fate why i w (resulted w d.out d.common d.own).world
  unfolding halted
  resulted_fate (goes {r = r} j s) =
      let e = next-regs r in
      pends (next_created _) (ap (λ r. r.in_job) e ∙ j) (ap (λ r. r.reason) e ∙ s ∙ p.reason)
  resulted_fate (fails f l) = pends (omega arith) p.job p.reason
  resulted_fate (ends x r l) = returned x r l

  own_fate : Fate why i w (step code w).world
  unfolding step
  own_fate = rw (lt-leb nobody i runs) (resulted_fate (instruct_does (view code w) p.job))

-- ---- whatever is offered
module _ (code : List ℕ) (w : World) (why q : ℕ) (p : Pending why q w) where
  step_fate : Able code w → Fate why q w (step code w).world
  step_fate able =
      split (eqb q w.machine.running)
      (λ t. let e = eqb-true q _ t in rw e (own_fate code w why able (rw e at p)))
      (λ t. below? w.machine.running nobody
      (λ runs.
      let k = step-moved code w able runs in
      as_before _ p k.created (k.regs q p.made (eqb-false q _ t) (λ z. p.some (sym p.reason ∙ z))))
      (λ l. rw (idle-step code w l) (as_before w p (omega arith) refl)))

  step-offered : (o : Offered) → offer_step code w ≡ o → Fate why q w (after w o)
  step-offered (did s) e = let t = step_took code w s p.shape e in rw (← t.same) (step_fate t.able)
  step-offered (refuses k) e = as_before w p (omega arith) refl

  is_offered : (r : Reply) (s : Stepped) → Fate why q w s.world → Fate why q w (after w (offered r s))
  is_offered (taken vs) s f = f
  is_offered (refused k vs) s f = as_before w p (omega arith) refl

  abbrev m : Machine
  m = w.machine

  offer_fate : (x : Offer) → Fate why q w (after w (offer code w x))
  unfolding offer offer_tick offer_bell offer_done device_done
  offer_fate a_step = step-offered (offer_step code w) refl
  offer_fate a_tick =
      is_offered (refusal7 m then refusal8 m) (stepped (with_machine w (tick m)) onward 0) (by_fixed _ p (fixed_tick m))
  offer_fate (a_done d status arg) =
      is_offered (refusal6 w then refusal7 m then refusal8 m then refusal9 m d status) (stepped (device_done w d status arg) onward 0)
      (by_fixed _ p (also (fixed_device_end m d) (fixed_select _)))
  offer_fate a_bell =
      is_offered (refusal7 m then refusal8 m) (stepped (with_machine w (bell m)) onward 0) (by_fixed _ p (fixed_bell m))

  -- ---- over all offers
  next_pends : (x : Offer) → is_in_job (after w (offer code w x)) q ≡ true → Pending why q (after w (offer code w x))
  next_pends x j =
      let k = sound_kept code w x p.shape p.whole in
      still k.0 k.1 j (offer_fate x)
    where
      still : {u : World} → Shaped u.machine → sound u.machine ≡ true → is_in_job u q ≡ true → Fate why q w u → Pending why q u
      still shape whole j (pends c i r) = record { shape = shape; whole = whole; made = omega (arith, p.made); job = i; reason = r; some = p.some }
      still shape whole j (over i r) = never (sym j ∙ i)

  ended : {u : World} → is_in_job u q ≡ false → Fate why q w u → Returns why (result_of u q)
  ended n (pends c i r) = never (sym i ∙ n)
  ended n (over i r) = r

stays-first : (code : List ℕ) (w : World) (q : ℕ) (xs : List Offer) → stays_in_job code w q xs ≡ true → is_in_job w q ≡ true
unfolding stays_in_job
stays-first code w q [] e = e
stays-first code w q (x ∷ xs) e = (both (is_in_job w q) _ e).0

all_pends : (code : List ℕ) (why q : ℕ) (xs : List Offer) (w : World) → Pending why q w → stays_in_job code w q xs ≡ true
    → Pending why q (after_all code w xs)
unfolding stays_in_job after_all
all_pends code why q [] w p e = p
all_pends code why q (x ∷ xs) w p e =
    let rest = (both (is_in_job w q) _ e).1 in
    let next = next_pends code w why q p x (stays-first code _ q xs rest) in
    all_pends code why q xs _ next rest

-- ---- the step that stops the job
set_self : (m : Machine) (q : ℕ) (p : Process) → q < length m.processes → proc (with_process m q p) q ≡ p
unfolding with_process
set_self m q p l = get_or-set_same m.processes q p no_process l

passed-same : (m : Machine) (s : ℕ) → (length (passed m s).processes ≡ length m.processes) × ((passed m s).created ≡ m.created)
unfolding passed with_process
passed-same m s = (length-set m.processes m.running _, refl)

-- another process than the caller is stopped, with a reason
module _ (m : Machine) (q reason s : ℕ) (other : q ≡ m.running → ⊥) where
  passed-regs : (proc (passed m s) q).regs ≡ (proc m q).regs
  unfolding passed
  passed-regs = set_other m m.running _ q other

  passed_answer : stop_answer (passed m s) q reason ≡ stop_answer m q reason
  unfolding stop_answer
  passed_answer = rw (passed-regs, (passed-same m s).1)

  stopped-regs : stop_answer m q reason ≡ 0 → q < length m.processes
      → (proc (stop_job (passed m s) q reason) q).regs ≡ stopping (proc m q).regs reason
  unfolding stop_job
  stopped-regs e l =
      rw (eq-eqb _ 0 (passed_answer ∙ e))
      (ap (λ (x : Process). x.regs) (set_self (passed m s) q _ (omega (arith, (passed-same m s).0))) ∙ ap (λ (r : Regs). stopping r reason) passed-regs)

-- call 5 that is completed gives its answer
call5-on : (w : World) → is_completed (kernel w 5) ≡ true
    → kernel w 5 ≡ on (with_top w (stop_job (popped w 1) (stack_word w 1) (stack_word w 0)) (stop_answer w.machine (stack_word w 1) (stack_word w 0)))
unfolding kernel call5
call5-on w e = split (leb ((caller w).regs.s + 2) (caller w).regs.b) (λ t. rw t) (λ t. never (sym (rw t at e)))

module _ (code : List ℕ) (w : World) (q : ℕ) (able : Able code w) (runs : w.machine.running < nobody) where
  abbrev reason : ℕ
  reason = stack_word w 0

  abbrev is_stop : ℕ → Bool
  is_stop k = eqb k 5 && is_completed (kernel w k) && eqb (stack_word w 1) q && answers0 w q

  -- who calls is in no job, so that it is another that is stopped
  stop_other : (k : ℕ) → (instruct (view code w)).out ≡ calls k → stop_answer w.machine q reason ≡ 0 → q ≡ w.machine.running → ⊥
  stop_other k e z same =
      let asks = subst (Marked (view code w)) e (marked (view code w) (able-fit code w able runs)) in
      let job = (stops_of w.machine q reason z).job in
      never (sym job ∙ rw same asks.free)

  stop_world : (k : ℕ) → (instruct (view code w)).out ≡ calls k → is_stop k ≡ true
      → (step code w).world ≡ selected (with_top w (stop_job (popped w 1) q reason) (stop_answer w.machine q reason))
  unfolding step
  stop_world k e t =
      let five = equal k 5 t (λ f. rw f) in
      let done = part (is_completed (kernel w k)) t (λ f. simp (f, and-false)) in
      let named = equal (stack_word w 1) q t (λ f. simp (f, and-false)) in
      rw (lt-leb nobody w.machine.running runs, e, five, call5-on w (rw five at done), named)

  stop_pends : (k : ℕ) → (instruct (view code w)).out ≡ calls k → is_stop k ≡ true → Pending reason q (step code w).world
  stop_pends k e t =
      let zero = equal (stop_answer w.machine q reason) 0 t (λ f. simp (f, and-false)) in
      let stops = stops_of w.machine q reason zero in
      let few = (tested w.machine able.shape able.sound).placed.numbers.few in
      let regs = stopped-regs w.machine q reason _ (stop_other k e zero) zero (omega (arith, stops.made, able.shape.processes)) in
      let u = stop_world k e t in
      let again = able_again code w able runs in
      let all : (proc (step code w).world.machine q).regs ≡ stopping (proc w.machine q).regs reason =
      ap (λ (x : World). (proc x.machine q).regs) u ∙ (fixed_select _).regs q ∙ regs in
      record {
        shape = again.shape;
        whole = again.sound;
        made = omega (arith, stops.made, (step-moved code w able runs).created);
        job = ap (λ r. r.in_job) all ∙ stops.job;
        reason = ap (λ r. r.reason) all;
        some = λ z. omega (arith, stops.low);
      }

  by_out : (o : Out) → (instruct (view code w)).out ≡ o → by_call o is_stop ≡ true → Pending reason q (step code w).world
  by_out (next r) e t = never (sym t)
  by_out (faults f) e t = never (sym t)
  by_out (calls k) e t = stop_pends k e t

first_pends : (code : List ℕ) (w : World) (q : ℕ) (s : Stepped) → Shaped w.machine → offer code w a_step ≡ did s → stops_job code w q ≡ true
    → Pending (stack_word w 0) q s.world
unfolding offer stops_job
first_pends code w q s shape e t =
    let took = step_took code w s shape e in
    let b = both (ltb w.machine.running nobody) _ t in
    rw (← took.same) (by_out code w q took.able (ltb-true _ _ b.0) _ refl b.1)

-- ---- the theorems
pub still_pending : StillPending
still_pending code w why q xs p stay = all_pends code why q xs w p stay

pub pending_job_returns : PendingJobReturns
pending_job_returns code w why q xs x p stay n =
    let last = all_pends code why q xs w p stay in
    ended code _ why q last n (offer_fate code _ why q last x)

pub pending_job_never_returns_0 : PendingJobNeverReturns0
pending_job_never_returns_0 code w why q xs x p stay n z =
    ⊎_elim (λ r. p.some (sym r ∙ z)) (λ r. omega arith) (pending_job_returns code w why q xs x p stay n)

pub stopped_job_returns : StoppedJobReturns
stopped_job_returns code w q s xs x shape e t stay n =
    pending_job_returns code s.world (stack_word w 0) q xs x (first_pends code w q s shape e t) stay n

pub stopped_job_never_returns_0 : StoppedJobNeverReturns0
stopped_job_never_returns_0 code w q s xs x shape e t stay n =
    pending_job_never_returns_0 code s.world (stack_word w 0) q xs x (first_pends code w q s shape e t) stay n
