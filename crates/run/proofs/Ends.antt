-- How a burst of a sound state ends, and what the code that follows it needs
use mathlib.Core.Path.{◌≡◌, refl, sym, ap, subst, ◌∙◌}
use mathlib.Core.Bool.{true, false, and-false}
use mathlib.Core.List.{List}
use Prim.Native.Nat.{ℕ, zero, suc, ◌+◌, ◌-◌, ◌*◌, ◌<◌, ◌≤◌}
use native.Mathlib.Omega.{arith}
use lib.ListN.{length}
use lib.Seq.{drop-drop, get_or-set_same, set-set}
use lib.Dec.{ltb}
use borrow.Author.Tests.{lt-ltb, le-leb}
use borrow.Rule.Slice.PartMut.{mid_of, put_mid}
use Rattle.notation.proofs.Upto.{split}
use Rattle.machine.specs.declared.Regs.{Regs}
use Rattle.machine.specs.declared.Process.{Process}
use Rattle.machine.specs.declared.Machine.{Machine}
use Rattle.machine.specs.State.{nobody, no_process, proc, floor_of, with_process, with_regs}
use Rattle.machine.specs.Store.{World, part_of}
use Rattle.machine.specs.View.{View, Out, next, faults, calls, Effect}
use Rattle.machine.specs.Instruction.{instruct}
use Rattle.machine.specs.Classes.{selects}
use Rattle.machine.specs.Call.{Called, on, starts, stops, kernel}
use Rattle.machine.specs.Step.{view, Stepped, called, halted}
use Rattle.laws.proofs.Runs.{job-high}
use Rattle.laws.proofs.Marks.{marked}
use Rattle.kept.proofs.Tested.{tested}
use Rattle.kept.proofs.Stepping.{Able, private-long, able-fit, able_again}
use Rattle.engine.specs.declared.burst.Burst.{Burst}
use Rattle.engine.specs.Burst.{Ending, at_budget, at_call, at_fault, at_jobs_end, unfit, Bursted, end_says, burst_says, moved, job_over, goes_on, bursts}
use Rattle.kernel.specs.declared.answer.Decision.{Decision}
use Rattle.kernel.specs.Did.{Outcome, outcome, decided, traps}
use Rattle.run.specs.Turn.{put, later, follows, turn, quota_of}
use Rattle.run.specs.Said.{world}
use Rattle.run.specs.Ran.{Accepted, Leaves, Callable, Countable, counted, following, moved_on, settled}
use Rattle.run.proofs.Parts.{put_same, put_view, put-put}
use Rattle.run.proofs.Turns.{few, room, own-long, burst_step, steps_on, runs_on, stays_on, is_fit}
use Rattle.notation.proofs.Test.{at_most}

-- ---- the part of the private store that a burst is lent
module _ (code : List ℕ) (i : ℕ) (p : Process) (quota : ℕ) (common q : List ℕ) where
  abbrev seen_by : List ℕ → View
  seen_by o = record { code = code; floor = floor_of p; holding = ltb 0 p.holds; regs = p.regs; common = common; own = o }

  pub burst_put :
      (x : Burst) (c o : List ℕ) →
      burst_says x c o ≡ bursts quota (seen_by (mid_of (2048 * i) (2048 * i + 2048 - 2048 * i) q)) →
      (m : Machine) → m.running ≡ i → proc m i ≡ p →
      Leaves (bursts quota (view code (world m common q))) m x q c (put_mid (2048 * i) (2048 * i + 2048 - 2048 * i) q o)
  burst_put x c o e m r s =
      let z : 2048 * i + 2048 - 2048 * i ≡ 2048 = omega arith in
      let v : view code (world m common q) ≡ seen_by (part_of i q) = rw (r, s) in
      let h : burst_says x c o ≡ bursts quota (seen_by (part_of i q)) = rw z at e in
      record {
        regs = rw v (ap (λ (b : Bursted). b.regs) h);
        count = rw v (ap (λ (b : Bursted). b.count) h);
        end = rw v (ap (λ (b : Bursted). b.ending) h);
        common = rw v (ap (λ (b : Bursted). b.common) h);
        private = rw (v, r, z, ap (λ (b : Bursted). b.own) h, drop-drop 2048 (2048 * i) q);
      }

-- ---- how a burst ends: after at most so many instructions; a call and a fault are not counted yet
abbrev pub Ends : List ℕ → Ending → World → ℕ → ℕ → Type 0
Ends code at_budget v count most = count ≤ most
Ends code at_jobs_end v count most = count ≤ most
Ends code (at_call k) v count most = (count < most) × Able code v × (v.machine.running < nobody) × ((instruct (view code v)).out ≡ calls k)
Ends code (at_fault f) v count most = (count < most) × (f ≤ 9)
Ends code unfit v count most = ⊥

abbrev EndsWell : List ℕ → World → ℕ → Bursted → Type 0
EndsWell code w most x = Ends code x.ending (put w x.regs x.common x.own) x.count most

module _ (code : List ℕ) (w : World) (able : Able code w) (runs : w.machine.running < nobody) where
  abbrev v : View
  v = view code w

  abbrev d : Effect
  d = instruct v

  end-fault : (f : ℕ) → d.out ≡ faults f → (c k most : ℕ) → c + suc k ≡ most → EndsWell code w most (goes_on c (suc k) v)
  end-fault f e c k most z = rw (burst_step code w able runs (faults f) e c k) (omega arith, rw e at (marked v (able-fit code w able runs)))

  end-call : (j : ℕ) → d.out ≡ calls j → (c k most : ℕ) → c + suc k ≡ most → EndsWell code w most (goes_on c (suc k) v)
  end-call j e c k most z =
      rw (burst_step code w able runs (calls j) e c k)
      (subst (λ (u : World). (c < most) × Able code u × (u.machine.running < nobody) × ((instruct (view code u)).out ≡ calls j)) (sym (put_same code w)) (omega arith, able, runs, e))

  end-job : (r : Regs) → d.out ≡ next r → job_over v.regs r ≡ true → (c k most : ℕ) → c + suc k ≡ most → EndsWell code w most (goes_on c (suc k) v)
  end-job r e j c k most z = rw (burst_step code w able runs (next r) e c k, j) (omega arith)

  end-one : (r : Regs) → d.out ≡ next r → job_over v.regs r ≡ false → (c most : ℕ) → c + 1 ≡ most → EndsWell code w most (goes_on c 1 v)
  unfolding goes_on
  end-one r e j c most z = rw (burst_step code w able runs (next r) e c 0, j) (omega arith)

  end_more : (r : Regs) → d.out ≡ next r → job_over v.regs r ≡ false → (c k most : ℕ)
      → EndsWell code (put w r d.common d.own) most (goes_on (c + 1) k (view code (put w r d.common d.own)))
      → EndsWell code w most (goes_on c (suc k) v)
  end_more r e j c k most rest =
      let f = few code w able runs in
      let l = own-long code w able runs in
      let o = room code w able runs in
      let x : Bursted = goes_on (c + 1) k (moved v r d.common d.own) in
      let h = rw (put_view w r d.common d.own f l o code, put-put w r d.common d.own f l o x.regs x.common x.own) at rest in
      rw (burst_step code w able runs (next r) e c k, j) h

end-first : (code : List ℕ) (w : World) → Able code w → w.machine.running < nobody → (c most : ℕ) → c + 1 ≡ most → (o : Out) → (instruct (view code w)).out ≡ o
    → EndsWell code w most (goes_on c 1 (view code w))
end-first code w able runs c most z (faults f) e = end-fault code w able runs f e c 0 most z
end-first code w able runs c most z (calls j) e = end-call code w able runs j e c 0 most z
end-first code w able runs c most z (next r) e =
    split (job_over (view code w).regs r)
    (λ j. end-job code w able runs r e j c 0 most z)
    (λ j. end-one code w able runs r e j c most z)

end-next : (code : List ℕ) (w : World) → Able code w → w.machine.running < nobody → selects w.machine ≡ false → (c k most : ℕ) → c + suc k ≡ most
    → ((w' : World) → Able code w' → w'.machine.running < nobody → selects w'.machine ≡ false → EndsWell code w' most (goes_on (c + 1) k (view code w')))
    → (o : Out) → (instruct (view code w)).out ≡ o → EndsWell code w most (goes_on c (suc k) (view code w))
end-next code w able runs stays c k most z rest (faults f) e = end-fault code w able runs f e c k most z
end-next code w able runs stays c k most z rest (calls j) e = end-call code w able runs j e c k most z
end-next code w able runs stays c k most z rest (next r) e =
    split (job_over (view code w).regs r)
    (λ j. end-job code w able runs r e j c k most z)
    (λ j.
    let able' = subst (λ (x : Stepped). Able code x.world) (steps_on code w able runs r e stays) (able_again code w able runs) in
    end_more code w able runs r e j c k most (rest _ able' (runs_on code w able runs r e stays) (stays_on code w able runs r e stays)))

end_all : (code : List ℕ) (k : ℕ) (w : World) → Able code w → w.machine.running < nobody → selects w.machine ≡ false → (c most : ℕ) → c + suc k ≡ most
    → EndsWell code w most (goes_on c (suc k) (view code w))
end_all code zero w able runs stays c most z = end-first code w able runs c most (omega arith) _ refl
end_all code (suc k) w able runs stays c most z =
    end-next code w able runs stays c (suc k) most z (λ w' a r s. end_all code k w' a r s (c + 1) most (omega arith)) _ refl

ends_well : (code : List ℕ) (w : World) → Able code w → w.machine.running < nobody → (budget : ℕ) → 0 < budget
    → EndsWell code w (quota_of w.machine budget) (bursts (quota_of w.machine budget) (view code w))
unfolding bursts
ends_well code w able runs zero l = absurd (omega arith)
ends_well code w able runs (suc b) l =
    split (selects w.machine)
    (λ t. rw (t, is_fit code w able runs) (end-first code w able runs 0 1 (omega arith) _ refl))
    (λ t. rw (t, is_fit code w able runs) (end_all code b w able runs t 0 (suc b) (omega arith)))

-- ---- a kernel call of a sound state
callable : (code : List ℕ) (w : World) (k : ℕ) → Able code w → w.machine.running < nobody → (instruct (view code w)).out ≡ calls k → Callable w
callable code w k able runs e =
    let f = able-fit code w able runs in
    let o = f.ordered in
    let s = tested w.machine able.shape able.sound in
    let n = s.placed.numbers in
    let short = at_most w.machine.length 16256 n.header (λ t. simp (t, and-false)) in
    let high = job-high (length code) (proc w.machine w.machine.running).regs o.job in
    let r : Regs = (proc w.machine w.machine.running).regs in
    record {
      stores = able.stores;
      able = rw (
        lt-ltb _ _ runs,
        le-leb 1 _ n.some,
        le-leb _ 25 n.few_gates,
        le-leb 2048 r.s (omega (arith, o.low, o.stack)),
        le-leb _ _ o.frame,
        le-leb r.b 4096 (omega (arith, o.ceiling, high)),
        le-leb r.address 16256 (omega (arith, o.address, able.long, short)),
      );
    }

-- what is done after it is what the definition does
settled-call : (w : World) (count : ℕ) (x : Called) → settled (outcome w x) (count + 1) ≡ later count (called w x)
unfolding halted
settled-call w count (on v) = refl
settled-call w count (starts d v) = refl
settled-call w count (stops f) = refl

call-follows : (w : World) (k : ℕ) → Callable w → (count : ℕ) → settled (traps w k) (count + 1) ≡ later count (called w (kernel w k))
unfolding traps
call-follows w k can count = rw (can.stores, can.able) (settled-call w count (kernel w k))

-- ---- what follows a burst, by its end
settles : (code : List ℕ) (en : Ending) (v : World) (count most : ℕ) → Ends code en v count most → settled (following en v) (counted en count) ≡ follows en v count
settles code at_budget v count most h = refl
settles code at_jobs_end v count most h = refl
settles code (at_call k) v count most h = call-follows v k (callable code v k h.1 h.2 h.3) count
settles code (at_fault f) v count most h = settled-call v count (stops f)
settles code unfit v count most h = refl

ends_countable : (code : List ℕ) (en : Ending) (v : World) (count most : ℕ) → most ≤ 4294967295 → Ends code en v count most → Countable en count
ends_countable code at_budget v count most l h = tt
ends_countable code at_jobs_end v count most l h = tt
ends_countable code (at_call k) v count most l h = omega (arith, l, h.0)
ends_countable code (at_fault f) v count most l h = omega (arith, l, h.0)
ends_countable code unfit v count most l h = tt

-- the caller's record is put in its place once, whatever stood there
decided-twice : (m : Machine) (p : Process) (d : Decision) (c q : List ℕ) → decided (with_process m m.running p) d c q ≡ decided m d c q
unfolding with_process
decided-twice m p d c q = rw (set-set m.processes m.running p d.process)

-- ---- a turn is what follows its burst
module _ (code : List ℕ) (m : Machine) (c q : List ℕ) (budget : ℕ) (accepted : Accepted code (world m c q)) (runs : m.running < nobody) (some : 0 < budget) where
  abbrev w : World
  w = world m c q

  able : Able code w
  able = record { shape = accepted.shape; sound = accepted.sound; stores = accepted.stores; long = accepted.long }

  pub fit_burst : (m.running < 10) × ((proc m m.running).variables ≤ 2048) × (length q ≡ 20480)
  fit_burst =
      let o = (able-fit code w able runs).ordered in
      let high = job-high (length code) (proc m m.running).regs o.job in
      (runs, omega (arith, o.stack, o.frame, o.ceiling, high), private-long code w able)

  quota_most : quota_of m budget ≤ budget
  quota_most = split (selects m) (λ t. rw t (omega arith)) (λ t. rw t (omega arith))

  module _ (quota : ℕ) (same : quota ≡ quota_of m budget) (x : Burst) (c₁ q₁ : List ℕ)
      (e : Leaves (bursts quota (view code w)) m x q c₁ q₁) where
    follows_on : turn code (quota_of m budget) w ≡ follows (end_says x.end) (world (moved_on m x.regs) c₁ q₁) x.count
    unfolding turn
    follows_on = rw (e.regs, e.count, e.end, e.common, e.private, same)

    ends_at : Ends code (end_says x.end) (world (moved_on m x.regs) c₁ q₁) x.count (quota_of m budget)
    ends_at = rw (e.regs, e.count, e.end, e.common, e.private, same) (ends_well code w able runs budget some)

    pub countable_end : budget ≤ 4294967295 → Countable (end_says x.end) x.count
    countable_end l =
        ends_countable code (end_says x.end) (world (moved_on m x.regs) c₁ q₁) x.count (quota_of m budget) (omega (arith, l, quota_most)) ends_at

    pub turned_on : (d : Decision) (c₂ q₂ : List ℕ) → decided (moved_on m x.regs) d c₂ q₂ ≡ following (end_says x.end) (world (moved_on m x.regs) c₁ q₁)
        → settled (decided m d c₂ q₂) (counted (end_says x.end) x.count) ≡ turn code (quota_of m budget) w
    turned_on d c₂ q₂ h =
        let y : decided m d c₂ q₂ ≡ following (end_says x.end) (world (moved_on m x.regs) c₁ q₁) = sym (decided-twice m (with_regs (proc m m.running) x.regs) d c₂ q₂) ∙ h in
        ap (λ (o : Outcome). settled o (counted (end_says x.end) x.count)) y
        ∙ settles code (end_says x.end) (world (moved_on m x.regs) c₁ q₁) x.count (quota_of m budget) ends_at
        ∙ sym follows_on

-- ---- the caller after a burst is the one of the machine with the burst's registers
module _ (m : Machine) (r : Regs) (l : m.running < length m.processes) where
  pub moved-proc : proc (moved_on m r) m.running ≡ with_regs (proc m m.running) r
  unfolding with_process
  moved-proc = get_or-set_same m.processes m.running (with_regs (proc m m.running) r) no_process l
