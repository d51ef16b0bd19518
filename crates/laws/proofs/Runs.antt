-- What a sound state tells of the process that runs: its marks are in order, and its job's registers in their ranges
use mathlib.Core.Path.{◌≡◌}
use mathlib.Core.Bool.{Bool, true, ◌&&◌, ◌||◌, and-false}
use mathlib.Core.List.{List}
use Prim.Native.Nat.{ℕ, ◌+◌, ◌<◌, ◌≤◌}
use native.Mathlib.Omega.{arith}
use lib.Dec.{leb, eqb}
use lib.ListN.{length, length-take, length-drop}
use borrow.Author.Tests.{ltb-true, eq-eqb, ne_eqb, le-leb, lt-leb}
use Rattle.notation.specs.Upto.{all_to}
use Rattle.notation.proofs.Upto.{split, all_at}
use Rattle.machine.specs.declared.Regs.{Regs}
use Rattle.machine.specs.declared.Process.{Process}
use Rattle.machine.specs.declared.Machine.{Machine}
use Rattle.machine.specs.State.{nobody, proc}
use Rattle.machine.specs.Store.{World}
use Rattle.machine.specs.Step.{view}
use Rattle.machine.specs.Sound.{someone, job_ok, marks_ok, process_ok, numbers_ok, sound}
use Rattle.machine.specs.Offer.{stores_fit}
use Rattle.laws.specs.Marks.{Ordered, Fit}
use Rattle.notation.proofs.Test.{part, at_most, equal, second}

-- ---- the registers of a job
pub record InJob (n : ℕ) (r : Regs) : Type 0 where
  pub start : r.c ≡ r.saved_s
  pub frame : r.saved_s ≤ r.saved_b
  pub high : r.saved_b ≤ 4096
  pub region : r.c + r.p ≤ 4096
  pub back : r.saved_address ≤ n

pub in_job_lem : (n : ℕ) (r : Regs) → job_ok n r ≡ true → r.in_job ≡ true → InJob n r
unfolding job_ok
in_job_lem n r e i =
    record {
      start = equal r.c r.saved_s e (λ t. simp (i, t));
      frame = at_most r.saved_s r.saved_b e (λ t. simp (i, t, and-false));
      high = at_most r.saved_b 4096 e (λ t. simp (i, t, and-false));
      region = at_most (r.c + r.p) 4096 e (λ t. simp (i, t, and-false));
      back = at_most r.saved_address n e (λ t. simp (i, t, and-false));
    }

-- such a job, with no stop pending, is sound
pub job-starts : (n : ℕ) (r : Regs) → r.in_job ≡ true → r.reason ≡ 0 → InJob n r → job_ok n r ≡ true
unfolding job_ok
job-starts n r i z h =
    rw
    (i, z, eq-eqb _ _ h.start, le-leb _ _ h.frame, le-leb _ _ h.high, le-leb _ _ h.region, le-leb _ _ h.back)

-- C is at most 4096, in a job or not
pub job-high : (n : ℕ) (r : Regs) → job_ok n r ≡ true → r.c ≤ 4096
unfolding job_ok
job-high n r e =
    split r.in_job
    (λ i. let h = in_job_lem n r e i in omega arith)
    (λ i. let h = equal r.c 4096 e (λ t. simp (i, t)) in omega arith)

-- ---- the running process of a sound state
order : (n : ℕ) (p : Process) → marks_ok n p ≡ true → job_ok n p.regs ≡ true → Ordered (2048 + p.variables) n p.regs
unfolding marks_ok
order n p e j =
    record {
      low = omega arith;
      stack = at_most (2048 + p.variables) p.regs.s e (λ t. simp (t, and-false));
      frame = at_most p.regs.s p.regs.b e (λ t. simp (t, and-false));
      ceiling = at_most p.regs.b p.regs.c e (λ t. simp (t, and-false));
      address = at_most p.regs.address n e (λ t. simp (t, and-false));
      job = j;
    }

running_created : (m : Machine) → numbers_ok m ≡ true → m.running < 10 → m.running < m.created
unfolding numbers_ok
running_created m e l =
    let s = part (someone m m.running) e (λ t. simp (t, and-false)) in
    ltb-true _ _ (second (eqb m.running nobody) _ s (ne_eqb m.running nobody (omega arith)))

running_ok : (m : Machine) → sound m ≡ true → m.running < 10 → process_ok m m.running ≡ true
unfolding sound
running_ok m e l =
    let ok : ℕ → Bool = λ q. leb m.created q || process_ok m q in
    let c = running_created m (part (numbers_ok m) e (λ t. rw t)) l in
    let s = all_at ok 10 m.running (part (all_to ok 10) e (λ t. simp (t, and-false))) l in
    second (leb m.created m.running) _ s (lt-leb _ _ c)

pub running_order : (m : Machine) → sound m ≡ true → m.running < 10
    → Ordered (2048 + (proc m m.running).variables) m.length (proc m m.running).regs
unfolding process_ok
running_order m e l =
    let p : Process = proc m m.running in
    let ok = running_ok m e l in
    let marks = part (marks_ok m.length p) ok (λ t. simp (t, and-false)) in
    order m.length p marks (part (job_ok m.length p.regs) ok (λ t. simp (t, and-false)))

-- the instruction that it executes sees its marks in order, and stores of their lengths
pub running_fit : (code : List ℕ) (w : World) → stores_fit w.common w.private && eqb (length code) w.machine.length ≡ true
    → sound w.machine ≡ true → w.machine.running < 10 → Fit (view code w)
running_fit code w fits ok l =
    let n = equal (length code) w.machine.length fits (λ t. simp (t, and-false)) in
    let common = equal (length w.common) 2048 fits (λ t. rw t) in
    let private = equal (length w.private) 20480 fits (λ t. simp (t, and-false)) in
    record { ordered = rw n (running_order w.machine ok l); common = common; own = simp (length-take, length-drop, private) (omega arith) }
