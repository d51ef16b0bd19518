-- A change of a process's registers alone keeps the state nearly sound: an instruction, a caller that goes past its call, a stopped job
use mathlib.Core.Path.{◌≡◌, refl}
use mathlib.Core.Bool.{true, ◌||◌, not, or-true}
use Prim.Native.Nat.{ℕ, ◌+◌, ◌<◌, ◌≤◌}
use native.Mathlib.Omega.{arith}
use lib.Dec.{ltb, leb, eqb}
use lib.Seq.{get_or-set_same}
use borrow.Author.Tests.{eqb-true, eq-eqb, leb-false, ltb-false, le-leb, not-false}
use Rattle.notation.proofs.Upto.{split, neither}
use Rattle.word.specs.Word.{bit}
use Rattle.machine.specs.declared.Regs.{Regs}
use Rattle.machine.specs.declared.Process.{Process}
use Rattle.machine.specs.declared.Machine.{Machine}
use Rattle.machine.specs.State.{nobody, no_process, proc, with_process, with_regs}
use Rattle.machine.specs.View.{marks}
use Rattle.machine.specs.Call.{passed, stop_answer, stopping, stop_job}
use Rattle.machine.specs.Sound.{job_ok}
use Rattle.laws.proofs.Runs.{in_job_lem}
use Rattle.kept.proofs.Steady.{Ranged, Steady, steady_regs}
use Rattle.kept.proofs.Nearly.{waits, Nearly, Placed, in_run}
use Rattle.kept.proofs.Moves.{remade}

-- a process in a job holds none, and runs or is ready
reset : {m : Machine} {h x : ℕ} (q : ℕ) (r : Regs) → q < m.created
    → Ranged m.length (proc m q).variables (proc m q).slice r
    → job_ok m.length r ≡ true
    → (r.in_job ≡ true → ((proc m q).holds ≡ 0) × (waits m q + bit (proc m q).ended ≡ 0))
    → Nearly m h x → Nearly (with_process m q (with_regs (proc m q) r)) h x
reset {m} q r b ranged job free f =
    let s = f.processes.each q b in
    remade q (with_regs (proc m q) r) b refl refl refl
    (steady_regs s r ranged job (λ t. (free t).0)) (λ c i t. refl) (λ t. (free t).1) f

-- ---- the running process
module _ {m : Machine} (runs : m.running < nobody) (f : Placed m) where
  abbrev p : Process
  p = proc m m.running

  made : m.running < m.created
  made = f.runs.made runs

  steady : Steady m.length p
  steady = f.processes.each m.running made

  -- it runs, so that it may be in a job where it holds none
  pub reset_running : (r : Regs) → Ranged m.length p.variables p.slice r → job_ok m.length r ≡ true
      → (r.in_job ≡ true → p.holds ≡ 0) → Placed (with_process m m.running (with_regs p r))
  reset_running r ranged job free =
      let o = in_run f runs in
      reset m.running r made ranged job (λ t. (free t, rw o.alive (omega (arith, o.waits)))) f

  -- the caller past its call, with S at s
  abbrev goes_past : ℕ → Regs
  goes_past s = marks p.regs (p.regs.address + 2) p.regs.line s p.regs.b

  pub passed_kept : (s : ℕ) → p.regs.address + 2 ≤ m.length → 2048 + p.variables ≤ s → s ≤ p.regs.b → Placed (passed m s)
  unfolding passed job_ok
  passed_kept s past low high =
      let r = steady.marks in
      reset_running (goes_past s)
      (record {
        variables = r.variables;
        stack = low;
        frame = high;
        ceiling = r.ceiling;
        address = past;
        short = r.short;
        tens = r.tens;
      })
      steady.job steady.free

  -- it is as before but for the address and S
  pub passed-proc : (s : ℕ) → proc (passed m s) m.running ≡ with_regs p (goes_past s)
  unfolding passed with_process
  passed-proc s = get_or-set_same m.processes m.running _ no_process (omega (arith, f.processes.ten))

-- ---- a job is stopped
pub record Stops (m : Machine) (q reason : ℕ) : Type 0 where
  pub made : q < m.created
  pub job : (proc m q).regs.in_job ≡ true
  pub low : 16 ≤ reason
  pub high : reason ≤ 255

pub stops_of : (m : Machine) (q reason : ℕ) → stop_answer m q reason ≡ 0 → Stops m q reason
unfolding stop_answer
stops_of m q reason e =
    let r : Regs = (proc m q).regs in
    split (leb m.created q) (λ t. let u = rw t at e in absurd (omega arith))
    (λ t₁. split (not r.in_job) (λ t. let u = rw (t₁, t) at e in absurd (omega arith))
    (λ t₂. split (ltb reason 16 || ltb 255 reason) (λ t. let u = rw (t₁, t₂, t) at e in absurd (omega arith))
    (λ t₃.
    let b = neither (ltb reason 16) (ltb 255 reason) t₃ in
    record {
      made = leb-false m.created q t₁;
      job = not-false _ t₂;
      low = ltb-false reason 16 b.0;
      high = ltb-false 255 reason b.1;
    })))

stopping_ok : (n : ℕ) (r : Regs) (reason : ℕ) → job_ok n r ≡ true → r.in_job ≡ true → 16 ≤ reason → reason ≤ 255
    → job_ok n (stopping r reason) ≡ true
unfolding job_ok
stopping_ok n r reason e i low high =
    let h = in_job_lem n r e i in
    rw (
      i,
      eq-eqb _ _ h.start,
      le-leb _ _ h.frame,
      le-leb _ _ h.high,
      le-leb _ _ h.region,
      le-leb _ _ h.back,
      le-leb _ _ low,
      le-leb _ _ high,
    )
    (or-true (eqb reason 0))

pub stop_kept : {m : Machine} (q reason : ℕ) → Placed m → Placed (stop_job m q reason)
unfolding stop_job
stop_kept {m} q reason f =
    split (eqb (stop_answer m q reason) 0)
    (λ t.
    let a = stops_of m q reason (eqb-true _ 0 t) in
    let s = f.processes.each q a.made in
    let r = s.marks in
    rw t
    (reset q (stopping (proc m q).regs reason) a.made
    (record {
      variables = r.variables;
      stack = r.stack;
      frame = r.frame;
      ceiling = r.ceiling;
      address = r.address;
      short = r.short;
      tens = r.tens;
    })
    (stopping_ok m.length (proc m q).regs reason s.job a.job a.low a.high)
    (λ u. (s.free u, f.jobs q a.made u)) f))
    (λ t. rw t f)
