-- A burst: up to a budget of instructions of one process that need no kernel
use Rattle.std.specs.Prelude.{Bool, ◌&&◌, not, List, ℕ, zero, suc, ◌+◌, leb, eqb, length}
use Rattle.notation.specs.If.{if}
use Rattle.word.specs.Word.{number_of}
use Rattle.machine.specs.declared.Regs.{Regs}
use Rattle.machine.specs.View.{View, Out, next, faults, calls, Effect, n}
use Rattle.machine.specs.Instruction.{instruct}
use Rattle.machine.specs.Sound.{job_ok}
use Rattle.engine.specs.declared.burst.Burst.{Burst}
use Rattle.engine.specs.declared.burst.End.{End}
use Rattle.engine.specs.declared.burst.End.TheVariants.{Budget, Call, Fault, Job, Unfit}

-- ---- how it ends: at its budget; in front of kernel call k, or of the instruction that faults with f; at a job's end; or it is
-- not fit to begin
pub data Ending : Type 0 where
  at_budget : Ending
  at_call : ℕ → Ending
  at_fault : ℕ → Ending
  at_jobs_end : Ending
  unfit : Ending

-- the registers then, how many instructions went on, the end, and the stores
pub record Bursted : Type 0 where
  pub regs : Regs
  pub count : ℕ
  pub ending : Ending
  pub common : List ℕ
  pub own : List ℕ

abbrev pub bursted : Regs → ℕ → Ending → List ℕ → List ℕ → Bursted
bursted r count e c q = record { regs = r; count = count; ending = e; common = c; own = q }

-- the cases of the code's answer, with the stores after it
abbrev pub end_says : End → Ending
end_says Budget = at_budget
end_says (Call k) = at_call k
end_says (Fault f) = at_fault (number_of f)
end_says Job = at_jobs_end
end_says Unfit = unfit

abbrev pub burst_says : Burst → List ℕ → List ℕ → Bursted
burst_says x c q = bursted x.regs x.count (end_says x.end) c q

-- the same process with other registers and stores
abbrev pub moved : View → Regs → List ℕ → List ℕ → View
moved v r c q = record { code = v.code; floor = v.floor; holding = v.holding; regs = r; common = c; own = q }

-- a job that was there is over
abbrev pub job_over : Regs → Regs → Bool
job_over before after = before.in_job && not after.in_job

abbrev pub follows : Out → View → Effect → ℕ → Bursted → Bursted
follows (next r) v d count more = if (job_over v.regs r) (bursted r (count + 1) at_jobs_end d.common d.own) more
follows (faults f) v d count more = bursted v.regs count (at_fault f) v.common v.own
follows (calls k) v d count more = bursted v.regs count (at_call k) v.common v.own

abbrev pub after : Out → View → Effect → View
after (next r) v d = moved v r d.common d.own
after (faults f) v d = v
after (calls k) v d = v

-- up to k instructions, where count went on before
unfoldable pub goes_on : ℕ → ℕ → View → Bursted
goes_on count zero v = bursted v.regs count at_budget v.common v.own
goes_on count (suc k) v =
    let d : Effect = instruct v in
    let more : Bursted = goes_on (count + 1) k (after d.out v d) in
    follows d.out v d count more

-- what a sound state gives: the marks in their order, a job's registers in their ranges, the stores and the code of their sizes
abbrev pub fit : View → Bool
fit v =
    eqb (length v.common) 2048
    && eqb (length v.own) 2048
    && leb (n v) 16256
    && leb v.regs.address (n v)
    && leb 2048 v.floor
    && leb v.floor v.regs.s
    && leb v.regs.s v.regs.b
    && leb v.regs.b v.regs.c
    && job_ok (n v) v.regs

unfoldable pub bursts : ℕ → View → Bursted
bursts budget v = if (fit v) (goes_on 0 budget v) (bursted v.regs 0 unfit v.common v.own)
