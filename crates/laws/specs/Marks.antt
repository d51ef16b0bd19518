-- One instruction keeps the marks in their order, touches only the common store and the process's own part, and in a job
-- writes nothing outside the job's region
use Rattle.std.specs.Prelude.{◌≡◌, true, ◌⊎◌, ℕ, ◌+◌, ◌<◌, ◌≤◌, length, get_or}
use Rattle.machine.specs.declared.Regs.{Regs}
use Rattle.machine.specs.View.{View, next, n}
use Rattle.machine.specs.Instruction.{instruct}
use Rattle.machine.specs.Sound.{job_ok}

-- as in every sound state: L <= S <= B <= C, the address at most n, a job's registers in their ranges
pub record Ordered (floor n : ℕ) (r : Regs) : Type 0 where
  pub low : 2048 ≤ floor
  pub stack : floor ≤ r.s
  pub frame : r.s ≤ r.b
  pub ceiling : r.b ≤ r.c
  pub address : r.address ≤ n
  pub job : job_ok n r ≡ true

-- what an instruction of a sound state sees
pub record Fit (v : View) : Type 0 where
  pub ordered : Ordered v.floor (n v) v.regs
  pub common : length v.common ≡ 2048
  pub own : length v.own ≡ 2048

-- the marks keep their order, and the address stays at most n
abbrev pub MarksKept : Type 0
MarksKept =
    (v : View) (r : Regs)
    → Fit v
    → (instruct v).out ≡ next r
    → Ordered v.floor (n v) r

-- the stores keep their lengths
abbrev pub StoresKept : Type 0
StoresKept =
    (v : View) → Fit v → (length (instruct v).common ≡ 2048) × (length (instruct v).own ≡ 2048)

-- a job changes no word outside L to C + p - 1: none of the common store, and of its own part none below L or from C + p on
abbrev pub JobRegion : Type 0
JobRegion =
    (v : View)
    → Fit v
    → v.regs.in_job ≡ true
    → ((instruct v).common ≡ v.common)
    × ((k : ℕ) → (2048 + k < v.floor) ⊎ (v.regs.c + v.regs.p ≤ 2048 + k) → get_or (instruct v).own k 0 ≡ get_or v.own k 0)
