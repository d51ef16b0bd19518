-- A created process by itself: what soundness asks of it, and which changes keep that
use mathlib.Core.Path.{◌≡◌, refl, sym, ◌∙◌}
use mathlib.Core.Bool.{true, false}
use Prim.Native.Nat.{ℕ, ◌+◌, ◌%◌, ◌<◌, ◌≤◌}
use native.Mathlib.Omega.{arith}
use lib.Dec.{leb}
use lib.ListN.{length, get_or}
use borrow.Author.Tests.{lt-ltb, lt-leb, le-leb}
use Rattle.notation.proofs.Upto.{split, never}
use Rattle.machine.specs.declared.Regs.{Regs}
use Rattle.machine.specs.declared.Process.{Process}
use Rattle.machine.specs.State.{started, changed, with_regs}
use Rattle.machine.specs.Gate.{entered, given}
use Rattle.machine.specs.Clock.{sliced}
use Rattle.machine.specs.Sound.{job_ok}
use Rattle.notation.proofs.Cells.{at_set}

-- its marks and its slice, with v variables, where the code has n words
pub record Ranged (n v slice : ℕ) (r : Regs) : Type 0 where
  pub variables : v ≤ 1024
  pub stack : 2048 + v ≤ r.s
  pub frame : r.s ≤ r.b
  pub ceiling : r.b ≤ r.c
  pub address : r.address ≤ n
  pub short : slice ≤ 190
  pub tens : slice % 10 ≡ 0

pub record Steady (n : ℕ) (p : Process) : Type 0 where
  pub marks : Ranged n p.variables p.slice p.regs
  pub job : job_ok n p.regs ≡ true
  -- it holds eight gates at most, by their numbers
  pub eight : p.holds ≤ 8
  pub small : (k : ℕ) → k < p.holds → get_or p.held k 0 < 25
  -- class 0 exactly if holding, otherwise 1 or 2
  pub zero : 0 < p.holds → p.class ≡ 0
  pub some : p.holds ≡ 0 → 1 ≤ p.class
  pub two : p.class ≤ 2
  -- ended processes and jobs hold none
  pub last : p.ended ≡ true → p.holds ≡ 0
  pub free : p.regs.in_job ≡ true → p.holds ≡ 0

abbrev pub ended : Process → Process
ended p = changed p p.regs p.slice p.class p.holds p.held true

module _ {n : ℕ} {p : Process} (s : Steady n p) where
  -- one gate more
  pub steady_holding : (g : ℕ) → length p.held ≡ 8 → p.holds ≤ 7 → g < 25 → p.ended ≡ false → p.regs.in_job ≡ false
      → Steady n (entered p g)
  unfolding entered
  steady_holding g e b c alive free =
      rw (lt-ltb p.holds 8 (omega arith))
      (record {
        marks = s.marks;
        job = s.job;
        eight = omega arith;
        small = λ k l. at_set (λ y. y < 25) p.held p.holds g 0 k (omega arith) (λ t. c) (λ t. s.small k (omega (arith, t)));
        zero = λ t. refl;
        some = λ t. absurd (omega arith);
        two = omega arith;
        last = λ t. never (sym t ∙ alive);
        free = λ t. never (sym t ∙ free);
      })

  -- one gate less
  pub steady_dropping : Steady n (given p)
  unfolding given
  steady_dropping =
      record {
        marks = s.marks;
        job = s.job;
        eight = omega (arith, s.eight);
        small = λ k l. s.small k (omega arith);
        zero = λ t. rw (lt-leb p.holds 1 (omega arith));
        some = λ t. rw (le-leb p.holds 1 (omega arith)) (omega arith);
        two = split (leb p.holds 1) (λ t. rw t (omega arith)) (λ t. rw t (omega arith));
        last = λ t. let z = s.last t in omega arith;
        free = λ t. let z = s.free t in omega arith;
      }

  -- another slice and class
  pub steady_sliced : (slice class : ℕ) → slice ≤ 190 → slice % 10 ≡ 0 → (0 < p.holds → class ≡ 0) → (p.holds ≡ 0 → 1 ≤ class)
      → class ≤ 2 → Steady n (sliced p slice class)
  steady_sliced slice class short tens none some two =
      let r = s.marks in
      record {
        marks =
            record {
              variables = r.variables;
              stack = r.stack;
              frame = r.frame;
              ceiling = r.ceiling;
              address = r.address;
              short = short;
              tens = tens;
            };
        job = s.job;
        eight = s.eight;
        small = s.small;
        zero = none;
        some = some;
        two = two;
        last = s.last;
        free = s.free;
      }

  -- other registers
  pub steady_regs : (r : Regs) → Ranged n p.variables p.slice r → job_ok n r ≡ true → (r.in_job ≡ true → p.holds ≡ 0)
      → Steady n (with_regs p r)
  steady_regs r marks job free =
      record {
        marks = marks;
        job = job;
        eight = s.eight;
        small = s.small;
        zero = s.zero;
        some = s.some;
        two = s.two;
        last = s.last;
        free = free;
      }

  -- its end
  pub steady_ended : p.holds ≡ 0 → Steady n (ended p)
  steady_ended z =
      record {
        marks = s.marks;
        job = s.job;
        eight = s.eight;
        small = s.small;
        zero = s.zero;
        some = s.some;
        two = s.two;
        last = λ t. z;
        free = s.free;
      }

-- its start
pub steady_started : (n address v : ℕ) → address ≤ n → v ≤ 1024 → Steady n (started address v)
unfolding started job_ok
steady_started n address v a b =
    record {
      marks =
          record {
            variables = b;
            stack = omega arith;
            frame = omega arith;
            ceiling = omega arith;
            address = a;
            short = omega arith;
            tens = refl;
          };
      job = refl;
      eight = omega arith;
      small = λ k l. absurd (omega arith);
      zero = λ l. absurd (omega arith);
      some = λ l. omega arith;
      two = omega arith;
      last = λ e. refl;
      free = λ e. refl;
    }
