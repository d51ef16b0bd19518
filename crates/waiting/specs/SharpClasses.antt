-- The bounds cannot be smaller: worlds in which a process runs at the selection of its bound, and not before
use Rattle.std.specs.Prelude.{◌≡◌, true, false, List, [], ◌∷◌, ◌++◌, ℕ, ◌+◌, ltb, replicate}
use Rattle.notation.specs.If.{if}
use Rattle.notation.specs.Upto.{list_to}
use Rattle.machine.specs.declared.Queue.{Queue}
use Rattle.machine.specs.declared.Process.{Process}
use Rattle.machine.specs.declared.Gate.{Gate}
use Rattle.machine.specs.State.{nobody, going, new_queue, new_gate, new_device, started, changed, ready}
use Rattle.machine.specs.Store.{World}
use Rattle.machine.specs.Gate.{entered}
use Rattle.machine.specs.Sound.{sound}
use Rattle.machine.specs.Offer.{Offer, a_step, a_tick, after_all}
use Rattle.machine.specs.Shape.{Shaped}
use Rattle.waiting.specs.Waiting.{InPlace, selections_in, bound0, bound2}

-- in the sound world w process i is ready in place k of class c; the offers xs have one selection fewer than n, and after no first
-- part of them does i run; then x has the last, and i runs
pub record SharpRun (code : List ℕ) (w : World) (c k n i : ℕ) (xs : List Offer) (x : Offer) : Type 0 where
  pub shaped : Shaped w.machine
  pub is_sound : sound w.machine ≡ true
  pub stands : InPlace (ready w.machine c) k i
  pub fewer : selections_in code w xs + 1 ≡ n
  pub not_yet : (ys zs : List Offer) → xs ≡ ys ++ zs → (after_all code w ys).machine.running ≡ i → ⊥
  pub last : selections_in code w (xs ++ x ∷ []) ≡ n
  pub runs : (after_all code w (xs ++ x ∷ [])).machine.running ≡ i

-- processes `from` to from + n - 1 hold a gate each; those before them are in class 2 and at address 2, with a slice of 190; those after
-- them are in class 2 as they start. Process 0 runs
abbrev line : ℕ → ℕ → Queue
line from n = record { len = n; at = list_to (λ k. if (ltb k n) (from + k) 0) 10 }

abbrev one : ℕ → ℕ → ℕ → Process
one from n q = if (ltb q from) (changed (started 2 0) (started 2 0).regs 190 2 0 (started 0 0).held false) (if (ltb q (from + n)) (entered (started 0 0) q) (started 0 0))

abbrev held : ℕ → ℕ → ℕ → Gate
held from n g = if (ltb g from) new_gate (if (ltb g (from + n)) (record { holder = g; queue = new_queue; cells = replicate 8 nobody }) new_gate)

abbrev pub world : ℕ → ℕ → ℕ → ℕ → Queue → Queue → World
world from n created count first third =
    record {
      machine =
          record {
            processes = list_to (one from n) 10;
            gates = list_to (held from n) 25;
            ready = first ∷ new_queue ∷ third ∷ [];
            clock = new_queue;
            bell = new_queue;
            devices = replicate 5 new_device;
            running = 0;
            created = created;
            made = 10;
            stop = going;
            line = 0;
            seconds = 0;
            fraction = 0;
            edition = 1;
            length = 6;
            present = 0;
            count = count;
            mark = false;
          };
      common = replicate 2048 0;
      private = replicate 20480 0;
    }

-- at 0: KTRAP 0, wait for the next second; at 2: NEWLINE 1, then KTRAP 0
abbrev pub waiting : List ℕ
waiting = 28 ∷ 0 ∷ 0 ∷ 1 ∷ 28 ∷ 0 ∷ []

abbrev pub steps : ℕ → List Offer
steps n = list_to (λ k. a_step) n

-- class 0, n processes behind process 0, of class 2, at a count of 8
abbrev pub behind : ℕ → World
behind n = world 1 n (1 + n) 8 (line 1 n) new_queue

-- class 2, process 9 behind nine processes that hold a gate, of which process 0 runs
abbrev pub last : World
last = world 0 9 10 0 (line 1 8) (line 9 1)

abbrev pub SharpRuns : Type 0
SharpRuns =
    SharpRun waiting (behind 1) 0 1 (bound0 1) 1 (steps 1) a_step
    × SharpRun waiting (behind 9) 0 9 (bound0 9) 9 (a_step ∷ a_tick ∷ steps 8) a_step
    × SharpRun waiting last 2 1 (bound2 1) 9 (steps 8) a_step
