-- The bound cannot be smaller: two worlds in which a process comes to hold its gate at operation number 2k - 1 + d, and not before
use Rattle.std.specs.Prelude.{◌≡◌, true, List, [], ◌∷◌, ◌++◌, ℕ, ◌+◌, set, replicate}
use Rattle.machine.specs.declared.Machine.{Machine}
use Rattle.machine.specs.State.{proc, fresh, with_process, with_regs}
use Rattle.machine.specs.Store.{World, own}
use Rattle.machine.specs.View.{marks}
use Rattle.machine.specs.Classes.{select}
use Rattle.machine.specs.Gate.{enter, leave, make_gate}
use Rattle.machine.specs.Sound.{sound}
use Rattle.machine.specs.Offer.{Offer, a_step, after_all}
use Rattle.machine.specs.Shape.{Shaped}
use Rattle.promises.specs.Table.{child, rests, wakes, two_delayed}
use Rattle.waiting.specs.Waiting.{holder, Waits, delayed, completes_in, bound}

-- in the sound world w process i waits in place k of gate g, and d are delayed there; the offers xs complete one operation fewer than
-- the bound, and after no first part of them does i hold; then x completes the last, and i holds
pub record SharpAt (code : List ℕ) (w : World) (g k d i : ℕ) (xs : List Offer) (x : Offer) : Type 0 where
  pub shaped : Shaped w.machine
  pub is_sound : sound w.machine ≡ true
  pub waits : Waits w g k i
  pub sitting : delayed w g ≡ d
  pub fewer : completes_in code w g xs + 1 ≡ bound k d
  pub not_yet : (ys zs : List Offer) → xs ≡ ys ++ zs → holder (after_all code w ys) g ≡ i → ⊥
  pub last : completes_in code w g (xs ++ x ∷ []) ≡ bound k d
  pub holds : holder (after_all code w (xs ++ x ∷ [])) g ≡ i

-- process i is at an address, with its stack from s on
abbrev pub placed : Machine → ℕ → ℕ → ℕ → Machine
placed m i address s = with_process m i (with_regs (proc m i) (marks (proc m i).regs address 0 s 4096))

-- k = 1, d = 2: process 0 holds gate 0 and runs, 1 and 2 are delayed in cells 0 and 1, and 3 waits. Each of 0, 1 and 2 runs KTRAP 9, a continue:
-- process 0 on cell 0, process 1 on cell 1, process 2 on cell 0, which is empty by then
abbrev pub continues : List ℕ
continues = 28 ∷ 9 ∷ []

abbrev pub one_waits : World
one_waits =
    record {
      machine = placed (placed (placed two_delayed 0 0 4094) 1 0 4094) 2 0 4094;
      common = replicate 2048 0;
      private = set (replicate 20480 0) (own 1 4094) 1;
    }

-- k = 2, d = 0: process 0 holds gate 0 and runs, 1 and 2 wait in this order. Process 0 runs KTRAP 8, a delay in cell 0; process 1 runs
-- KTRAP 9, a continue on cell 0; process 0 runs KTRAP 9, a continue on cell 0, which is empty by then
abbrev pub delays_continues : List ℕ
delays_continues = 28 ∷ 8 ∷ 28 ∷ 9 ∷ []

abbrev pub begun : Machine
begun = leave (child (child (child (make_gate (fresh (record { edition = 1; length = 4; devices = 1; variables = 0 })))))) 0

abbrev pub two_wait : World
two_wait =
    record {
      machine = placed (placed (wakes (select (enter (select (enter (rests (enter begun 0)) 0)) 0))) 0 0 4092) 1 2 4094;
      common = replicate 2048 0;
      private = replicate 20480 0;
    }

abbrev pub Sharp : Type 0
Sharp =
    SharpAt continues one_waits 0 1 2 3 (a_step ∷ a_step ∷ []) a_step
    × SharpAt delays_continues two_wait 0 2 0 2 (a_step ∷ a_step ∷ []) a_step
