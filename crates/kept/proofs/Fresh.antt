-- In the fresh machine process 0 runs, and nobody else is anywhere
use mathlib.Core.Path.{◌≡◌, refl, sym, ◌∙◌}
use mathlib.Core.Bool.{true, and-false}
use Prim.Native.Nat.{ℕ, ◌+◌, ◌<◌, ◌≤◌}
use native.Mathlib.Omega.{arith}
use lib.Dec.{leb, eqb}
use lib.ListN.{length, get_or, replicate, get_or-replicate}
use Rattle.notation.specs.Upto.{sum_to}
use Rattle.notation.proofs.Upto.{never}
use Rattle.word.specs.Word.{bit}
use Rattle.image.specs.declared.head.Header.{Header}
use Rattle.image.specs.Header.{good_header}
use Rattle.machine.specs.declared.Machine.{Machine}
use Rattle.machine.specs.State.{nobody, no_queue, no_gate, no_process, no_device, new_queue, new_gate, new_device, proc, gate, started, fresh}
use Rattle.machine.specs.Sound.{sits, in_queue, in_cells, at_gate, is_ready, is_at_gates, places, held_of}
use Rattle.notation.proofs.Test.{part, at_most}
use Rattle.kept.proofs.Counts.{Lined}
use Rattle.kept.proofs.Steady.{Steady, steady_started}
use Rattle.kept.proofs.Nearly.{Known, Tended, Unused, InClass, waits, Sound, known_nobody, known_one}
use Rattle.kept.proofs.Born.{started_none}
use Rattle.notation.proofs.Cells.{all_set}

-- what holds of one holds of each of n alike
alike : {A : Type 0} (P : A → Type 0) (n : ℕ) (x d : A) → P x → (k : ℕ) → k < n → P (get_or (replicate n x) k d)
alike P n x d p k l = rw (get_or-replicate n k x d l) p

-- process 0 is the only one below 1
only_zero : (P : ℕ → Type 0) → P 0 → (q : ℕ) → q < 1 → P q
only_zero P p q l = let e : q ≡ 0 = omega arith in rw e p

nobody_lined : (P : ℕ → Type 0) → Lined P new_queue
nobody_lined P = record { full = refl; few = omega arith; each = λ k l. absurd (omega arith) }

open_gate : (n : ℕ) → Tended n new_gate
open_gate n =
    record {
      queue = nobody_lined _;
      room = refl;
      cells = alike (λ x. Known n x) 8 nobody 0 (known_nobody n);
      holder = known_nobody n;
      apart = λ b. absurd (omega arith);
    }

unused_gate : Unused new_gate
unused_gate = record { holder = refl; queue = refl; cells = alike (λ x. x ≡ nobody) 8 nobody 0 refl }

module _ (h : Header) (ok : good_header h ≡ true) where
  abbrev m : Machine
  m = fresh h

  header : good_header (record { edition = h.edition; length = h.length; devices = h.devices; variables = 0 }) ≡ true
  header =
      let edition = part (eqb h.edition 1) ok (λ t. rw t) in
      let some = part (leb 1 h.length) ok (λ t. simp (t, and-false)) in
      let most = part (leb h.length 16256) ok (λ t. simp (t, and-false)) in
      let devices = part (leb h.devices 31) ok (λ t. simp (t, and-false)) in
      rw (edition, some, most, devices)

  first_steady : Steady h.length (started 0 h.variables)
  first_steady = steady_started h.length 0 h.variables (omega arith) (at_most h.variables 1024 ok (λ t. simp (t, and-false)))

  placed_zero : places m 0 + sits 0 nobody ≡ 1
  unfolding fresh started places is_ready in_queue at_gate in_cells sum_to
  placed_zero = refl

  pub fresh-placed : Sound (fresh h)
  unfolding fresh started
  fresh-placed =
      record {
        placed =
            record {
              numbers =
                  record {
                    some = omega arith;
                    few = omega arith;
                    few_gates = omega arith;
                    header = header;
                    fraction = omega arith;
                    tens = refl;
                    seconds = omega arith;
                    stop = omega arith;
                    low = omega arith;
                  };
              processes =
                  record {
                    ten = refl;
                    held =
                        all_set (λ j o. length o.held ≡ 8) (replicate 10 (started 0 0)) 0 (started 0 h.variables) no_process 10 refl (omega arith)
                        refl (alike (λ o. length o.held ≡ 8) 10 (started 0 0) no_process refl);
                    each = only_zero (λ q. Steady h.length (proc m q)) first_steady;
                  };
              gates =
                  record {
                    many = refl;
                    each = alike (λ w. Tended 1 w) 25 new_gate no_gate (open_gate 1);
                    shut = λ g l n e. alike (λ w. w.queue.len ≡ 0) 25 new_gate no_gate refl g l;
                    unused = λ g l b. alike (λ w. Unused w) 25 new_gate no_gate unused_gate g l;
                  };
              classes = record { three = refl; each = λ c. alike (Lined (InClass 1 m.processes c)) 3 new_queue no_queue (nobody_lined _) c };
              clock = nobody_lined _;
              bell = nobody_lined _;
              devices =
                  record {
                    five = refl;
                    known = alike (λ x. Known 1 x.process) 5 new_device no_device (known_nobody 1);
                    busy = λ d l b. absurd (alike (λ x. x.process < nobody → ⊥) 5 new_device no_device (λ t. omega arith) d l b);
                  };
              runs = known_one (omega arith) (omega arith);
              hand = known_nobody 1;
              unmarked = λ n. refl;
              each = only_zero (λ q. places m q + sits q nobody ≡ 1) placed_zero;
              jobs = only_zero (λ q. (proc m q).regs.in_job ≡ true → waits m q + bit (proc m q).ended ≡ 0) (λ t. never (sym t));
              seven = only_zero (λ q. 0 < is_at_gates m q → (proc m q).holds ≤ 7) (λ t. omega arith);
              agree = λ q g l i.
                  only_zero (λ q. held_of (proc m q) g ≡ sits q (gate m g).holder)
                  (started_none 0 h.variables g ∙ alike (λ w. 0 ≡ sits 0 w.holder) 25 new_gate no_gate refl g i) q l;
            };
        idle = λ n. absurd (omega arith);
      }
