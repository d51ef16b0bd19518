-- The machine that words say has the arrays and the bytes that the types give
use mathlib.Core.Path.{◌≡◌, ap, ◌∙◌}
use mathlib.Core.List.{List, [], ◌∷◌}
use Prim.Native.Nat.{ℕ, ◌+◌, ◌*◌, ◌≤◌, ◌<◌}
use native.Mathlib.Omega.{arith}
use lib.ListN.{length, get_or-eq_default}
use Rattle.notation.specs.Upto.{list_from, list_to}
use Rattle.notation.proofs.Upto.{below?, all_at, length_list, get_d_list}
use Rattle.machine.specs.declared.Process.{Process}
use Rattle.machine.specs.declared.Device.{Device}
use Rattle.machine.specs.State.{no_process, no_gate, no_queue, no_device, proc, gate, ready, device}
use Rattle.machine.specs.Shape.{Shaped}
use Rattle.layout.specs.Layout.{from, bytes, process_fits, queue_words, gate_words, queue_of, gate_of, process_of, device_of, unpacked}
use Rattle.layout.specs.Read.{Fitting}
use Rattle.layout.specs.Inverse.{Small, Bytes, UnpackedTyped}
use Rattle.layout.proofs.Laws.{byte_at, some_bytes, process_byte, fitting}

-- words cut out of bytes are bytes; past the end a list gives 0
cut_small : (w : ℕ → ℕ) (n : ℕ) → ((k : ℕ) → k < n → w k < 256) → Small (list_to w n)
cut_small w n h k =
    below? k n
    (λ l. let z : 0 + k ≡ k = omega arith in rw (get_d_list w 0 n k 0 l, z) (h k l))
    (λ l. let z : length (list_to w n) ≤ k = omega (arith, length_list w 0 n) in rw (get_or-eq_default (list_to w n) 0 z) (omega arith))

small_same : (xs ys : List ℕ) → xs ≡ ys → Small ys → Small xs
small_same xs ys e b k = rw e (b k)

module _ (ws : List ℕ) (e : Fitting ws) where
  -- the parts that were read
  at_process : (i : ℕ) → i < 10 → proc (unpacked ws) i ≡ process_of (from ws (24 * i))
  unfolding unpacked
  at_process i l = get_d_list (λ i. process_of (from ws (24 * i))) 0 10 i no_process l ∙ ap (λ (i : ℕ). process_of (from ws (24 * i))) (omega arith)

  at-gate : (g : ℕ) → g < 25 → gate (unpacked ws) g ≡ gate_of (from ws (240 + 20 * g))
  unfolding unpacked
  at-gate g l = get_d_list (λ g. gate_of (from ws (240 + 20 * g))) 0 25 g no_gate l ∙ ap (λ (g : ℕ). gate_of (from ws (240 + 20 * g))) (omega arith)

  at_class : (c : ℕ) → c < 3 → ready (unpacked ws) c ≡ queue_of (from ws (740 + 11 * c))
  unfolding unpacked
  at_class c l = get_d_list (λ c. queue_of (from ws (740 + 11 * c))) 0 3 c no_queue l ∙ ap (λ (c : ℕ). queue_of (from ws (740 + 11 * c))) (omega arith)

  at-device : (d : ℕ) → d < 5 → device (unpacked ws) d ≡ device_of (from ws (795 + 3 * d))
  unfolding unpacked
  at-device d l = get_d_list (λ d. device_of (from ws (795 + 3 * d))) 0 5 d no_device l ∙ ap (λ (d : ℕ). device_of (from ws (795 + 3 * d))) (omega arith)

  shaped : Shaped (unpacked ws)
  unfolding unpacked
  shaped =
      record {
        processes = length_list _ 0 10;
        gates = length_list _ 0 25;
        classes = length_list _ 0 3;
        devices = length_list _ 0 5;
        ready = λ c l. rw (at_class c l) (length_list _ 0 10);
        clock = length_list _ 0 10;
        bell = length_list _ 0 10;
        held = λ q l. rw (at_process q l) (length_list _ 0 8);
        queues = λ g l. rw (at-gate g l) (length_list _ 0 10);
        cells = λ g l. rw (at-gate g l) (length_list _ 0 8);
      }

  -- some of the words from place 240 on
  small_at : (j n : ℕ) → j + n ≤ 555 → Small (list_to (from ws (240 + j)) n)
  small_at j n h = cut_small (from ws (240 + j)) n (λ k l. byte_at ws (240 + j) n k (some_bytes ws 240 555 j n e.queues h) l)

  small_process : (i : ℕ) → i < 10 → Small (list_to (λ k. from ws (24 * i) (12 + k)) 11)
  small_process i l =
      cut_small _ 11 (process_byte ws (24 * i) (all_at (λ i. process_fits (from ws (24 * i))) 10 i e.processes l))

  small_class : (c : ℕ) → c < 3 → Small (list_to (from ws (740 + 11 * c)) 11)
  small_class c l =
      let z : 740 + 11 * c ≡ 240 + (500 + 11 * c) = omega arith in
      rw z (small_at (500 + 11 * c) 11 (omega arith))

  small-device : (d : ℕ) → d < 5 → Small (list_to (from ws (795 + 3 * d)) 2)
  small-device d l =
      cut_small _ 2 (λ k m. byte_at ws (795 + 3 * d) 2 k (all_at (λ d. bytes (from ws (795 + 3 * d)) 2) 5 d e.devices l) m)

  small-numbers : Small (list_to (from ws 810) 4)
  small-numbers = cut_small _ 4 (λ k l. byte_at ws 810 4 k e.numbers l)

  small_count : Small (list_to (from ws 820) 1)
  small_count = cut_small _ 1 (λ k l. byte_at ws 820 1 k e.count l)

  typed_bytes : Bytes (unpacked ws)
  unfolding unpacked list_from
  typed_bytes =
      record {
        processes = λ i l. small_same _ _ (ap (λ (p : Process). p.slice ∷ p.class ∷ p.holds ∷ p.held) (at_process i l)) (small_process i l);
        gates = λ g l. small_same _ _ (ap gate_words (at-gate g l)) (small_at (20 * g) 20 (omega arith));
        ready = λ c l. small_same _ _ (ap queue_words (at_class c l)) (small_class c l);
        clock = small_at 533 11 (omega arith);
        bell = small_at 544 11 (omega arith);
        devices = λ d l. small_same _ _ (ap (λ (x : Device). x.process ∷ x.operation ∷ []) (at-device d l)) (small-device d l);
        numbers = small-numbers;
        count = small_count;
      }

pub unpacked_typed : UnpackedTyped
unpacked_typed ws e = (shaped ws (fitting ws e), typed_bytes ws (fitting ws e))
