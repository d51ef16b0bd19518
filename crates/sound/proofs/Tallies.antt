-- Why a tally counts what the definition sums
use mathlib.Core.Path.{◌≡◌, refl, ◌∙◌}
use mathlib.Core.List.{List, [], ◌∷◌}
use Rattle.std.specs.List.{sum_by}
use Rattle.std.proofs.lemmas.List.Sums.{sum_by-cons}
use Prim.Native.Nat.{ℕ, ◌+◌, ◌*◌, ◌≤◌, ◌<◌}
use native.Mathlib.Omega.{arith}
use lib.Dec.{eqb}
use lib.ListN.{length, get_or, take, replicate, get_or-replicate}
use Rattle.notation.specs.Upto.{sum_to}
use Rattle.machine.specs.Sound.{sits, in_queue, in_cells, at_gate}
use Rattle.notation.proofs.Upto.{sum_same}
use Rattle.machine.specs.declared.Queue.{Queue}
use Rattle.machine.specs.declared.Gate.{Gate}
use Rattle.machine.specs.declared.Device.{Device}
use Rattle.machine.specs.State.{no_queue, no_gate, no_device}
use Rattle.sound.specs.Tally.{Counts}
use Rattle.sound.proofs.Listed.{sum_taken, sum_listed}
use Rattle.sound.proofs.Laws.{sum-most, bit-most}

-- a tally begins with zeros
pub zeros : (n k : ℕ) → k < n → ◌≡◌ {A = ℕ} (get_or (replicate n 0) k 0) 0
zeros n k l = get_or-replicate n k 0 0 l

-- ---- bounds
-- so many seats count one each, at most
pub seated : (q : ℕ) (l : List ℕ) → sum_by (sits q) l ≤ length l
seated q [] = omega arith
seated q (x ∷ l) = rw (sum_by-cons (sits q) x l) (omega (arith, seated q l, bit-most (eqb x q)))

pub seats_most : (q : ℕ) (l : List ℕ) (n : ℕ) → sum_to (λ k. sits q (get_or l k 0)) n ≤ n
seats_most q l n = omega (arith, sum-most (λ k. sits q (get_or l k 0)) 1 n (λ k h. bit-most (eqb (get_or l k 0) q)))

-- how many stand in a queue and at a gate, at most
pub queue_most : (q : ℕ) (w : Queue) → w.len ≤ 10 → in_queue q w ≤ 10
unfolding in_queue
queue_most q w h = omega (arith, seats_most q w.at w.len)

pub gate-most : (q : ℕ) (w : Gate) → w.queue.len ≤ 10 → at_gate q w ≤ 18
unfolding at_gate in_cells
gate-most q w h = omega (arith, queue_most q w.queue h, seats_most q w.cells 8)

pub queues_most : (q : ℕ) (ws : List Queue) (n : ℕ) → ((k : ℕ) → k < n → (get_or ws k no_queue).len ≤ 10) → sum_to (λ k. in_queue q (get_or ws k no_queue)) n ≤ n * 10
queues_most q ws n h = sum-most (λ k. in_queue q (get_or ws k no_queue)) 10 n (λ k l. queue_most q (get_or ws k no_queue) (h k l))

pub gates_most : (q : ℕ) (ws : List Gate) (n : ℕ) → ((k : ℕ) → k < n → (get_or ws k no_gate).queue.len ≤ 10) → sum_to (λ k. at_gate q (get_or ws k no_gate)) n ≤ n * 18
gates_most q ws n h = sum-most (λ k. at_gate q (get_or ws k no_gate)) 18 n (λ k l. gate-most q (get_or ws k no_gate) (h k l))

pub devices_most : (q : ℕ) (ds : List Device) → sum_to (λ d. sits q (get_or ds d no_device).process) 5 ≤ 5
devices_most q ds = sum-most (λ d. sits q (get_or ds d no_device).process) 1 5 (λ k l. bit-most (eqb (get_or ds k no_device).process q))

-- a tally whose counts are known, and small
pub counts : (t : List ℕ) (f : ℕ → ℕ) → length t ≡ 10 → ((q : ℕ) → q < 10 → get_or t q 0 ≡ f q) → ((q : ℕ) → q < 10 → f q ≤ 1000) → Counts t f
counts t f e g h = ((e, λ q l. omega (arith, g q l, h q l)), g)

-- ---- the seats of a queue, of cells, of the devices
pub queue_counted : (q : ℕ) (w : Queue) (l : List ℕ) → l ≡ take w.len w.at → length l ≡ w.len → sum_by (sits q) l ≡ in_queue q w
unfolding in_queue
queue_counted q w l f e = rw f (sum_taken w.at 0 w.len (rw f at e) (sits q))

pub gate_parts : (q : ℕ) (w : Gate) → at_gate q w ≡ in_queue q w.queue + in_cells q w
unfolding at_gate
gate_parts q w = refl

pub cells_counted : (q : ℕ) (w : Gate) → length w.cells ≡ 8 → sum_by (sits q) w.cells ≡ in_cells q w
unfolding in_cells
cells_counted q w e = sum_listed w.cells 0 8 e (sits q)

pub devices_counted : (q : ℕ) (ds : List Device) (l : List ℕ) → length l ≡ 5 → ((d : ℕ) → d < 5 → get_or l d 0 ≡ (get_or ds d no_device).process) → sum_by (sits q) l ≡ sum_to (λ d. sits q (get_or ds d no_device).process) 5
devices_counted q ds l e h = sum_listed l 0 5 e (sits q) ∙ sum_same (λ d. sits q (get_or l d 0)) (λ d. sits q (get_or ds d no_device).process) 5 (λ k b. rw (h k b))

pub ruleset counted = (zeros, queue_counted, gate_parts, cells_counted, queue_most)
