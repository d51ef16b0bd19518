-- The operations on gates keep every process in its place
use mathlib.Core.Path.{◌≡◌, ◌∙◌, ap, subst}
use mathlib.Core.Bool.{false}
use mathlib.Core.List.{List}
use Prim.Native.Nat.{ℕ, ◌<◌, ◌≤◌}
use native.Mathlib.Omega.{arith}
use lib.Dec.{leb, eqb}
use lib.ListN.{length, get_or}
use lib.Seq.{get_or-set_same}
use borrow.Author.Tests.{eqb-true, eqb-false, leb-true, leb-false, lt-ltb}
use Rattle.notation.proofs.Upto.{split, sum-get}
use Rattle.machine.specs.declared.Queue.{Queue}
use Rattle.machine.specs.declared.Gate.{Gate}
use Rattle.machine.specs.declared.Machine.{Machine}
use Rattle.machine.specs.State.{nobody, no_gate, no_process, proc, gate}
use Rattle.machine.specs.Queue.{first}
use Rattle.machine.specs.Classes.{set_running}
use Rattle.machine.specs.Gate.{latest, given, advance, sit, give_up, pass, hand_on, enter, leave, delay, cell, continue, make_gate}
use Rattle.machine.specs.Sound.{sits, in_cells, at_gate}
use Rattle.kept.proofs.Counts.{stands}
use Rattle.kept.proofs.Nearly.{Nearly, Placed, in_hand, in_run}
use Rattle.kept.proofs.Moves.{empty_hand, take_running, put-ready, put_queue, take_queue, put-cell, granted, given_up, latest-held, gate_free, gate_room}
use Rattle.kept.proofs.Frames.{closed, one-made}
use Rattle.machine.proofs.Sits.{sits_self}

-- ---- a gate passes on
-- the one in hand becomes holder of the open gate g, and is ready
pass_kept : {m : Machine} (g h : ℕ) → h < nobody → g < m.made → (gate m g).holder ≡ nobody
    → (proc m h).holds ≤ 7 → (proc m h).regs.in_job ≡ false → Nearly m h g → Placed (pass m g h)
unfolding pass
pass_kept g h b d e v free f = put-ready b (granted g h d (λ j i n y. n y) e v free (in_hand f b) f)

-- the holder of g after a move of its waiters, and after it is given up
advance-holder : (m : Machine) (g : ℕ) → g < length m.gates → (gate (advance m g) g).holder ≡ (gate m g).holder
unfolding advance
advance-holder m g b = ap (λ (w : Gate). w.holder) (get_or-set_same m.gates g _ no_gate b)

sit-holder : (m : Machine) (g c y : ℕ) → g < length m.gates → (gate (sit m g c y) g).holder ≡ (gate m g).holder
unfolding sit
sit-holder m g c y b = ap (λ (w : Gate). w.holder) (get_or-set_same m.gates g _ no_gate b)

up_holder : (m : Machine) (g h : ℕ) → g < length m.gates → (gate (give_up m g h) g).holder ≡ nobody
unfolding give_up
up_holder m g h b = ap (λ (w : Gate). w.holder) (get_or-set_same m.gates g _ no_gate b)

up_cells : (m : Machine) (g h : ℕ) → g < length m.gates → (gate (give_up m g h) g).cells ≡ (gate m g).cells
unfolding give_up
up_cells m g h b = ap (λ (w : Gate). w.cells) (get_or-set_same m.gates g _ no_gate b)

-- the first waiter holds, or none waits
release_kept : {m : Machine} (g : ℕ) → g < m.made → (gate m g).holder ≡ nobody → Nearly m nobody g → Placed (hand_on m g)
unfolding hand_on at_gate advance
release_kept {m} g d e f =
    let w : Queue = (gate m g).queue in
    let c : g < 25 = omega (arith, f.numbers.few_gates) in
    split (eqb w.len 0) (λ t. rw t (closed g (eqb-true w.len 0 t) f))
    (λ t.
    let n = eqb-false w.len 0 t in
    let l : 0 < w.len = omega (arith, n) in
    let b = (f.gates.each g c).queue.each 0 l in
    let s = stands w 0 l in
    rw t
    (pass_kept g (first w) (omega (arith, f.numbers.few)) d (advance-holder m g (omega (arith, f.gates.many)) ∙ e)
    (gate_room g (first w) c b (omega arith) f) (gate_free g (first w) c b (omega arith) f) (take_queue g d l f)))

-- ---- enter
pub enter_kept : {m : Machine} (g : ℕ) → m.running < nobody → g < m.made → ((gate m g).holder ≡ m.running → ⊥)
    → (proc m m.running).holds ≤ 7 → (proc m m.running).regs.in_job ≡ false → Placed m → Placed (enter m g)
unfolding enter set_running
enter_kept {m} g b d other v free f =
    let r : ℕ = m.running in
    let c : g < 25 = omega (arith, f.numbers.few_gates) in
    split (leb nobody (gate m g).holder)
    (λ t.
    let e : (gate m g).holder ≡ nobody = omega (arith, leb-true nobody (gate m g).holder t, (f.gates.each g c).holder.most) in
    rw t (granted g r d (λ j i n y. omega arith) e v free (in_run f b) f))
    (λ t. rw t (put_queue g b d (leb-false nobody _ t) other v (λ _. free) (take_running f)))

-- ---- leave
-- the running process may give up g: it is the latest that it entered
pub record Mine (m : Machine) (g : ℕ) : Type 0 where
  pub runs : m.running < nobody
  pub made : g < m.made
  pub some : 0 < (proc m m.running).holds
  pub last : latest (proc m m.running) ≡ g

module _ {m : Machine} {g : ℕ} (mine : Mine m g) (f : Placed m) where
  gate-small : g < 25
  gate-small = omega (arith, f.numbers.few_gates, mine.made)

  in_list : g < length m.gates
  in_list = omega (arith, gate-small, f.gates.many)

  holder : (gate m g).holder ≡ m.running
  holder = latest-held g m.running (f.runs.made mine.runs) gate-small mine.some mine.last f

  gives_up : Nearly (give_up m g m.running) nobody g
  gives_up = given_up g m.running mine.made holder mine.some mine.last (in_run f mine.runs) f

  pub leave_kept : Placed (leave m g)
  unfolding leave give_up
  leave_kept = release_kept g mine.made (up_holder m g m.running in_list) gives_up

  -- ---- delay: the process that gives up g is in hand, and sits in the cell
  hand_up : Nearly (give_up (set_running m nobody) g m.running) m.running g
  unfolding set_running
  hand_up = given_up g m.running mine.made holder mine.some mine.last (in_hand (take_running f) mine.runs) (take_running f)

  up_proc : proc (give_up (set_running m nobody) g m.running) m.running ≡ given (proc m m.running)
  unfolding set_running give_up
  up_proc = get_or-set_same m.processes m.running _ no_process (omega (arith, f.processes.ten, mine.runs))

  up_few : (proc (give_up (set_running m nobody) g m.running) m.running).holds ≤ 7
  unfolding given
  up_few = rw up_proc (omega (arith, (f.processes.each m.running (f.runs.made mine.runs)).eight))

  up_free : (proc m m.running).regs.in_job ≡ false → (proc (give_up (set_running m nobody) g m.running) m.running).regs.in_job ≡ false
  unfolding given
  up_free free = rw up_proc free

  pub delay_kept : (c : ℕ) → c < 8 → nobody ≤ cell m g c → (proc m m.running).regs.in_job ≡ false → Placed (delay m g c)
  unfolding delay set_running give_up sit
  delay_kept c b n free =
      let r : ℕ = m.running in
      let up : Machine = give_up (set_running m nobody) g r in
      let e = up_holder (set_running m nobody) g r in_list in
      let k = up_cells (set_running m nobody) g r in_list in
      let f₁ = put-cell g c b mine.made (λ _. up_few) (λ _. up_free free) (λ t s. omega arith) hand_up in
      release_kept g mine.made (sit-holder up g c r (omega (arith, hand_up.gates.many)) ∙ e) (empty_hand (rw k n) f₁)

  -- ---- continue
  pub continue_kept : (c : ℕ) → c < 8 → Placed (continue m g c)
  unfolding continue give_up sit at_gate in_cells
  continue_kept c b =
      let r : ℕ = m.running in
      let up : Machine = give_up m g r in
      let y : ℕ = cell m g c in
      split (leb nobody y)
      (λ t. rw t leave_kept)
      (λ t.
      let n = leb-false nobody y t in
      let e = up_holder m g r in_list in
      let k = up_cells m g r in_list in
      let o = ((f.gates.each g gate-small).cells c b).made n in
      let there : 0 < at_gate y (gate up g) =
      rw k (let s = sum-get (λ j. sits y (get_or (gate m g).cells j 0)) 8 c b in omega (arith, sits_self y)) in
      let out = put-cell g c b mine.made (λ s. absurd (omega arith)) (λ s. absurd (omega arith)) (λ t s. omega arith) gives_up in
      let f₁ = subst (λ (z : ℕ). Nearly (sit up g c nobody) z g) (ap (λ (l : List ℕ). get_or l c 0) k) out in
      rw t
      (pass_kept g y n mine.made (sit-holder up g c nobody (omega (arith, gives_up.gates.many)) ∙ e)
      (gate_room g y gate-small o there gives_up) (gate_free g y gate-small o there gives_up) f₁))

-- ---- new gate
pub make_kept : {m : Machine} → m.running < nobody → m.made < 25
    → (proc m m.running).holds ≤ 7 → (proc m m.running).regs.in_job ≡ false → Placed m → Placed (make_gate m)
unfolding make_gate
make_kept {m} b d v free f =
    let f₁ = one-made d f in
    let u = f.gates.unused m.made d (omega arith) in
    rw (lt-ltb m.made 25 d)
    (granted m.made m.running (omega arith) (λ j i n y. omega arith) u.holder v free (in_run f₁ b) f₁)
