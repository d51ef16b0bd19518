-- A nearly sound state: sound, but that process h is in hand, in no place (nobody: none is), and gate x, just given up, may be
-- open with waiters (25: no gate is). Every move of the kernel leads from one such state to another
use mathlib.Core.Path.{◌≡◌, sym, ◌∙◌}
use mathlib.Core.Bool.{Bool, true, false, ◌&&◌}
use mathlib.Core.List.{List}
use Prim.Native.Nat.{ℕ, ◌+◌, ◌/◌, ◌%◌, ◌^◌, ◌<◌, ◌≤◌}
use native.Mathlib.Omega.{arith}
use lib.Dec.{leb, eqb}
use lib.ListN.{length, get_or}
use Rattle.notation.specs.Upto.{sum_to}
use Rattle.notation.proofs.Upto.{never, sum-get}
use Rattle.word.specs.Word.{bit}
use Rattle.image.specs.Header.{good_header}
use Rattle.machine.specs.declared.Queue.{Queue}
use Rattle.machine.specs.declared.Gate.{Gate}
use Rattle.machine.specs.declared.Process.{Process}
use Rattle.machine.specs.declared.Device.{Device}
use Rattle.machine.specs.declared.Machine.{Machine}
use Rattle.machine.specs.State.{nobody, no_queue, no_gate, no_process, no_device, proc, gate, ready, device}
use Rattle.machine.specs.Store.{whole}
use Rattle.machine.specs.Sound.{sits, in_queue, at_gate, is_ready, places, held_of, is_at_gates}
use Rattle.kept.proofs.Steady.{Steady}
use Rattle.kept.proofs.Counts.{Lined, bit-none}
use Rattle.machine.proofs.Sits.{sits_self, sits_other}

-- ---- the parts, each with what it depends on
-- nobody, or one of the n created
pub record Known (n x : ℕ) : Type 0 where
  pub most : x ≤ nobody
  pub made : x < nobody → x < n

pub record Processes (n created : ℕ) (ps : List Process) : Type 0 where
  pub ten : length ps ≡ 10
  pub held : (q : ℕ) → q < 10 → length (get_or ps q no_process).held ≡ 8
  pub each : (q : ℕ) → q < created → Steady n (get_or ps q no_process)

-- a gate by itself
pub record Tended (created : ℕ) (w : Gate) : Type 0 where
  pub queue : Lined (λ q. q < created) w.queue
  pub room : length w.cells ≡ 8
  pub cells : (c : ℕ) → c < 8 → Known created (get_or w.cells c 0)
  pub holder : Known created w.holder
  pub apart : w.holder < nobody → at_gate w.holder w ≡ 0

pub record Unused (w : Gate) : Type 0 where
  pub holder : w.holder ≡ nobody
  pub queue : w.queue.len ≡ 0
  pub cells : (c : ℕ) → c < 8 → get_or w.cells c 0 ≡ nobody

pub record Gates (created made x : ℕ) (gs : List Gate) : Type 0 where
  pub many : length gs ≡ 25
  pub each : (g : ℕ) → g < 25 → Tended created (get_or gs g no_gate)
  pub shut : (g : ℕ) → g < 25 → (g ≡ x → ⊥) → (get_or gs g no_gate).holder ≡ nobody → (get_or gs g no_gate).queue.len ≡ 0
  pub unused : (g : ℕ) → g < 25 → made ≤ g → Unused (get_or gs g no_gate)

-- who is ready in class c
abbrev pub InClass : ℕ → List Process → ℕ → ℕ → Type 0
InClass created ps c q = (q < created) × ((get_or ps q no_process).class ≡ c)

pub record Classes (created : ℕ) (ps : List Process) (qs : List Queue) : Type 0 where
  pub three : length qs ≡ 3
  pub each : (c : ℕ) → c < 3 → Lined (InClass created ps c) (get_or qs c no_queue)

abbrev pub works : ℕ → ℕ → Device → Bool
works present d x = eqb (present / 2 ^ d % 2) 1 && leb x.operation 3 && whole x.address

pub record Devices (created present : ℕ) (ds : List Device) : Type 0 where
  pub five : length ds ≡ 5
  pub known : (d : ℕ) → d < 5 → Known created (get_or ds d no_device).process
  pub busy : (d : ℕ) → d < 5 → (get_or ds d no_device).process < nobody → works present d (get_or ds d no_device) ≡ true

pub record Numbers (edition n present part second number created made count : ℕ) : Type 0 where
  pub some : 1 ≤ created
  pub few : created ≤ 10
  pub few_gates : made ≤ 25
  pub header : good_header (record { edition = edition; length = n; devices = present; variables = 0 }) ≡ true
  pub fraction : part ≤ 9990
  pub tens : part % 10 ≡ 0
  pub seconds : second ≤ 32767
  pub stop : number ≤ 10
  pub low : count ≤ 8

-- ---- the places of a process but running, ready and ended
unfoldable pub waits : Machine → ℕ → ℕ
waits m q = is_at_gates m q + in_queue q m.clock + in_queue q m.bell + sum_to (λ d. sits q (device m d).process) 5

pub record Nearly (m : Machine) (h x : ℕ) : Type 0 where
  pub numbers : Numbers m.edition m.length m.present m.fraction m.seconds m.stop m.created m.made m.count
  pub processes : Processes m.length m.created m.processes
  pub gates : Gates m.created m.made x m.gates
  pub classes : Classes m.created m.processes m.ready
  pub clock : Lined (λ q. q < m.created) m.clock
  pub bell : Lined (λ q. q < m.created) m.bell
  pub devices : Devices m.created m.present m.devices
  pub runs : Known m.created m.running
  pub hand : Known m.created h
  -- a mark only while somebody runs
  pub unmarked : nobody ≤ m.running → m.mark ≡ false
  -- each created process is in exactly one place
  pub each : (q : ℕ) → q < m.created → places m q + sits q h ≡ 1
  -- jobs run, are ready or are in hand
  pub jobs : (q : ℕ) → q < m.created → (proc m q).regs.in_job ≡ true → waits m q + bit (proc m q).ended ≡ 0
  -- who waits at a gate has room for one more
  pub seven : (q : ℕ) → q < m.created → 0 < is_at_gates m q → (proc m q).holds ≤ 7
  -- the lists of held gates agree with the holders, and repeat none
  pub agree : (q g : ℕ) → q < m.created → g < 25 → held_of (proc m q) g ≡ sits q (gate m g).holder

-- every process has its place, and no open gate has a waiter
abbrev pub Placed : Machine → Type 0
Placed m = Nearly m nobody 25

-- and nobody is ready while nobody runs
pub record Sound (m : Machine) : Type 0 where
  pub placed : Placed m
  pub idle : nobody ≤ m.running → (c : ℕ) → c < 3 → (ready m c).len ≡ 0

-- ---- who is known
pub known_nobody : (n : ℕ) → Known n nobody
known_nobody n = record { most = omega arith; made = λ b. absurd (omega arith) }

pub known_one : {n x : ℕ} → n ≤ 10 → x < n → Known n x
known_one a b = record { most = omega arith; made = λ _. b }

-- ---- what the count of places tells
-- q runs or is in hand, so that it is nowhere else
pub record Alone (m : Machine) (q : ℕ) : Type 0 where
  pub made : q < m.created
  pub ready : (c : ℕ) → c < 3 → in_queue q (ready m c) ≡ 0
  pub waits : waits m q ≡ 0
  pub alive : (proc m q).ended ≡ false

alone : {m : Machine} {h x : ℕ} (q : ℕ) → Nearly m h x → q < m.created → 1 ≤ sits q m.running + sits q h → Alone m q
unfolding places is_ready waits is_at_gates
alone {m} q f l b =
    let p = f.each q l in
    record {
      made = l;
      ready = λ c k. let t = sum-get (λ c. in_queue q (ready m c)) 3 c k in omega arith;
      waits = omega arith;
      alive = bit-none (proc m q).ended (omega arith);
    }

pub in_hand : {m : Machine} {h x : ℕ} → Nearly m h x → h < nobody → Alone m h
in_hand {h = h} f b = alone h f (f.hand.made b) (omega (arith, sits_self h))

pub in_run : {m : Machine} {h x : ℕ} → Nearly m h x → m.running < nobody → Alone m m.running
in_run {m} f b = alone m.running f (f.runs.made b) (omega (arith, sits_self m.running))

-- none is nobody; none is in a queue twice
pub nobody-sits : {m : Machine} {h x : ℕ} (q : ℕ) → q < m.created → Nearly m h x → sits q nobody ≡ 0
nobody-sits q l f = sits_other q nobody (λ e. omega (arith, f.numbers.few))

pub in_ready : {m : Machine} {h x : ℕ} (c q : ℕ) → c < 3 → q < m.created → Nearly m h x → in_queue q (ready m c) ≤ 1
unfolding places is_ready
in_ready {m} c q k l f =
    let p = f.each q l in
    let t = sum-get (λ c. in_queue q (ready m c)) 3 c k in
    omega arith

pub at-gate : {m : Machine} {h x : ℕ} (g q : ℕ) → g < 25 → q < m.created → Nearly m h x → at_gate q (gate m g) ≤ 1
unfolding places
at-gate {m} g q k l f =
    let p = f.each q l in
    let t = sum-get (λ g. at_gate q (gate m g)) 25 g k in
    omega arith

-- who waits at no gate waits not at g
pub no_gate_lem : (m : Machine) (g q : ℕ) → g < 25 → waits m q ≡ 0 → at_gate q (gate m g) ≡ 0
unfolding waits is_at_gates
no_gate_lem m g q k z = let t = sum-get (λ g. at_gate q (gate m g)) 25 g k in omega arith

-- h is in no job, so that a process in a job is not h
abbrev pub Free : Machine → ℕ → Type 0
Free m h = h < nobody → (proc m h).regs.in_job ≡ false

pub not_free : (m : Machine) (q h : ℕ) → Free m h → q < nobody → (proc m q).regs.in_job ≡ true → sits q h ≡ 0
not_free m q h free b j = sits_other q h (λ e. let i = rw (← e) at free in never (sym j ∙ i b))
