-- The moves of the kernel: each takes a nearly sound state to another
use mathlib.Core.Path.{◌≡◌, refl, sym, ◌∙◌}
use mathlib.Core.Bool.{Bool, true, false}
use mathlib.Core.List.{List}
use Prim.Native.Nat.{ℕ, ◌+◌, ◌<◌, ◌≤◌}
use native.Mathlib.Omega.{arith}
use lib.Dec.{ltb, eqb}
use lib.ListN.{length, get_or, set, length-set}
use borrow.Author.Tests.{eqb-true, eqb-false}
use Rattle.notation.specs.Upto.{sum_to}
use Rattle.notation.proofs.Upto.{split, never, sum-get}
use Rattle.word.specs.Word.{bit}
use Rattle.machine.specs.declared.Queue.{Queue}
use Rattle.machine.specs.declared.Gate.{Gate}
use Rattle.machine.specs.declared.Process.{Process}
use Rattle.machine.specs.declared.Device.{Device}
use Rattle.machine.specs.declared.Machine.{Machine}
use Rattle.machine.specs.State.{nobody, no_queue, no_gate, no_device, proc, gate, ready, device, with, counted, with_waits, with_process}
use Rattle.machine.specs.Queue.{first, pushed, rest}
use Rattle.machine.specs.Classes.{set_running, push, pull, wake}
use Rattle.machine.specs.Gate.{latest, entered, given, join, advance, sit, grant, give_up}
use Rattle.machine.specs.Device.{with_device}
use Rattle.machine.specs.Sound.{sits, in_queue, in_cells, at_gate, is_ready, places, held_of, is_at_gates}
use Rattle.kept.proofs.Counts.{Lined, lined_as, pushed_lined, rest_lined, in_pushed, in_rest, has_room_lem, held-holding, held_dropping, sum-set}
use Rattle.kept.proofs.Steady.{Steady, ended, steady_holding, steady_dropping, steady_ended}
use Rattle.kept.proofs.Nearly.{Known, Tended, Unused, Gates, InClass, works, waits, Nearly, known_nobody, known_one, nobody-sits, Alone, in_hand, in_ready, at-gate, no_gate_lem, Free, not_free}
use Rattle.kept.proofs.Frames.{seated, queued, rebuilt, recounted}
use Rattle.notation.proofs.Cells.{at_set, all_set}
use Rattle.machine.proofs.Sits.{sits_self, sits_other}

-- nobody in hand
pub empty_hand : {m : Machine} {h x : ℕ} → nobody ≤ h → Nearly m h x → Nearly m nobody x
empty_hand {m} {h} {x} b f =
    let e : h ≡ nobody = omega (arith, f.hand.most) in
    rw e at f

-- ---- running and ready
-- no mark
pub unmark : {m : Machine} {h x : ℕ} → Nearly m h x → Nearly (counted m m.count false) h x
unmark {m} f = recounted m.count false f.numbers.low (λ n. refl) f

-- the running process is taken off; the one in hand runs
pub take_running : {m : Machine} {x : ℕ} → Nearly m nobody x → Nearly (set_running m nobody) m.running x
unfolding set_running places is_ready waits is_at_gates
take_running {m} f =
    seated m.running (unmark f) f.classes f.clock f.bell f.devices (known_nobody _) (λ n. refl) f.runs
    (λ q l. omega arith) (λ q l j. omega arith)

pub put_running : {m : Machine} {h x : ℕ} → nobody ≤ m.running → Nearly m h x → Nearly (set_running m h) nobody x
unfolding set_running places is_ready waits is_at_gates
put_running {m} {h} e f =
    let r : m.running ≡ nobody = omega (arith, f.runs.most) in
    seated nobody (unmark f) f.classes f.clock f.bell f.devices f.hand (λ n. refl) (known_nobody _)
    (λ q l. rw r (omega arith)) (λ q l j. omega arith)

-- class c has another queue
reclassed : {m : Machine} {x : ℕ} (h k c : ℕ) (w : Queue) → Nearly m h x → c < 3
    → Lined (InClass m.created m.processes c) w
    → Known m.created k
    → ((q : ℕ) → q < m.created → in_queue q w + sits q k ≡ in_queue q (ready m c) + sits q h)
    → Nearly (with m m.processes m.gates (set m.ready c w) m.running) k x
unfolding places is_ready waits is_at_gates
reclassed {m} h k c w f d t hand p =
    let three = f.classes.three in
    seated k f
    (record {
      three = length-set m.ready c w ∙ three;
      each = all_set (λ j z. Lined (InClass m.created m.processes j) z) m.ready c w no_queue 3 three d t f.classes.each;
    })
    f.clock f.bell f.devices f.runs f.unmarked hand
    (λ q l. let a = sum-set (in_queue q) m.ready no_queue 3 c w d (omega arith) in let i = p q l in omega arith)
    (λ q l j. omega arith)

-- the one in hand joins the tail of its class; the head of class c is taken
pub put-ready : {m : Machine} {h x : ℕ} → h < nobody → Nearly m h x → Nearly (wake m h) nobody x
unfolding wake push
put-ready {m} {h} b f =
    let o = in_hand f b in
    let c : ℕ = (proc m h).class in
    let d : c < 3 = omega (arith, (f.processes.each h o.made).two) in
    let t = f.classes.each c d in
    let room = has_room_lem m.created h (lined_as t (λ q i y. y.0)) o.made (o.ready c d) (λ q l. in_ready c q d l f) in
    reclassed h nobody c (pushed (ready m c) h) f d (pushed_lined t (o.made, refl)) (known_nobody _)
    (λ q l. let i = in_pushed q h t (omega (arith, f.numbers.few)) in let n = nobody-sits q l f in omega arith)

pub take-ready : {m : Machine} {x : ℕ} (c : ℕ) → c < 3 → 0 < (ready m c).len → Nearly m nobody x → Nearly (pull m c) (first (ready m c)) x
unfolding pull
take-ready {m} c d b f =
    let t = f.classes.each c d in
    reclassed nobody (first (ready m c)) c (rest (ready m c)) f d (rest_lined t) (known_one f.numbers.few (t.each 0 b).0)
    (λ q l. let i = in_rest q t b in let n = nobody-sits q l f in omega arith)

-- ---- the clock (true) and the bell (false)
abbrev pub line : Bool → Machine → Queue
line true m = m.clock
line false m = m.bell

abbrev pub with_line : Bool → Machine → Queue → Machine
with_line true m w = with_waits m w m.bell m.devices
with_line false m w = with_waits m m.clock w m.devices

pub lined : {m : Machine} {h x : ℕ} (b : Bool) → Nearly m h x → Lined (λ q. q < m.created) (line b m)
lined true f = f.clock
lined false f = f.bell

in_line : {m : Machine} {h x : ℕ} (b : Bool) (q : ℕ) → q < m.created → Nearly m h x → in_queue q (line b m) ≤ 1
unfolding places
in_line true q l f = let p = f.each q l in omega arith
in_line false q l f = let p = f.each q l in omega arith

not_in_line : (m : Machine) (b : Bool) (q : ℕ) → waits m q ≡ 0 → in_queue q (line b m) ≡ 0
unfolding waits
not_in_line m true q z = omega arith
not_in_line m false q z = omega arith

relined : {m : Machine} {h x : ℕ} (b : Bool) (k : ℕ) (w : Queue) → Nearly m h x → Lined (λ q. q < m.created) w
    → Known m.created k
    → Free m h
    → ((q : ℕ) → q < m.created → in_queue q w + sits q k ≡ in_queue q (line b m) + sits q h)
    → Nearly (with_line b m w) k x
unfolding places is_ready waits is_at_gates
relined {m} {h} true k w f t hand free p =
    seated k f f.classes t f.bell f.devices f.runs f.unmarked hand
    (λ q l. let i = p q l in omega arith)
    (λ q l j. let i = p q l in let z = not_free m q h free (omega (arith, f.numbers.few)) j in omega arith)
relined {m} {h} false k w f t hand free p =
    seated k f f.classes f.clock t f.devices f.runs f.unmarked hand
    (λ q l. let i = p q l in omega arith)
    (λ q l j. let i = p q l in let z = not_free m q h free (omega (arith, f.numbers.few)) j in omega arith)

pub put-line : {m : Machine} {h x : ℕ} (b : Bool) → h < nobody → Free m h → Nearly m h x → Nearly (with_line b m (pushed (line b m) h)) nobody x
put-line {m} {h} b c free f =
    let t = lined b f in
    let o = in_hand f c in
    let room = has_room_lem m.created h t o.made (not_in_line m b h o.waits) (λ q l. in_line b q l f) in
    relined b nobody (pushed (line b m) h) f (pushed_lined t o.made) (known_nobody _) free
    (λ q l. let i = in_pushed q h t (omega (arith, f.numbers.few)) in let n = nobody-sits q l f in omega arith)

pub take-line : {m : Machine} {x : ℕ} (b : Bool) → 0 < (line b m).len → Nearly m nobody x
    → Nearly (with_line b m (rest (line b m))) (first (line b m)) x
take-line {m} b c f =
    let t = lined b f in
    relined b (first (line b m)) (rest (line b m)) f (rest_lined t) (known_one f.numbers.few (t.each 0 c)) (λ i. absurd (omega arith))
    (λ q l. let i = in_rest q t c in let n = nobody-sits q l f in omega arith)

-- ---- the one in hand sits at device d, and who sat there is in hand
abbrev pub seat : ℕ → ℕ → ℕ → Device
seat h operation address = record { process = h; operation = operation; address = address }

pub put-device : {m : Machine} {h x : ℕ} (d operation address : ℕ) → d < 5 → Free m h
    → (h < nobody → works m.present d (seat h operation address) ≡ true)
    → Nearly m h x → Nearly (with_device m d (seat h operation address)) (device m d).process x
unfolding with_device places is_ready waits is_at_gates
put-device {m} {h} d operation address b free ok f =
    let ds : List Device = m.devices in
    let v : Device = seat h operation address in
    let five = f.devices.five in
    let sum : (q : ℕ)
    → sum_to (λ j. sits q (get_or (set ds d v) j no_device).process) 5 + sits q (device m d).process
    ≡ sum_to (λ j. sits q (device m j).process) 5 + sits q h =
    λ q. sum-set (λ (z : Device). sits q z.process) ds no_device 5 d v b (omega arith) in
    seated (device m d).process f f.classes f.clock f.bell
    (record {
      five = length-set ds d v ∙ five;
      known = all_set (λ j z. Known m.created z.process) ds d v no_device 5 five b f.hand f.devices.known;
      busy = all_set (λ j z. z.process < nobody → works m.present j z ≡ true) ds d v no_device 5 five b ok f.devices.busy;
    })
    f.runs f.unmarked (f.devices.known d b)
    (λ q l. let s = sum q in omega arith)
    (λ q l j. let s = sum q in let z = not_free m q h free (omega (arith, f.numbers.few)) j in omega arith)

-- ---- the waiters at a gate
-- the one in hand, who does not hold g and holds at most 7, waits last at the shut gate g
pub put_queue : {m : Machine} {h x : ℕ} (g : ℕ) → h < nobody → g < m.made → (gate m g).holder < nobody → ((gate m g).holder ≡ h → ⊥)
    → (proc m h).holds ≤ 7 → Free m h → Nearly m h x → Nearly (join m g h) nobody x
unfolding join at_gate in_cells
put_queue {m} {h} g b d u n v free f =
    let w : Gate = gate m g in
    let c : g < 25 = omega (arith, f.numbers.few_gates) in
    let k = f.gates.each g c in
    let t = k.queue in
    let o = in_hand f b in
    let z = no_gate_lem m g h c o.waits in
    let room = has_room_lem m.created h t o.made (omega arith) (λ q l. let y = at-gate g q c l f in omega arith) in
    let i : (q : ℕ) → in_queue q (pushed w.queue h) ≡ in_queue q w.queue + sits q h = λ q. in_pushed q h t (omega (arith, f.numbers.few)) in
    queued nobody g (record { holder = w.holder; queue = pushed w.queue h; cells = w.cells }) f d
    (record {
      queue = pushed_lined t o.made;
      room = k.room;
      cells = k.cells;
      holder = k.holder;
      apart = λ y. let a = k.apart y in let j = i w.holder in let s = sits_other w.holder h n in omega arith;
    })
    refl (λ s e. absurd (omega arith)) (known_nobody _)
    (λ q l. let j = i q in let y = nobody-sits q l f in omega arith)
    free (λ _. v)

-- the first waiter of g is taken off
pub take_queue : {m : Machine} {x : ℕ} (g : ℕ) → g < m.made → 0 < (gate m g).queue.len
    → Nearly m nobody x → Nearly (advance m g) (first (gate m g).queue) x
unfolding advance at_gate in_cells rest
take_queue {m} g d l f =
    let w : Gate = gate m g in
    let c : g < 25 = omega (arith, f.numbers.few_gates) in
    let k = f.gates.each g c in
    let t = k.queue in
    let i : (q : ℕ) → in_queue q w.queue ≡ sits q (first w.queue) + in_queue q (rest w.queue) = λ q. in_rest q t l in
    queued (first w.queue) g (record { holder = w.holder; queue = rest w.queue; cells = w.cells }) f d
    (record {
      queue = rest_lined t;
      room = k.room;
      cells = k.cells;
      holder = k.holder;
      apart = λ y. let a = k.apart y in let j = i w.holder in omega arith;
    })
    refl (λ n e. let z = f.gates.shut g c n e in omega arith) (known_one f.numbers.few (t.each 0 l))
    (λ q b. let j = i q in let y = nobody-sits q b f in omega arith)
    (λ b. absurd (omega arith)) (λ b. absurd (omega arith))

-- the one in hand sits in cell a of g, and who sat there is in hand
pub put-cell : {m : Machine} {h x : ℕ} (g a : ℕ) → a < 8 → g < m.made → (h < nobody → (proc m h).holds ≤ 7) → Free m h
    → ((gate m g).holder ≡ h → h < nobody → ⊥)
    → Nearly m h x → Nearly (sit m g a h) (get_or (gate m g).cells a 0) x
unfolding sit at_gate in_cells
put-cell {m} {h} g a b d v free n f =
    let w : Gate = gate m g in
    let y : ℕ = get_or w.cells a 0 in
    let c : g < 25 = omega (arith, f.numbers.few_gates) in
    let k = f.gates.each g c in
    let i : (q : ℕ) → sum_to (λ j. sits q (get_or (set w.cells a h) j 0)) 8 + sits q y ≡ sum_to (λ j. sits q (get_or w.cells j 0)) 8 + sits q h =
    λ q. sum-set (sits q) w.cells 0 8 a h b (omega (arith, k.room)) in
    queued y g (record { holder = w.holder; queue = w.queue; cells = set w.cells a h }) f d
    (record {
      queue = k.queue;
      room = length-set w.cells a h ∙ k.room;
      cells = all_set (λ j z. Known m.created z) w.cells a h 0 8 k.room b f.hand k.cells;
      holder = k.holder;
      apart = λ s.
          let j = i w.holder in
          let z = k.apart s in
          let e = sits_other w.holder h (λ u. n u (omega arith)) in
          omega arith;
    })
    refl (λ s r. f.gates.shut g c s r) (k.cells a b)
    (λ q l. let j = i q in omega arith)
    free v

-- ---- the holder of a gate
-- the gate g with holder b
abbrev held_by : Machine → ℕ → ℕ → Gate
held_by m g b = record { holder = b; queue = (gate m g).queue; cells = (gate m g).cells }

same-waiters : (m : Machine) (g b : ℕ) → g < length m.gates → (q j : ℕ)
    → at_gate q (get_or (set m.gates g (held_by m g b)) j no_gate) ≡ at_gate q (gate m j)
unfolding at_gate in_cells
same-waiters m g b l q j =
    at_set (λ z. in_queue q z.queue + sum_to (λ c. sits q (get_or z.cells c 0)) 8 ≡ at_gate q (gate m j))
    m.gates g (held_by m g b) no_gate j l (λ e. rw e) (λ n. refl)

-- gate z may be open with waiters instead of x
reheld : {m : Machine} {h x : ℕ} (z g b : ℕ) → g < m.made → Known m.created b → (b < nobody → at_gate b (gate m g) ≡ 0)
    → ((j : ℕ) → j < 25 → (j ≡ g → ⊥) → (j ≡ z → ⊥) → j ≡ x → ⊥)
    → ((g ≡ z → ⊥) → b ≡ nobody → (gate m g).queue.len ≡ 0)
    → Nearly m h x → Gates m.created m.made z (set m.gates g (held_by m g b))
unfolding at_gate in_cells
reheld {m} z g b d known apart others empty f =
    let gs : List Gate = m.gates in
    let w : Gate = held_by m g b in
    let c : g < 25 = omega (arith, f.numbers.few_gates) in
    let many = f.gates.many in
    let k = f.gates.each g c in
    record {
      many = length-set gs g w ∙ many;
      each =
          all_set (λ j y. Tended m.created y) gs g w no_gate 25 many c
          (record { queue = k.queue; room = k.room; cells = k.cells; holder = known; apart = apart }) f.gates.each;
      shut = λ j i n.
          at_set (λ y. y.holder ≡ nobody → y.queue.len ≡ 0) gs g w no_gate j (omega arith)
          (λ e. empty (λ t. n (e ∙ t))) (λ t. f.gates.shut j i (others j i t n));
      unused = all_set (λ j y. m.made ≤ j → Unused y) gs g w no_gate 25 many c (λ n. absurd (omega arith)) f.gates.unused;
    }

-- p, who is nowhere else, becomes v as the holder of g becomes b
regrant : {m : Machine} {h x : ℕ} (z g p b : ℕ) (v : Process) → Nearly m h x → g < m.made → Alone m p
    → length v.held ≡ 8
    → Steady m.length v
    → v.ended ≡ (proc m p).ended
    → Gates m.created m.made z (set m.gates g (held_by m g b))
    → held_of v g ≡ sits p b
    → ((j : ℕ) → j < 25 → (j ≡ g → ⊥) → held_of v j ≡ held_of (proc m p) j)
    → ((q : ℕ) → q < m.created → (q ≡ p → ⊥) → sits q b ≡ sits q (gate m g).holder)
    → Nearly (with m (set m.processes p v) (set m.gates g (held_by m g b)) m.ready m.running) h z
unfolding waits
regrant {m} {h} z g p b v f d o held ok en gates own others agree =
    let gs : List Gate = m.gates in
    let w : Gate = held_by m g b in
    let l : g < length gs = omega (arith, f.numbers.few_gates, f.gates.many) in
    let away = o.waits in
    rebuilt h z p v (set gs g w) f o.made held ok gates (same-waiters m g b l) f.hand (rw en) (λ q i n. refl)
    (λ c i t. absurd (omega (arith, o.ready c i)))
    (λ t. rw (en, o.alive) (omega arith))
    (λ t. absurd (omega arith))
    (λ j i. at_set (λ y. held_of v j ≡ sits p y.holder) gs g w no_gate j l (λ e. rw e own) (λ n. others j i n ∙ f.agree p j o.made i))
    (λ q j i n y. at_set (λ z. sits q z.holder ≡ sits q (gate m j).holder) gs g w no_gate j l (λ e. rw e (agree q i n)) (λ t. refl))

holding-held : (p : Process) (g : ℕ) → length (entered p g).held ≡ length p.held
unfolding entered
holding-held p g = split (ltb p.holds 8) (λ t. rw t (length-set p.held p.holds g)) (λ t. rw t)

holding-ended : (p : Process) (g : ℕ) → (entered p g).ended ≡ p.ended
unfolding entered
holding-ended p g = split (ltb p.holds 8) (λ t. rw t) (λ t. rw t)

-- h, who is nowhere else, becomes holder of the open gate g
pub granted : {m : Machine} {k x : ℕ} (g h : ℕ) → g < m.made → ((j : ℕ) → j < 25 → (j ≡ g → ⊥) → j ≡ x → ⊥) → (gate m g).holder ≡ nobody
    → (proc m h).holds ≤ 7 → (proc m h).regs.in_job ≡ false → Alone m h → Nearly m k x → Nearly (grant m g h) k 25
unfolding grant
granted {m} g h d away e v free o f =
    let p : Process = proc m h in
    let l = f.numbers.few in
    let b : h < 10 = omega (arith, o.made) in
    let c : g < 25 = omega (arith, f.numbers.few_gates) in
    let eight = f.processes.held h b in
    let ten : (q : ℕ) → q < m.created → sits q (gate m g).holder ≡ 0 = λ q i. rw e (nobody-sits q i f) in
    regrant 25 g h h (entered p g) f d o (holding-held p g ∙ eight)
    (steady_holding (f.processes.each h o.made) g eight v c o.alive free)
    (holding-ended p g)
    (reheld 25 g h d (known_one l o.made) (λ _. no_gate_lem m g h c o.waits) (λ j i n z. away j i n) (λ t s. absurd (omega arith)) f)
    (omega (arith, held-holding p g g eight (omega arith), f.agree h g o.made c, ten h o.made, sits_self g, sits_self h))
    (λ j i n. let a = held-holding p g j eight (omega arith) in let z = sits_other j g n in omega arith)
    (λ q i n. sits_other q h n ∙ sym (ten q i))

-- the holder h, who is nowhere else, gives up g, the latest that it entered
pub given_up : {m : Machine} {k : ℕ} (g h : ℕ) → g < m.made → (gate m g).holder ≡ h → 0 < (proc m h).holds → latest (proc m h) ≡ g
    → Alone m h → Nearly m k 25 → Nearly (give_up m g h) k g
unfolding give_up given
given_up {m} g h d e v a o f =
    let p : Process = proc m h in
    let b : h < 10 = omega (arith, o.made, f.numbers.few) in
    let c : g < 25 = omega (arith, f.numbers.few_gates) in
    let drops : (j : ℕ) → held_of p j ≡ held_of (given p) j + sits j g = λ j. rw a at (held_dropping p j v) in
    regrant g g h nobody (given p) f d o (f.processes.held h b)
    (steady_dropping (f.processes.each h o.made))
    refl
    (reheld g g nobody d (known_nobody _) (λ t. absurd (omega arith)) (λ j i n t s. omega arith) (λ t s. absurd (t refl)) f)
    (omega (arith, drops g, rw e at (f.agree h g o.made c), nobody-sits h o.made f, sits_self g, sits_self h))
    (λ j i n. let y = drops j in let z = sits_other j g n in omega arith)
    (λ q i n. nobody-sits q i f ∙ sym (rw e (sits_other q h n)))

-- the latest that a process entered has it for holder
pub latest-held : {m : Machine} {k x : ℕ} (g h : ℕ) → h < m.created → g < 25 → 0 < (proc m h).holds → latest (proc m h) ≡ g → Nearly m k x
    → (gate m g).holder ≡ h
latest-held {m} g h b c v a f =
    let i = rw a at (held_dropping (proc m h) g v) in
    let y = f.agree h g b c in
    split (eqb h (gate m g).holder) (λ t. sym (eqb-true h _ t))
    (λ t. let z = sits_other h (gate m g).holder (eqb-false h _ t) in absurd (omega (arith, sits_self g)))

-- who waits or sits at a gate is in no job and has room for one gate more
pub gate_free : {m : Machine} {h x : ℕ} (g q : ℕ) → g < 25 → q < m.created → 0 < at_gate q (gate m g) → Nearly m h x
    → (proc m q).regs.in_job ≡ false
gate_free {m} g q c l b f =
    split (proc m q).regs.in_job
    (λ t. let z = no_gate_lem m g q c (let y = f.jobs q l t in omega arith) in absurd (omega arith))
    (λ t. t)

pub gate_room : {m : Machine} {h x : ℕ} (g q : ℕ) → g < 25 → q < m.created → 0 < at_gate q (gate m g) → Nearly m h x
    → (proc m q).holds ≤ 7
unfolding is_at_gates
gate_room {m} g q c l b f = f.seven q l (let t = sum-get (λ j. at_gate q (gate m j)) 25 g c in omega arith)

-- ---- a process with the gates held and the end as before
pub remade : {m : Machine} {h x : ℕ} (p : ℕ) (v : Process) → p < m.created
    → v.held ≡ (proc m p).held
    → v.holds ≡ (proc m p).holds
    → v.ended ≡ (proc m p).ended
    → Steady m.length v
    → ((c : ℕ) → c < 3 → 0 < in_queue p (ready m c) → v.class ≡ (proc m p).class)
    → (v.regs.in_job ≡ true → waits m p + bit (proc m p).ended ≡ 0)
    → Nearly m h x → Nearly (with_process m p v) h x
unfolding with_process held_of
remade {m} {h} {x} p v b held holds end ok class job f =
    let eight = f.processes.held p (omega (arith, f.numbers.few)) in
    rebuilt h x p v m.gates f b (rw held eight) ok f.gates (λ q j. refl) f.hand (rw end) (λ q i n. refl)
    class (rw end job) (rw holds (f.seven p b)) (λ g i. rw (held, holds) (f.agree p g b i)) (λ q g i n y. refl)

-- the one in hand, who holds none and is in no job, has ended
pub finished : {m : Machine} {h x : ℕ} → h < nobody → (proc m h).holds ≡ 0 → Free m h → Nearly m h x
    → Nearly (with_process m h (ended (proc m h))) nobody x
unfolding with_process held_of
finished {m} {h} {x} b z free f =
    let p : Process = proc m h in
    let o = in_hand f b in
    let s = f.processes.each h o.made in
    let t = nobody-sits h o.made f in
    rebuilt nobody x h (ended p) m.gates f o.made (f.processes.held h b)
    (steady_ended s z)
    f.gates (λ q j. refl) (known_nobody _)
    (rw o.alive (omega (arith, sits_self h)))
    (λ q i n. nobody-sits q i f ∙ sym (sits_other q h n))
    (λ c i t. refl) (λ t. never (sym t ∙ free b)) (f.seven h o.made) (λ g i. f.agree h g o.made i) (λ q g i n y. refl)
