-- Packing and unpacking are each other's inverse
use mathlib.Core.Path.{◌≡◌, refl, sym, ap, ◌∙◌}
use mathlib.Core.Bool.{Bool, true, ◌&&◌}
use mathlib.Core.List.{List, [], ◌∷◌, ◌++◌}
use Prim.Native.Nat.{ℕ, suc, ◌+◌, ◌*◌, ◌<◌}
use native.Mathlib.Omega.{arith}
use borrow.Author.Tests.{eq-eqb, lt-ltb}
use lib.Dec.{ltb}
use lib.ListN.{length, get_or, length-append}
use Rattle.notation.specs.Upto.{all_to, list_from, list_to}
use Rattle.notation.proofs.Upto.{both, all_at, all_of, get_d_list, list_same, list_append}
use Rattle.word.specs.Word.{bit}
use Rattle.machine.specs.declared.Queue.{Queue}
use Rattle.machine.specs.declared.Gate.{Gate}
use Rattle.machine.specs.declared.Regs.{Regs}
use Rattle.machine.specs.declared.Process.{Process}
use Rattle.machine.specs.declared.Device.{Device}
use Rattle.machine.specs.declared.Machine.{Machine}
use Rattle.machine.specs.State.{no_process, no_gate, no_queue, no_device, proc, gate, ready, device}
use Rattle.machine.specs.Shape.{Shaped}
use Rattle.layout.specs.Layout.{rows, queue_words, gate_words, regs_words, process_words, device_words, number_words, packed, from, queue_of, gate_of, regs_of, process_of, device_of, unpacked, bytes, process_fits, fits, state_words}
use Rattle.layout.specs.Read.{Fitting}
use Rattle.layout.specs.Inverse.{Small, Bytes, PackedFits, UnpackedPacked, PackedUnpacked}
use Rattle.layout.proofs.Laws.{bytes_shifted, fitting}
use Rattle.layout.proofs.Says.{bool_of, bool_word, bool_fits, Says, left, right, list_of, words_of, length-rows, row_says, rows_cut, bytes_of, bytes-more, bytes-rows}

-- ---- words that fit are those of the machine that they say: each part's words are those it was read from
process_cut : (w : ℕ → ℕ) → process_fits w ≡ true → process_words (process_of w) ≡ list_to w 24
unfolding list_from process_fits
process_cut w e =
    let small : Bool = bytes (λ k. w (12 + k)) 11 in
    let b = both (ltb (w 5) 2 && small) (ltb (w 23) 2) e in
    let a = both (ltb (w 5) 2) small b.0 in
    rw (bool_word (w 5) a.0, bool_word (w 23) b.1)

gate_cut : (w : ℕ → ℕ) → gate_words (gate_of w) ≡ list_to w 20
unfolding list_from
gate_cut w = refl

queue_cut : (w : ℕ → ℕ) → queue_words (queue_of w) ≡ list_to w 11
unfolding list_from
queue_cut w = refl

device_cut : (w : ℕ → ℕ) → device_words (device_of w) ≡ list_to w 3
unfolding list_from
device_cut w = refl

module _ (ws : List ℕ) where
  word : ℕ → ℕ
  word k = get_or ws k 0

  -- counted from a part's place, or from the start
  cut : (at n : ℕ) → list_to (from ws at) n ≡ list_from word at n
  unfolding word
  cut at n = list_same (from ws at) word 0 at n (λ k l. ap (λ (i : ℕ). get_or ws i 0) (omega arith))

  -- a row of parts that were read at their places
  row_cut : {A : Type 0} (d : A) (k : ℕ) (len : ℕ → ℕ) → len 0 ≡ 0 → ((i : ℕ) → len (suc i) ≡ len i + k) →
      (a n : ℕ) (g : ℕ → A) (f : A → List ℕ) → ((i : ℕ) → i < n → f (g i) ≡ list_to (from ws (a + len i)) k) →
      rows (λ i. f (get_or (list_to g n) i d)) n ≡ list_from word a (len n)
  row_cut d k len none step a n g f h =
      rows_cut k len none step (λ i. f (get_or (list_to g n) i d)) word a n
      (λ i l.
      let z : 0 + i ≡ i = omega arith in
      ap f (get_d_list g 0 n i d l) ∙ rw z (h i l) ∙ cut (a + len i) k)

  whole_cut : length ws ≡ state_words → list_from word 0 state_words ≡ ws
  unfolding word
  whole_cut e = list_of 0 word ws state_words e (λ k l. refl)

  module _ (e : Fitting ws) where
    processes_cut : rows (λ i. process_words (proc (unpacked ws) i)) 10 ≡ list_from word 0 240
    unfolding unpacked
    processes_cut =
        row_cut no_process 24 (λ i. 24 * i) refl (λ i. omega arith) 0 10 (λ i. process_of (from ws (24 * i))) process_words
        (λ i l.
        let z : 0 + 24 * i ≡ 24 * i = omega arith in
        rw z (process_cut (from ws (24 * i)) (all_at (λ i. process_fits (from ws (24 * i))) 10 i e.processes l)))

    gates_cut : rows (λ g. gate_words (gate (unpacked ws) g)) 25 ≡ list_from word 240 500
    unfolding unpacked
    gates_cut =
        row_cut no_gate 20 (λ i. 20 * i) refl (λ i. omega arith) 240 25 (λ g. gate_of (from ws (240 + 20 * g))) gate_words
        (λ i l. gate_cut (from ws (240 + 20 * i)))

    ready_cut : rows (λ c. queue_words (ready (unpacked ws) c)) 3 ≡ list_from word 740 33
    unfolding unpacked
    ready_cut =
        row_cut no_queue 11 (λ i. 11 * i) refl (λ i. omega arith) 740 3 (λ c. queue_of (from ws (740 + 11 * c))) queue_words
        (λ i l. queue_cut (from ws (740 + 11 * i)))

    devices_cut : rows (λ d. device_words (device (unpacked ws) d)) 5 ≡ list_from word 795 15
    unfolding unpacked
    devices_cut =
        row_cut no_device 3 (λ i. 3 * i) refl (λ i. omega arith) 795 5 (λ d. device_of (from ws (795 + 3 * d))) device_words
        (λ i l. device_cut (from ws (795 + 3 * i)))

    clock_cut : queue_words (unpacked ws).clock ≡ list_from word 773 11
    unfolding unpacked
    clock_cut = queue_cut (from ws 773) ∙ cut 773 11

    bell_cut : queue_words (unpacked ws).bell ≡ list_from word 784 11
    unfolding unpacked
    bell_cut = queue_cut (from ws 784) ∙ cut 784 11

    numbers_cut : number_words (unpacked ws) ≡ list_from word 810 12
    unfolding unpacked list_from word
    numbers_cut = rw (bool_word (get_or ws 821 0) e.mark)

    packed_unpacked' : packed (unpacked ws) ≡ ws
    unfolding packed
    packed_unpacked' =
        rw
        (processes_cut, gates_cut, ready_cut, clock_cut, bell_cut, devices_cut, numbers_cut, ← list_append word 0 240 500, ← list_append word 0 740 33, ← list_append word 0 773 11, ← list_append word 0 784 11, ← list_append word 0 795 15, ← list_append word 0 810 12)
        (whole_cut e.long)

pub packed-unpacked : PackedUnpacked
packed-unpacked ws e = packed_unpacked' ws (fitting ws e)

-- ---- a part's words say that part
queue_of_lem : (w : ℕ → ℕ) (q : Queue) → length q.at ≡ 10 → Says w (queue_words q) → queue_of w ≡ q
queue_of_lem w q n s =
    rw (s.at 0 (omega arith), words_of (λ k. w (1 + k)) q.at 10 n (right w (q.len ∷ []) q.at 1 refl s))

gate_of_lem : (w : ℕ → ℕ) (g : Gate) → length g.queue.at ≡ 10 → length g.cells ≡ 8 → Says w (gate_words g) → gate_of w ≡ g
gate_of_lem w g n c s =
    let front : List ℕ = g.holder ∷ queue_words g.queue in
    let q = queue_of_lem (λ k. w (1 + k)) g.queue n (right w (g.holder ∷ []) (queue_words g.queue) 1 refl (left w front g.cells s)) in
    let x = words_of (λ k. w (12 + k)) g.cells 8 c (right w front g.cells 12 (omega arith) s) in
    rw (s.at 0 (omega arith), q, x)

regs_of_lem : (w : ℕ → ℕ) (r : Regs) → Says w (regs_words r) → regs_of w ≡ r
regs_of_lem w r s =
    rw
    (s.at 0 (omega arith), s.at 1 (omega arith), s.at 2 (omega arith), s.at 3 (omega arith), s.at 4 (omega arith), s.at 5 (omega arith), s.at 6 (omega arith), s.at 7 (omega arith), s.at 8 (omega arith), s.at 9 (omega arith), s.at 10 (omega arith), bool_of r.in_job)

module _ (w : ℕ → ℕ) (p : Process) (n : length p.held ≡ 8) (s : Says w (process_words p)) where
  says_held : Says w (regs_words p.regs ++ (p.variables ∷ p.slice ∷ p.class ∷ p.holds ∷ []) ++ p.held)
  says_held = left w _ (bit p.ended ∷ []) s

  says_ended : w 23 ≡ bit p.ended
  says_ended =
      let front : List ℕ = regs_words p.regs ++ (p.variables ∷ p.slice ∷ p.class ∷ p.holds ∷ []) ++ p.held in
      (right w front (bit p.ended ∷ []) 23 (omega arith) s).at 0 (omega arith)

  process_of_lem : process_of w ≡ p
  process_of_lem =
      let front : List ℕ = regs_words p.regs ++ (p.variables ∷ p.slice ∷ p.class ∷ p.holds ∷ []) in
      let t = left w front p.held says_held in
      let r = regs_of_lem w p.regs (left w (regs_words p.regs) _ t) in
      let h = words_of (λ k. w (15 + k)) p.held 8 n (right w front p.held 15 refl says_held) in
      rw (r, t.at 11 (omega arith), t.at 12 (omega arith), t.at 13 (omega arith), t.at 14 (omega arith), h, says_ended, bool_of p.ended)

device_of_lem : (w : ℕ → ℕ) (d : Device) → Says w (device_words d) → device_of w ≡ d
device_of_lem w d s = rw (s.at 0 (omega arith), s.at 1 (omega arith), s.at 2 (omega arith))

-- its words fit where its bytes are bytes
process_fit : (w : ℕ → ℕ) (p : Process) → length p.held ≡ 8 → Says w (process_words p) → Small (p.slice ∷ p.class ∷ p.holds ∷ p.held) → process_fits w ≡ true
unfolding process_fits
process_fit w p n s b =
    let small : List ℕ = p.slice ∷ p.class ∷ p.holds ∷ p.held in
    let front : List ℕ = regs_words p.regs ++ (p.variables ∷ []) in
    let t : Says w (front ++ small) = says_held w p n s in
    let e : length small ≡ 11 = omega arith in
    let five : w 5 ≡ bit p.regs.in_job = t.at 5 (omega arith) in
    rw (five, bool_fits p.regs.in_job, says_ended w p n s, bool_fits p.ended, rw e at (bytes_of (λ k. w (12 + k)) small (right w front small 12 refl t) b))

-- words from a place on, counted from the place of a part before
again : (ws : List ℕ) (at j : ℕ) (xs : List ℕ) → Says (λ k. from ws at (j + k)) xs → Says (from ws (at + j)) xs
again ws at j xs h = record { at = λ k l. ap (λ (i : ℕ). get_or ws i 0) (omega arith) ∙ h.at k l }

process_size : (p : Process) → length p.held ≡ 8 → length (process_words p) ≡ 24
process_size p n =
    let front : List ℕ = regs_words p.regs ++ (p.variables ∷ p.slice ∷ p.class ∷ p.holds ∷ []) in
    length-append (front ++ p.held) (bit p.ended ∷ []) ∙ omega (arith, length-append front p.held)

-- ---- the words of a shaped machine, part by part
module _ (m : Machine) (s : Shaped m) where
  ws : List ℕ
  ws = packed m

  processes : List ℕ
  processes = rows (λ i. process_words (proc m i)) 10

  gates : List ℕ
  gates = rows (λ g. gate_words (gate m g)) 25

  queues : List ℕ
  queues = rows (λ c. queue_words (ready m c)) 3

  devices : List ℕ
  devices = rows (λ d. device_words (device m d)) 5

  process_long : (i : ℕ) → i < 10 → length (process_words (proc m i)) ≡ 24
  process_long i l = process_size (proc m i) (s.held i l)

  gate-long : (g : ℕ) → g < 25 → length (gate_words (gate m g)) ≡ 20
  gate-long g l = omega (arith, length-append (queue_words (gate m g).queue) (gate m g).cells, s.queues g l, s.cells g l)

  ready-long : (c : ℕ) → c < 3 → length (queue_words (ready m c)) ≡ 11
  ready-long c l = omega (arith, s.ready c l)

  processes-long : length processes ≡ 240
  unfolding processes
  processes-long = length-rows 24 (λ i. 24 * i) refl (λ i. omega arith) _ 10 process_long

  gates-long : length gates ≡ 500
  unfolding gates
  gates-long = length-rows 20 (λ i. 20 * i) refl (λ i. omega arith) _ 25 gate-long

  queues-long : length queues ≡ 33
  unfolding queues
  queues-long = length-rows 11 (λ i. 11 * i) refl (λ i. omega arith) _ 3 ready-long

  devices-long : length devices ≡ 15
  unfolding devices
  devices-long = length-rows 3 (λ i. 3 * i) refl (λ i. omega arith) _ 5 (λ i l. refl)

  -- all up to the gates, the ready, the clock, the bell, the devices, the numbers
  to_gates : List ℕ
  to_gates = processes ++ gates

  to_ready : List ℕ
  to_ready = to_gates ++ queues

  to_clock : List ℕ
  to_clock = to_ready ++ queue_words m.clock

  to_bell : List ℕ
  to_bell = to_clock ++ queue_words m.bell

  to_devices : List ℕ
  to_devices = to_bell ++ devices

  to_gates_long : length to_gates ≡ 740
  unfolding to_gates
  to_gates_long = length-append processes gates ∙ rw (processes-long, gates-long)

  to_ready_long : length to_ready ≡ 773
  unfolding to_ready
  to_ready_long = length-append to_gates queues ∙ rw (to_gates_long, queues-long)

  to_clock_long : length to_clock ≡ 784
  unfolding to_clock
  to_clock_long = length-append to_ready (queue_words m.clock) ∙ omega (arith, to_ready_long, s.clock)

  to_bell_long : length to_bell ≡ 795
  unfolding to_bell
  to_bell_long = length-append to_clock (queue_words m.bell) ∙ omega (arith, to_clock_long, s.bell)

  to_devices_long : length to_devices ≡ 810
  unfolding to_devices
  to_devices_long = length-append to_bell devices ∙ rw (to_bell_long, devices-long)

  packed_is : ws ≡ to_devices ++ number_words m
  unfolding ws packed to_devices to_bell to_clock to_ready to_gates processes gates queues devices
  packed_is = refl

  packed-long : length ws ≡ state_words
  packed-long = ap length packed_is ∙ length-append to_devices (number_words m) ∙ omega (arith, to_devices_long)

  word_of : ℕ → ℕ
  word_of k = get_or ws k 0

  says_all : Says word_of (to_devices ++ number_words m)
  unfolding word_of
  says_all = record { at = λ k l. ap (λ (xs : List ℕ). get_or xs k 0) packed_is }

  says_devices_on : Says word_of to_devices
  says_devices_on = left word_of to_devices (number_words m) says_all

  says_bell_on : Says word_of to_bell
  unfolding to_devices
  says_bell_on = left word_of to_bell devices says_devices_on

  says_clock_on : Says word_of to_clock
  unfolding to_bell
  says_clock_on = left word_of to_clock (queue_words m.bell) says_bell_on

  says_ready_on : Says word_of to_ready
  unfolding to_clock
  says_ready_on = left word_of to_ready (queue_words m.clock) says_clock_on

  says_gates_on : Says word_of to_gates
  unfolding to_ready
  says_gates_on = left word_of to_gates queues says_ready_on

  -- each part, from its place on
  says_process : (i : ℕ) → i < 10 → Says (from ws (24 * i)) (process_words (proc m i))
  unfolding word_of to_gates processes
  says_process i l = row_says 24 (λ i. 24 * i) refl (λ i. omega arith) _ word_of 10 i process_long l (left word_of processes gates says_gates_on)

  says_gates : Says (from ws 240) gates
  unfolding word_of to_gates
  says_gates = right word_of processes gates 240 processes-long says_gates_on

  says_gate : (g : ℕ) → g < 25 → Says (from ws (240 + 20 * g)) (gate_words (gate m g))
  unfolding gates
  says_gate g l = again ws 240 (20 * g) _ (row_says 20 (λ i. 20 * i) refl (λ i. omega arith) _ (from ws 240) 25 g gate-long l says_gates)

  says_queue : (c : ℕ) → c < 3 → Says (from ws (740 + 11 * c)) (queue_words (ready m c))
  unfolding word_of to_ready queues
  says_queue c l =
      again ws 740 (11 * c) _
      (row_says 11 (λ i. 11 * i) refl (λ i. omega arith) _ (from ws 740) 3 c ready-long l (right word_of to_gates queues 740 to_gates_long says_ready_on))

  says_clock : Says (from ws 773) (queue_words m.clock)
  unfolding word_of to_clock
  says_clock = right word_of to_ready (queue_words m.clock) 773 to_ready_long says_clock_on

  says_bell : Says (from ws 784) (queue_words m.bell)
  unfolding word_of to_bell
  says_bell = right word_of to_clock (queue_words m.bell) 784 to_clock_long says_bell_on

  says_device : (d : ℕ) → d < 5 → Says (from ws (795 + 3 * d)) (device_words (device m d))
  unfolding word_of to_devices devices
  says_device d l =
      again ws 795 (3 * d) _
      (row_says 3 (λ i. 3 * i) refl (λ i. omega arith) _ (from ws 795) 5 d (λ i l. refl) l (right word_of to_bell devices 795 to_bell_long says_devices_on))

  says_numbers : Says (from ws 810) (number_words m)
  unfolding word_of
  says_numbers = right word_of to_devices (number_words m) 810 to_devices_long says_all

  -- ---- and say that machine
  processes_back : list_to (λ i. process_of (from ws (24 * i))) 10 ≡ m.processes
  processes_back = list_of no_process _ m.processes 10 s.processes (λ i l. process_of_lem _ (proc m i) (s.held i l) (says_process i l))

  gates_back : list_to (λ g. gate_of (from ws (240 + 20 * g))) 25 ≡ m.gates
  gates_back = list_of no_gate _ m.gates 25 s.gates (λ g l. gate_of_lem _ (gate m g) (s.queues g l) (s.cells g l) (says_gate g l))

  ready_back : list_to (λ c. queue_of (from ws (740 + 11 * c))) 3 ≡ m.ready
  ready_back = list_of no_queue _ m.ready 3 s.classes (λ c l. queue_of_lem _ (ready m c) (s.ready c l) (says_queue c l))

  devices_back : list_to (λ d. device_of (from ws (795 + 3 * d))) 5 ≡ m.devices
  devices_back = list_of no_device _ m.devices 5 s.devices (λ d l. device_of_lem _ (device m d) (says_device d l))

  number : (k : ℕ) → k < 12 → get_or ws (810 + k) 0 ≡ get_or (number_words m) k 0
  number k l = says_numbers.at k l

  unpacked_ws : unpacked ws ≡ m
  unfolding unpacked
  unpacked_ws =
      rw
      (processes_back, gates_back, ready_back, queue_of_lem _ m.clock s.clock says_clock, queue_of_lem _ m.bell s.bell says_bell, devices_back, number 0 (omega arith), number 1 (omega arith), number 2 (omega arith), number 3 (omega arith), number 4 (omega arith), number 5 (omega arith), number 6 (omega arith), number 7 (omega arith), number 8 (omega arith), number 9 (omega arith), number 10 (omega arith), number 11 (omega arith), bool_of m.mark)

  -- ---- and fit
  module _ (b : Bytes m) where
    process_fits_lem : (i : ℕ) → i < 10 → process_fits (from ws (24 * i)) ≡ true
    process_fits_lem i l = process_fit _ (proc m i) (s.held i l) (says_process i l) (b.processes i l)

    gates-fit : bytes (from ws 240) 500 ≡ true
    gates-fit =
        bytes-rows 20 (λ i. 20 * i) refl (λ i. omega arith) (from ws 240) 25
        (λ g l. sym (bytes_shifted ws 240 (20 * g) 20) ∙ rw (gate-long g l) at (bytes_of _ (gate_words (gate m g)) (says_gate g l) (b.gates g l)))

    ready-fit : bytes (from ws 740) 33 ≡ true
    ready-fit =
        bytes-rows 11 (λ i. 11 * i) refl (λ i. omega arith) (from ws 740) 3
        (λ c l. sym (bytes_shifted ws 740 (11 * c) 11) ∙ rw (ready-long c l) at (bytes_of _ (queue_words (ready m c)) (says_queue c l) (b.ready c l)))

    clock-fits : bytes (from ws 773) 11 ≡ true
    clock-fits = let n : length (queue_words m.clock) ≡ 11 = omega (arith, s.clock) in rw n at (bytes_of _ (queue_words m.clock) says_clock b.clock)

    bell-fits : bytes (from ws 784) 11 ≡ true
    bell-fits = let n : length (queue_words m.bell) ≡ 11 = omega (arith, s.bell) in rw n at (bytes_of _ (queue_words m.bell) says_bell b.bell)

    queues-fit : bytes (from ws 240) 555 ≡ true
    queues-fit =
        let a = bytes-more (from ws 240) 500 33 gates-fit (sym (bytes_shifted ws 240 500 33) ∙ ready-fit) in
        let c = bytes-more (from ws 240) 533 11 a (sym (bytes_shifted ws 240 533 11) ∙ clock-fits) in
        bytes-more (from ws 240) 544 11 c (sym (bytes_shifted ws 240 544 11) ∙ bell-fits)

    devices-fit : (d : ℕ) → d < 5 → bytes (from ws (795 + 3 * d)) 2 ≡ true
    devices-fit d l =
        bytes_of _ ((device m d).process ∷ (device m d).operation ∷ [])
        (left _ ((device m d).process ∷ (device m d).operation ∷ []) ((device m d).address ∷ []) (says_device d l))
        (b.devices d l)

    numbers_fit : bytes (from ws 810) 4 ≡ true
    numbers_fit =
        let small : List ℕ = m.running ∷ m.created ∷ m.made ∷ m.stop ∷ [] in
        bytes_of _ small (left _ small (m.line ∷ m.seconds ∷ m.fraction ∷ m.edition ∷ m.length ∷ m.present ∷ m.count ∷ bit m.mark ∷ []) says_numbers) b.numbers

    count_fits : bytes (from ws 820) 1 ≡ true
    unfolding all_to
    count_fits = rw (number 10 (omega arith)) (lt-ltb _ _ (b.count 0))

    mark-fits : ltb (get_or ws 821 0) 2 ≡ true
    mark-fits = rw (number 11 (omega arith)) (bool_fits m.mark)

    ws_fits : fits ws ≡ true
    unfolding fits
    ws_fits =
        rw
        (eq-eqb (length ws) state_words packed-long, all_of (λ i. process_fits (from ws (24 * i))) 10 process_fits_lem, queues-fit, all_of (λ d. bytes (from ws (795 + 3 * d)) 2) 5 devices-fit, numbers_fit, count_fits, mark-fits)

pub unpacked-packed : UnpackedPacked
unfolding ws
unpacked-packed m s = unpacked_ws m s

pub packed-fits : PackedFits
unfolding ws
packed-fits m s b = ws_fits m s b
