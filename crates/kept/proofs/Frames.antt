-- What a change of some parts has to keep, for the state to stay nearly sound
use mathlib.Core.Path.{◌≡◌, refl, sym, ◌∙◌, ap}
use mathlib.Core.Bool.{Bool, true, false}
use mathlib.Core.List.{List}
use Prim.Native.Nat.{ℕ, ◌+◌, ◌%◌, ◌<◌, ◌≤◌}
use native.Mathlib.Omega.{arith}
use lib.Dec.{eqb}
use lib.ListN.{length, get_or, set, length-set}
use borrow.Author.Tests.{eqb-true, eqb-false}
use Rattle.notation.specs.Upto.{sum_to}
use Rattle.notation.proofs.Upto.{split, sum_same}
use Rattle.word.specs.Word.{bit}
use Rattle.machine.specs.declared.Queue.{Queue}
use Rattle.machine.specs.declared.Gate.{Gate}
use Rattle.machine.specs.declared.Process.{Process}
use Rattle.machine.specs.declared.Device.{Device}
use Rattle.machine.specs.declared.Machine.{Machine}
use Rattle.machine.specs.State.{nobody, no_gate, no_process, proc, gate, ready, parts, timed, counted, with}
use Rattle.machine.specs.Sound.{sits, in_queue, at_gate, is_ready, places, held_of, is_at_gates}
use Rattle.kept.proofs.Steady.{Steady}
use Rattle.kept.proofs.Counts.{Lined, lined_as, sum-set}
use Rattle.kept.proofs.Nearly.{Known, Gates, Classes, Devices, Tended, Unused, waits, Nearly, Free, not_free}
use Rattle.notation.proofs.Cells.{at_set, all_set}
use Rattle.machine.proofs.Sits.{sits_other}

-- ---- a change of running, ready, clock, bell and devices only
abbrev pub seats : Machine → List Queue → Queue → Queue → List Device → ℕ → Machine
seats m qs clock bell ds i = parts m m.processes m.gates qs clock bell ds i m.created m.made

pub seated : {m : Machine} {h x : ℕ} (k : ℕ) {qs : List Queue} {clock bell : Queue} {ds : List Device} {i : ℕ} → Nearly m h x
    → Classes m.created m.processes qs
    → Lined (λ q. q < m.created) clock
    → Lined (λ q. q < m.created) bell
    → Devices m.created m.present ds
    → Known m.created i
    → (nobody ≤ i → m.mark ≡ false)
    → Known m.created k
    → ((q : ℕ) → q < m.created → places (seats m qs clock bell ds i) q + sits q k ≡ places m q + sits q h)
    → ((q : ℕ) → q < m.created → (proc m q).regs.in_job ≡ true → waits (seats m qs clock bell ds i) q ≤ waits m q)
    → Nearly (seats m qs clock bell ds i) k x
unfolding is_at_gates
seated k f qs clock bell ds i mark hand p j =
    record {
      numbers = f.numbers;
      processes = f.processes;
      gates = f.gates;
      classes = qs;
      clock = clock;
      bell = bell;
      devices = ds;
      runs = i;
      hand = hand;
      unmarked = mark;
      each = λ q l. p q l ∙ f.each q l;
      jobs = λ q l t. let a = j q l t in let b = f.jobs q l t in omega arith;
      seven = f.seven;
      agree = f.agree;
    }

-- ---- a change of the waiters at one gate
pub queued : {m : Machine} {h x : ℕ} (k g : ℕ) (w : Gate) → Nearly m h x → g < m.made
    → Tended m.created w
    → w.holder ≡ (gate m g).holder
    → ((g ≡ x → ⊥) → (gate m g).holder ≡ nobody → w.queue.len ≡ 0)
    → Known m.created k
    → ((q : ℕ) → q < m.created → at_gate q w + sits q k ≡ at_gate q (gate m g) + sits q h)
    → Free m h
    → (h < nobody → (proc m h).holds ≤ 7)
    → Nearly (with m m.processes (set m.gates g w) m.ready m.running) k x
unfolding places is_ready is_at_gates waits
queued {m} {h} {x} k g w f b o e s hand p free room =
    let gs : List Gate = m.gates in
    let c : g < 25 = omega (arith, f.numbers.few_gates) in
    let many = f.gates.many in
    let l : g < length gs = omega arith in
    let same : (j : ℕ) → (get_or (set gs g w) j no_gate).holder ≡ (gate m j).holder =
    λ j. at_set (λ z. z.holder ≡ (gate m j).holder) gs g w no_gate j l (λ t. rw t e) (λ t. refl) in
    let sum : (q : ℕ)
    → sum_to (λ j. at_gate q (get_or (set gs g w) j no_gate)) 25 + at_gate q (gate m g) ≡ sum_to (λ j. at_gate q (gate m j)) 25 + at_gate q w =
    λ q. sum-set (at_gate q) gs no_gate 25 g w c (omega arith) in
    record {
      numbers = f.numbers;
      processes = f.processes;
      gates =
          record {
            many = length-set gs g w ∙ many;
            each = all_set (λ j z. Tended m.created z) gs g w no_gate 25 many c o f.gates.each;
            shut =
                all_set (λ j z. (j ≡ x → ⊥) → z.holder ≡ nobody → z.queue.len ≡ 0) gs g w no_gate 25 many c
                (λ n y. s n (sym e ∙ y)) f.gates.shut;
            unused = all_set (λ j z. m.made ≤ j → Unused z) gs g w no_gate 25 many c (λ n. absurd (omega arith)) f.gates.unused;
          };
      classes = f.classes;
      clock = f.clock;
      bell = f.bell;
      devices = f.devices;
      runs = f.runs;
      hand = hand;
      unmarked = f.unmarked;
      each = λ q l. let a = sum q in let i = p q l in let y = f.each q l in omega arith;
      jobs = λ q l t.
          let a = sum q in
          let i = p q l in
          let y = f.jobs q l t in
          let z = not_free m q h free (omega (arith, f.numbers.few)) t in
          omega arith;
      seven = λ q l t.
          let a = sum q in
          let i = p q l in
          split (eqb q h)
          (λ u. let e = eqb-true q h u in rw e (room (omega (arith, f.numbers.few))))
          (λ u. let z = sits_other q h (eqb-false q h u) in f.seven q l (omega arith));
      agree = λ q j l i. f.agree q j l i ∙ ap (sits q) (sym (same j));
    }

-- ---- a change of one process, and of the holders of gates
pub rebuilt : {m : Machine} {h x : ℕ} (k z p : ℕ) (v : Process) (gs : List Gate) → Nearly m h x → p < m.created
    → length v.held ≡ 8
    → Steady m.length v
    → Gates m.created m.made z gs
    → ((q j : ℕ) → at_gate q (get_or gs j no_gate) ≡ at_gate q (gate m j))
    → Known m.created k
    → bit v.ended + sits p k ≡ bit (proc m p).ended + sits p h
    → ((q : ℕ) → q < m.created → (q ≡ p → ⊥) → sits q k ≡ sits q h)
    → ((c : ℕ) → c < 3 → 0 < in_queue p (ready m c) → v.class ≡ (proc m p).class)
    → (v.regs.in_job ≡ true → waits m p + bit v.ended ≡ 0)
    → (0 < is_at_gates m p → v.holds ≤ 7)
    → ((g : ℕ) → g < 25 → held_of v g ≡ sits p (get_or gs g no_gate).holder)
    → ((q g : ℕ) → q < m.created → (q ≡ p → ⊥) → g < 25 → sits q (get_or gs g no_gate).holder ≡ sits q (gate m g).holder)
    → Nearly (with m (set m.processes p v) gs m.ready m.running) k z
unfolding places is_ready is_at_gates waits
rebuilt {m} {h} k z p v gs f b held ok gates same hand there others class job seven own agree =
    let ps : List Process = m.processes in
    let ten = f.processes.ten in
    let l : p < length ps = omega (arith, f.numbers.few) in
    let sum : (q : ℕ) → sum_to (λ j. at_gate q (get_or gs j no_gate)) 25 ≡ sum_to (λ j. at_gate q (gate m j)) 25 =
    λ q. sum_same (λ j. at_gate q (get_or gs j no_gate)) (λ j. at_gate q (gate m j)) 25 (λ j i. same q j) in
    record {
      numbers = f.numbers;
      processes =
          record {
            ten = length-set ps p v ∙ ten;
            held = all_set (λ j o. length o.held ≡ 8) ps p v no_process 10 ten (omega arith) held f.processes.held;
            each = λ q c. at_set (λ o. Steady m.length o) ps p v no_process q l (λ e. ok) (λ n. f.processes.each q c);
          };
      gates = gates;
      classes =
          record {
            three = f.classes.three;
            each = λ c i.
                lined_as (f.classes.each c i)
                (λ q t y. (y.0, at_set (λ o. o.class ≡ c) ps p v no_process q l (λ e. class c i (rw e at t) ∙ (rw e at y.1)) (λ n. y.1)));
          };
      clock = f.clock;
      bell = f.bell;
      devices = f.devices;
      runs = f.runs;
      hand = hand;
      unmarked = f.unmarked;
      each = λ q c.
          let y = f.each q c in
          let s = sum q in
          let e : bit (get_or (set ps p v) q no_process).ended + sits q k ≡ bit (proc m q).ended + sits q h =
          at_set (λ o. bit o.ended + sits q k ≡ bit (proc m q).ended + sits q h) ps p v no_process q l
          (λ t. rw t there) (λ n. let o = others q c n in omega arith) in
          omega arith;
      jobs = λ q c t.
          let s = sum q in
          let y =
          at_set (λ o. o.regs.in_job ≡ true → waits m q + bit o.ended ≡ 0) ps p v no_process q l
          (λ e. rw e job) (λ n. f.jobs q c) t in
          omega arith;
      seven = λ q c t.
          let s = sum q in
          at_set (λ o. o.holds ≤ 7) ps p v no_process q l
          (λ e. let t' = rw e at t in let s' = sum p in seven (omega arith)) (λ n. f.seven q c (omega arith));
      agree = λ q g c i.
          at_set (λ o. held_of o g ≡ sits q (get_or gs g no_gate).holder) ps p v no_process q l
          (λ e. rw e (own g i)) (λ n. f.agree q g c i ∙ sym (agree q g c n i));
    }

-- ---- another number of gates made, time or stop
abbrev pub with_made : Machine → ℕ → Machine
with_made m n = parts m m.processes m.gates m.ready m.clock m.bell m.devices m.running m.created n

renumbered : {m : Machine} {h x : ℕ} (z made stop line seconds fraction : ℕ)
    → made ≤ 25
    → fraction ≤ 9990
    → fraction % 10 ≡ 0
    → seconds ≤ 32767
    → stop ≤ 10
    → Gates m.created made z m.gates
    → Nearly m h x → Nearly (timed (with_made m made) stop line seconds fraction) h z
unfolding places is_ready is_at_gates waits
renumbered z made stop line seconds fraction few part tens second number gates f =
    let n = f.numbers in
    record {
      numbers =
          record {
            some = n.some;
            few = n.few;
            few_gates = few;
            header = n.header;
            fraction = part;
            tens = tens;
            seconds = second;
            stop = number;
            low = n.low;
          };
      processes = f.processes;
      gates = gates;
      classes = f.classes;
      clock = f.clock;
      bell = f.bell;
      devices = f.devices;
      runs = f.runs;
      hand = f.hand;
      unmarked = f.unmarked;
      each = f.each;
      jobs = f.jobs;
      seven = f.seven;
      agree = f.agree;
    }

pub retimed : {m : Machine} {h x : ℕ} (stop line seconds fraction : ℕ) → fraction ≤ 9990 → fraction % 10 ≡ 0 → seconds ≤ 32767 → stop ≤ 10
    → Nearly m h x → Nearly (timed m stop line seconds fraction) h x
retimed {m} {x = x} stop line seconds fraction part tens second number f =
    renumbered x m.made stop line seconds fraction f.numbers.few_gates part tens second number f.gates f

-- another count and mark
pub recounted : {m : Machine} {h x : ℕ} (count : ℕ) (mark : Bool) → count ≤ 8 → (nobody ≤ m.running → mark ≡ false)
    → Nearly m h x → Nearly (counted m count mark) h x
unfolding places is_ready is_at_gates waits
recounted count mark low unmarked f =
    let n = f.numbers in
    record {
      numbers =
          record {
            some = n.some;
            few = n.few;
            few_gates = n.few_gates;
            header = n.header;
            fraction = n.fraction;
            tens = n.tens;
            seconds = n.seconds;
            stop = n.stop;
            low = low;
          };
      processes = f.processes;
      gates = f.gates;
      classes = f.classes;
      clock = f.clock;
      bell = f.bell;
      devices = f.devices;
      runs = f.runs;
      hand = f.hand;
      unmarked = unmarked;
      each = f.each;
      jobs = f.jobs;
      seven = f.seven;
      agree = f.agree;
    }

-- one gate more is made, open
pub one-made : {m : Machine} {h x : ℕ} → m.made < 25 → Nearly m h x → Nearly (with_made m (m.made + 1)) h x
one-made {m} {x = x} b f =
    let n = f.numbers in
    renumbered x (m.made + 1) m.stop m.line m.seconds m.fraction (omega arith) n.fraction n.tens n.seconds n.stop
    (record { many = f.gates.many; each = f.gates.each; shut = f.gates.shut; unused = λ g i l. f.gates.unused g i (omega arith) }) f

-- an open gate without waiters needs no leave to be so
pub closed : {m : Machine} {h : ℕ} (g : ℕ) → (gate m g).queue.len ≡ 0 → Nearly m h g → Nearly m h 25
closed {m} g e f =
    let n = f.numbers in
    renumbered 25 m.made m.stop m.line m.seconds m.fraction n.few_gates n.fraction n.tens n.seconds n.stop
    (record {
      many = f.gates.many;
      each = f.gates.each;
      shut = λ j i n o. split (eqb j g) (λ t. rw (eqb-true j g t) e) (λ t. f.gates.shut j i (eqb-false j g t) o);
      unused = f.gates.unused;
    }) f
