-- One process more, in hand: it was in no place, and is as process 0 started
use mathlib.Core.Path.{◌≡◌, refl, sym, ◌∙◌}
use mathlib.Core.Bool.{true}
use mathlib.Core.List.{List}
use Prim.Native.Nat.{ℕ, ◌+◌, ◌<◌, ◌≤◌}
use native.Mathlib.Omega.{arith}
use lib.ListN.{length, get_or, length-set}
use borrow.Author.Tests.{lt-ltb}
use Rattle.notation.specs.Upto.{sum_to}
use Rattle.notation.proofs.Upto.{never, sum-none}
use Rattle.word.specs.Word.{bit}
use Rattle.machine.specs.declared.Queue.{Queue}
use Rattle.machine.specs.declared.Gate.{Gate}
use Rattle.machine.specs.declared.Process.{Process}
use Rattle.machine.specs.declared.Machine.{Machine}
use Rattle.machine.specs.State.{nobody, no_process, gate, ready, device, started}
use Rattle.machine.specs.Call.{born}
use Rattle.machine.specs.Sound.{sits, in_queue, in_cells, at_gate, is_ready, places, held_of, is_at_gates}
use Rattle.kept.proofs.Counts.{Lined, lined_as}
use Rattle.kept.proofs.Steady.{Steady, steady_started}
use Rattle.kept.proofs.Nearly.{Known, Tended, waits, Nearly, known_one, nobody-sits}
use Rattle.notation.proofs.Cells.{at_set, all_set}
use Rattle.machine.proofs.Sits.{sits_self, sits_other}

-- who is known among n stays so among n + 1, and the one more is in no place yet
known_more : {n x : ℕ} → Known n x → Known (n + 1) x
known_more k = record { most = k.most; made = λ b. let l = k.made b in omega arith }

lined_more : {n : ℕ} {w : Queue} → Lined (λ q. q < n) w → Lined (λ q. q < n + 1) w
lined_more t = lined_as t (λ q i l. omega arith)

tended_more : {n : ℕ} {w : Gate} → Tended n w → Tended (n + 1) w
tended_more k =
    record {
      queue = lined_more k.queue;
      room = k.room;
      cells = λ c l. known_more (k.cells c l);
      holder = known_more k.holder;
      apart = k.apart;
    }

not_there : {n x : ℕ} → Known n x → n < nobody → sits n x ≡ 0
not_there {n} {x} k b = sits_other n x (λ e. omega (arith, k.made (omega arith)))

not_lined : {n : ℕ} {w : Queue} → Lined (λ q. q < n) w → in_queue n w ≡ 0
unfolding in_queue
not_lined {n} {w} t = sum-none (λ k. sits n (get_or w.at k 0)) w.len (λ k l. sits_other n _ (λ e. omega (arith, t.each k l)))

not_tended : {n : ℕ} {w : Gate} → Tended n w → n < nobody → at_gate n w ≡ 0
unfolding at_gate in_cells
not_tended {n} {w} k b =
    let a = not_lined k.queue in
    let c = sum-none (λ c. sits n (get_or w.cells c 0)) 8 (λ c l. not_there (k.cells c l) b) in
    omega arith

no_place : {m : Machine} {h x : ℕ} → m.created < nobody → Nearly m h x
    → waits m m.created + sits m.created m.running + is_ready m m.created ≡ 0
unfolding waits is_ready is_at_gates
no_place {m} b f =
    let n : ℕ = m.created in
    let r = not_there f.runs b in
    let y = sum-none (λ c. in_queue n (ready m c)) 3 (λ c l. not_lined (lined_as (f.classes.each c l) (λ q i y. y.0))) in
    let g = sum-none (λ g. at_gate n (gate m g)) 25 (λ g l. not_tended (f.gates.each g l) b) in
    let c = not_lined f.clock in
    let e = not_lined f.bell in
    let d = sum-none (λ d. sits n (device m d).process) 5 (λ d l. not_there (f.devices.known d l) b) in
    omega arith

pub started_none : (address v g : ℕ) → held_of (started address v) g ≡ 0
unfolding held_of started sum_to
started_none address v g = refl

pub one-born : {m : Machine} {x : ℕ} (address v : ℕ) → m.created < nobody → address ≤ m.length → v ≤ 1024
    → Nearly m nobody x → Nearly (born m address v) m.created x
unfolding born started places is_ready is_at_gates waits
one-born {m} address v b code small f =
    let ps : List Process = m.processes in
    let n : ℕ = m.created in
    let p : Process = started address v in
    let l : n < length ps = omega (arith, f.processes.ten) in
    let number = f.numbers in
    let none = no_place b f in
    rw (lt-ltb n 10 b)
    (record {
      numbers =
          record {
            some = omega arith;
            few = omega arith;
            few_gates = number.few_gates;
            header = number.header;
            fraction = number.fraction;
            tens = number.tens;
            seconds = number.seconds;
            stop = number.stop;
            low = number.low;
          };
      processes =
          record {
            ten = length-set ps n p ∙ f.processes.ten;
            held = all_set (λ j o. length o.held ≡ 8) ps n p no_process 10 f.processes.ten b refl f.processes.held;
            each = λ q c.
                at_set (λ o. Steady m.length o) ps n p no_process q l
                (λ e. steady_started _ address v code small) (λ e. f.processes.each q (omega (arith, e)));
          };
      gates =
          record {
            many = f.gates.many;
            each = λ g i. tended_more (f.gates.each g i);
            shut = f.gates.shut;
            unused = f.gates.unused;
          };
      classes =
          record {
            three = f.classes.three;
            each = λ c i.
                lined_as (f.classes.each c i)
                (λ q t y. (omega arith, at_set (λ o. o.class ≡ c) ps n p no_process q l (λ e. absurd (omega arith)) (λ e. y.1)));
          };
      clock = lined_more f.clock;
      bell = lined_more f.bell;
      devices = record { five = f.devices.five; known = λ d i. known_more (f.devices.known d i); busy = f.devices.busy };
      runs = known_more f.runs;
      hand = known_one (omega arith) (omega arith);
      unmarked = f.unmarked;
      each = λ q c.
          let y =
          at_set (λ o. sits q m.running + is_ready m q + waits m q + bit o.ended + sits q n ≡ 1) ps n p no_process q l
          (λ e. rw e (omega (arith, sits_self n)))
          (λ e.
          let i : q < n = omega (arith, e) in
          let k = f.each q i in
          omega (arith, sits_other q n e, nobody-sits q i f)) in
          omega arith;
      jobs = λ q c.
          at_set (λ o. o.regs.in_job ≡ true → waits m q + bit o.ended ≡ 0) ps n p no_process q l
          (λ e t. never (sym t)) (λ e. f.jobs q (omega (arith, e)));
      seven = λ q c t.
          at_set (λ o. o.holds ≤ 7) ps n p no_process q l (λ e. omega arith) (λ e. f.seven q (omega (arith, e)) t);
      agree = λ q g c i.
          at_set (λ o. held_of o g ≡ sits q (gate m g).holder) ps n p no_process q l
          (λ e. rw e (started_none address v g ∙ sym (not_there (f.gates.each g i).holder b))) (λ e. f.agree q g (omega (arith, e)) i);
    })
