-- The test of a sound state says yes exactly where, with arrays of their lengths, every process has its place
use mathlib.Core.Path.{◌≡◌, refl, sym}
use mathlib.Core.Bool.{Bool, true, false, ◌&&◌, ◌||◌, not, and-false, or-true}
use Prim.Native.Nat.{ℕ, ◌+◌, ◌%◌, ◌<◌, ◌≤◌}
use native.Mathlib.Omega.{arith}
use lib.Dec.{ltb, leb, eqb}
use lib.ListN.{length, get_or}
use borrow.Author.Tests.{ltb-true, ltb-false, leb-true, leb-false, eqb-true, eqb-false, lt-ltb, le-ltb, le-leb, lt-leb, eq-eqb, ne_eqb, not-false}
use Rattle.notation.specs.If.{if}
use Rattle.notation.specs.Upto.{all_to}
use Rattle.notation.proofs.Upto.{split, never, all_at, all_of}
use Rattle.word.specs.Word.{bit}
use Rattle.image.specs.Header.{good_header}
use Rattle.machine.specs.declared.Queue.{Queue}
use Rattle.machine.specs.declared.Gate.{Gate}
use Rattle.machine.specs.declared.Process.{Process}
use Rattle.machine.specs.declared.Device.{Device}
use Rattle.machine.specs.declared.Machine.{Machine}
use Rattle.machine.specs.State.{nobody, going, proc, gate, ready, device}
use Rattle.machine.specs.Device.{is_busy}
use Rattle.machine.specs.Sound.{sits, at_gate, is_ready, places, queue_ok, someone, class_ok, held_of, gate_ok, is_at_gates, holds_ok, job_ok, marks_ok, process_ok, device_ok, numbers_ok, sound}
use Rattle.machine.specs.Shape.{Shaped}
use Rattle.notation.proofs.Test.{part, at_most, equal, second}
use Rattle.kept.proofs.Counts.{Lined, lined_as}
use Rattle.kept.proofs.Steady.{Ranged, Steady}
use Rattle.kept.proofs.Nearly.{Known, Tended, Unused, InClass, works, Numbers, waits, Placed, Sound, known_nobody, known_one, nobody-sits}
use Rattle.machine.proofs.Sits.{sits_other}

-- ---- tests
or_else : (a b : Bool) → (a ≡ false → b ≡ true) → a || b ≡ true
or_else true b f = refl
or_else false b f = f refl

not_true : (b : Bool) → not b ≡ true → b ≡ false
not_true true e = never (sym e)
not_true false e = refl

-- each of n tests, of a whole that would fail without them
each_of : {whole : Bool} (ok : ℕ → Bool) (n : ℕ) → whole ≡ true → (all_to ok n ≡ false → whole ≡ false) → (k : ℕ) → k < n → ok k ≡ true
each_of ok n e f k l = all_at ok n k (part (all_to ok n) e f) l

-- ---- who is known
known_of : {n x : ℕ} → n ≤ 10 → eqb x nobody || ltb x n ≡ true → Known n x
known_of {n} {x} l e =
    split (eqb x nobody)
    (λ t. let z = eqb-true x nobody t in rw z (known_nobody n))
    (λ t. known_one l (ltb-true x n (second (eqb x nobody) _ e t)))

of_known : {n x : ℕ} → Known n x → eqb x nobody || ltb x n ≡ true
of_known {n} {x} k =
    or_else (eqb x nobody) _ (λ t. let z = eqb-false x nobody t in lt-ltb x n (k.made (omega (arith, z, k.most))))

-- ---- queues
lined_of : (m : Machine) (w : Queue) → length w.at ≡ 10 → queue_ok m w ≡ true → Lined (λ q. q < m.created) w
unfolding queue_ok
lined_of m w l e =
    let ok : ℕ → Bool = λ k. leb w.len k || ltb (get_or w.at k 0) m.created in
    let few = at_most w.len 10 e (λ t. rw t) in
    let all = each_of ok 10 e (λ t. simp (t, and-false)) in
    record {
      full = l;
      few = few;
      each = λ k b. ltb-true _ _ (second (leb w.len k) _ (all k (omega arith)) (lt-leb w.len k b));
    }

of_lined : (m : Machine) (w : Queue) → Lined (λ q. q < m.created) w → queue_ok m w ≡ true
unfolding queue_ok
of_lined m w t =
    let ok : ℕ → Bool = λ k. leb w.len k || ltb (get_or w.at k 0) m.created in
    rw
    (le-leb w.len 10 t.few, all_of ok 10 (λ k b. or_else (leb w.len k) _ (λ u. lt-ltb _ _ (t.each k (leb-false w.len k u)))))

class_of : (m : Machine) (c : ℕ) → length (ready m c).at ≡ 10 → class_ok m c ≡ true
    → Lined (InClass m.created m.processes c) (ready m c)
unfolding class_ok
class_of m c l e =
    let w : Queue = ready m c in
    let ok : ℕ → Bool = λ k. leb w.len k || eqb (proc m (get_or w.at k 0)).class c in
    let t = lined_of m w l (part (queue_ok m w) e (λ t. rw t)) in
    let all = each_of ok 10 e (λ t. simp (t, and-false)) in
    record {
      full = l;
      few = t.few;
      each = λ k b. (t.each k b, eqb-true _ c (second (leb w.len k) _ (all k (omega (arith, t.few))) (lt-leb w.len k b)));
    }

of_class : (m : Machine) (c : ℕ) → Lined (InClass m.created m.processes c) (ready m c) → class_ok m c ≡ true
unfolding class_ok
of_class m c t =
    let w : Queue = ready m c in
    let ok : ℕ → Bool = λ k. leb w.len k || eqb (proc m (get_or w.at k 0)).class c in
    rw (
      of_lined m w (lined_as t (λ q i y. y.0)),
      all_of ok 10 (λ k b. or_else (leb w.len k) _ (λ u. eq-eqb _ c (t.each k (leb-false w.len k u)).1)),
    )

-- ---- gates
record GateYes (m : Machine) (g : ℕ) : Type 0 where
  tended : Tended m.created (gate m g)
  shut : (gate m g).holder ≡ nobody → (gate m g).queue.len ≡ 0
  unused : m.made ≤ g → Unused (gate m g)

gate_of_lem : (m : Machine) (g : ℕ) → m.created ≤ 10 → length (gate m g).queue.at ≡ 10 → length (gate m g).cells ≡ 8
    → gate_ok m g ≡ true → GateYes m g
unfolding gate_ok
gate_of_lem m g few l₁ l₂ e =
    let w : Gate = gate m g in
    let empty : ℕ → Bool = λ c. eqb (get_or w.cells c 0) nobody in
    let holder = known_of few (part (someone m w.holder) e (λ t. rw t)) in
    let cells = each_of (λ c. someone m (get_or w.cells c 0)) 8 e (λ t. simp (t, and-false)) in
    let shut = part (not (eqb w.holder nobody) || eqb w.queue.len 0) e (λ t. simp (t, and-false)) in
    let apart = part (eqb w.holder nobody || eqb (at_gate w.holder w) 0) e (λ t. simp (t, and-false)) in
    let made = part (ltb g m.made || (eqb w.holder nobody && eqb w.queue.len 0 && all_to empty 8)) e (λ t. simp (t, and-false)) in
    record {
      tended =
          record {
            queue = lined_of m w.queue l₁ (part (queue_ok m w.queue) e (λ t. simp (t, and-false)));
            room = l₂;
            cells = λ c b. known_of few (cells c b);
            holder = holder;
            apart = λ b. eqb-true _ 0 (second (eqb w.holder nobody) _ apart (ne_eqb w.holder nobody (λ t. omega arith)));
          };
      shut = λ t. eqb-true _ 0 (second (not (eqb w.holder nobody)) _ shut (rw (eq-eqb w.holder nobody t)));
      unused = λ b.
          let u = second (ltb g m.made) _ made (le-ltb g m.made b) in
          record {
            holder = equal w.holder nobody u (λ t. rw t);
            queue = equal w.queue.len 0 u (λ t. simp (t, and-false));
            cells = λ c b. eqb-true _ nobody (each_of empty 8 u (λ t. simp (t, and-false)) c b);
          };
    }

of_gate : (m : Machine) (g : ℕ) → GateYes m g → gate_ok m g ≡ true
unfolding gate_ok
of_gate m g y =
    let w : Gate = gate m g in
    let k = y.tended in
    let empty : ℕ → Bool = λ c. eqb (get_or w.cells c 0) nobody in
    let shut = or_else (not (eqb w.holder nobody)) (eqb w.queue.len 0) (λ t. eq-eqb _ 0 (y.shut (eqb-true _ nobody (not-false _ t)))) in
    let apart =
    or_else (eqb w.holder nobody) (eqb (at_gate w.holder w) 0)
    (λ t. let z = eqb-false w.holder nobody t in eq-eqb _ 0 (k.apart (omega (arith, z, k.holder.most)))) in
    let unused =
    or_else (ltb g m.made) (eqb w.holder nobody && eqb w.queue.len 0 && all_to empty 8)
    (λ t.
    let u = y.unused (ltb-false g m.made t) in
    rw (eq-eqb _ nobody u.holder, eq-eqb _ 0 u.queue, all_of empty 8 (λ c b. eq-eqb _ nobody (u.cells c b)))) in
    rw (
      of_known k.holder,
      of_lined m w.queue k.queue,
      all_of (λ c. someone m (get_or w.cells c 0)) 8 (λ c b. of_known (k.cells c b)),
      shut,
      apart,
      unused,
    )

-- ---- processes
ranged_of : (n : ℕ) (p : Process) → marks_ok n p ≡ true → Ranged n p.variables p.slice p.regs
unfolding marks_ok
ranged_of n p e =
    record {
      variables = at_most p.variables 1024 e (λ t. rw t);
      stack = at_most (2048 + p.variables) p.regs.s e (λ t. simp (t, and-false));
      frame = at_most p.regs.s p.regs.b e (λ t. simp (t, and-false));
      ceiling = at_most p.regs.b p.regs.c e (λ t. simp (t, and-false));
      address = at_most p.regs.address n e (λ t. simp (t, and-false));
      short = at_most p.slice 190 e (λ t. simp (t, and-false));
      tens = equal (p.slice % 10) 0 e (λ t. simp (t, and-false));
    }

of_ranged : (n : ℕ) (p : Process) → Ranged n p.variables p.slice p.regs → marks_ok n p ≡ true
unfolding marks_ok
of_ranged n p r =
    rw (
      le-leb _ _ r.variables,
      le-leb _ _ r.stack,
      le-leb _ _ r.frame,
      le-leb _ _ r.ceiling,
      le-leb _ _ r.address,
      le-leb _ _ r.short,
      eq-eqb _ _ r.tens,
    )

-- what the test asks of process q
record ProcessYes (m : Machine) (q : ℕ) : Type 0 where
  place : places m q ≡ 1
  steady : Steady m.length (proc m q)
  job : (proc m q).regs.in_job ≡ true → sits q m.running + is_ready m q ≡ 1
  seven : 0 < is_at_gates m q → (proc m q).holds ≤ 7
  agree : (g : ℕ) → g < 25 → held_of (proc m q) g ≡ sits q (gate m g).holder

-- the class that goes with the number of gates held
abbrev class_test : Process → Bool
class_test p = if (eqb p.holds 0) (leb 1 p.class && leb p.class 2) (eqb p.class 0)

class_zero : (p : Process) → class_test p ≡ true → 0 < p.holds → p.class ≡ 0
class_zero p e l = eqb-true p.class 0 (rw (ne_eqb p.holds 0 (λ t. omega arith)) at e)

class_some : (p : Process) → class_test p ≡ true → p.holds ≡ 0 → 1 ≤ p.class
class_some p e z = let t = rw (eq-eqb p.holds 0 z) at e in at_most 1 p.class t (λ u. rw u)

class_two : (p : Process) → class_test p ≡ true → p.class ≤ 2
class_two p e =
    split (eqb p.holds 0)
    (λ t. let u = rw t at e in at_most p.class 2 u (λ v. simp (v, and-false)))
    (λ t. let u = eqb-true p.class 0 (rw t at e) in omega arith)

of_steady : {n : ℕ} (p : Process) → Steady n p → class_test p ≡ true
of_steady p s =
    split (eqb p.holds 0)
    (λ t. rw (t, le-leb 1 p.class (s.some (eqb-true _ 0 t)), le-leb p.class 2 s.two))
    (λ t. let z = eqb-false p.holds 0 t in rw (t, eq-eqb p.class 0 (s.zero (omega (arith, z)))))

module _ (m : Machine) (q : ℕ) where
  abbrev p : Process
  p = proc m q

  abbrev within : ℕ → Bool
  within k = leb p.holds k || ltb (get_or p.held k 0) 25

  abbrev agrees : ℕ → Bool
  agrees g = eqb (held_of p g) (bit (eqb (gate m g).holder q))

  process_of_lem : process_ok m q ≡ true → ProcessYes m q
  unfolding process_ok holds_ok
  process_of_lem e =
      let small = each_of within 8 e (λ t. simp (t, and-false)) in
      let class = part (class_test p) e (λ t. simp (t, and-false)) in
      let none = part (not (p.ended || p.regs.in_job) || eqb p.holds 0) e (λ t. simp (t, and-false)) in
      let eight = at_most p.holds 8 e (λ t. simp (t, and-false)) in
      record {
        place = equal (places m q) 1 e (λ t. rw t);
        steady =
            record {
              marks = ranged_of m.length p (part (marks_ok m.length p) e (λ t. simp (t, and-false)));
              job = part (job_ok m.length p.regs) e (λ t. simp (t, and-false));
              eight = eight;
              small = λ k l. ltb-true _ 25 (second (leb p.holds k) _ (small k (omega arith)) (lt-leb p.holds k l));
              zero = class_zero p class;
              some = class_some p class;
              two = class_two p class;
              last = λ t. eqb-true _ 0 (second (not (p.ended || p.regs.in_job)) _ none (rw t));
              free = λ t. eqb-true _ 0 (second (not (p.ended || p.regs.in_job)) _ none (simp (t, or-true)));
            };
        job = λ t.
            let run = part (not p.regs.in_job || eqb (sits q m.running + is_ready m q) 1) e (λ t. simp (t, and-false)) in
            eqb-true _ 1 (second (not p.regs.in_job) _ run (rw t));
        seven = λ l.
            let room = part (eqb (is_at_gates m q) 0 || leb p.holds 7) e (λ t. simp (t, and-false)) in
            leb-true _ 7 (second (eqb (is_at_gates m q) 0) _ room (ne_eqb (is_at_gates m q) 0 (λ t. omega arith)));
        agree = λ g l. eqb-true _ _ (each_of agrees 25 e (λ t. simp (t, and-false)) g l);
      }

  of_process : ProcessYes m q → process_ok m q ≡ true
  unfolding process_ok holds_ok
  of_process y =
      let s = y.steady in
      let none =
      or_else (not (p.ended || p.regs.in_job)) (eqb p.holds 0)
      (λ t. let e = not-false _ t in eq-eqb _ 0 (split p.ended s.last (λ u. s.free (second p.ended _ e u)))) in
      let run = or_else (not p.regs.in_job) (eqb (sits q m.running + is_ready m q) 1) (λ t. eq-eqb _ 1 (y.job (not-false _ t))) in
      let room =
      or_else (eqb (is_at_gates m q) 0) (leb p.holds 7)
      (λ t. let z = eqb-false (is_at_gates m q) 0 t in le-leb _ 7 (y.seven (omega (arith, z)))) in
      rw (
        eq-eqb _ 1 y.place,
        le-leb _ 8 s.eight,
        all_of within 8 (λ k l. or_else (leb p.holds k) _ (λ t. lt-ltb _ 25 (s.small k (leb-false p.holds k t)))),
        all_of agrees 25 (λ g l. eq-eqb _ _ (y.agree g l)),
        of_steady p s,
        none,
        run,
        room,
        of_ranged m.length p s.marks,
        s.job,
      )

-- ---- devices
record DeviceYes (m : Machine) (d : ℕ) : Type 0 where
  known : Known m.created (device m d).process
  busy : (device m d).process < nobody → works m.present d (device m d) ≡ true

device_of_lem : (m : Machine) (d : ℕ) → m.created ≤ 10 → device_ok m d ≡ true → DeviceYes m d
unfolding device_ok
device_of_lem m d few e =
    let x : Device = device m d in
    let busy = part (not (is_busy m d) || works m.present d x) e (λ t. simp (t, and-false)) in
    record {
      known = known_of few (part (someone m x.process) e (λ t. rw t));
      busy = λ b. second (not (is_busy m d)) _ busy (rw (lt-ltb x.process nobody b));
    }

of_device : (m : Machine) (d : ℕ) → DeviceYes m d → device_ok m d ≡ true
unfolding device_ok
of_device m d y =
    let x : Device = device m d in
    rw
    (of_known y.known, or_else (not (is_busy m d)) (works m.present d x) (λ t. y.busy (ltb-true _ nobody (not-false _ t))))

-- ---- the numbers, and who runs
record NumbersYes (m : Machine) : Type 0 where
  numbers : Numbers m.edition m.length m.present m.fraction m.seconds m.stop m.created m.made m.count
  unmarked : nobody ≤ m.running → m.mark ≡ false
  runs : Known m.created m.running
  idle : nobody ≤ m.running → (c : ℕ) → c < 3 → (ready m c).len ≡ 0

module _ (m : Machine) where
  abbrev header : Bool
  header = good_header (record { edition = m.edition; length = m.length; devices = m.present; variables = 0 })

  abbrev empty : ℕ → Bool
  empty c = eqb (ready m c).len 0

  numbers_of : numbers_ok m ≡ true → NumbersYes m
  unfolding numbers_ok
  numbers_of e =
      let few = at_most m.created 10 e (λ t. simp (t, and-false)) in
      let stop = part (eqb m.stop going || leb m.stop 9) e (λ t. simp (t, and-false)) in
      let idle = part (ltb m.running nobody || all_to empty 3) e (λ t. simp (t, and-false)) in
      let mark = part (ltb m.running nobody || not m.mark) e (λ t. simp (t, and-false)) in
      record {
        numbers =
            record {
              some = at_most 1 m.created e (λ t. rw t);
              few = few;
              few_gates = at_most m.made 25 e (λ t. simp (t, and-false));
              header = part header e (λ t. simp (t, and-false));
              fraction = at_most m.fraction 9990 e (λ t. simp (t, and-false));
              tens = equal (m.fraction % 10) 0 e (λ t. simp (t, and-false));
              seconds = at_most m.seconds 32767 e (λ t. simp (t, and-false));
              stop =
                  split (eqb m.stop going)
                  (λ t. let z = eqb-true m.stop going t in omega arith)
                  (λ t. let z = leb-true m.stop 9 (second (eqb m.stop going) _ stop t) in omega arith);
              low = at_most m.count 8 e (λ t. simp (t, and-false));
            };
        unmarked = λ n. let z = second (ltb m.running nobody) _ mark (le-ltb m.running nobody n) in not_true m.mark z;
        runs = known_of few (part (someone m m.running) e (λ t. simp (t, and-false)));
        idle = λ n c l. eqb-true _ 0 (all_at empty 3 c (second (ltb m.running nobody) _ idle (le-ltb m.running nobody n)) l);
      }

  of_numbers : NumbersYes m → numbers_ok m ≡ true
  unfolding numbers_ok
  of_numbers y =
      let n = y.numbers in
      let stop =
      or_else (eqb m.stop going) (leb m.stop 9)
      (λ t. let z = eqb-false m.stop going t in le-leb m.stop 9 (omega (arith, z, n.stop))) in
      let idle =
      or_else (ltb m.running nobody) (all_to empty 3)
      (λ t. all_of empty 3 (λ c l. eq-eqb _ 0 (y.idle (ltb-false m.running nobody t) c l))) in
      let mark = or_else (ltb m.running nobody) (not m.mark) (λ t. rw (y.unmarked (ltb-false m.running nobody t))) in
      rw (
        le-leb 1 _ n.some,
        le-leb _ 10 n.few,
        le-leb _ 25 n.few_gates,
        n.header,
        le-leb _ 9990 n.fraction,
        eq-eqb _ 0 n.tens,
        le-leb _ 32767 n.seconds,
        stop,
        of_known y.runs,
        idle,
        le-leb _ 8 n.low,
        mark,
      )

  -- ---- the whole
  abbrev created : ℕ → Bool
  created q = leb m.created q || process_ok m q

  pub tested : Shaped m → sound m ≡ true → Sound m
  unfolding sound places is_ready waits is_at_gates
  tested sh e =
      let n = numbers_of (part (numbers_ok m) e (λ t. rw t)) in
      let few = n.numbers.few in
      let gates : (g : ℕ) → g < 25 → GateYes m g =
      λ g b. gate_of_lem m g few (sh.queues g b) (sh.cells g b) (each_of (gate_ok m) 25 e (λ t. simp (t, and-false)) g b) in
      let processes : (q : ℕ) → q < m.created → ProcessYes m q =
      λ q b.
      let t = each_of created 10 e (λ t. simp (t, and-false)) q (omega arith) in
      process_of_lem m q (second (leb m.created q) _ t (lt-leb m.created q b)) in
      let devices : (d : ℕ) → d < 5 → DeviceYes m d = λ d b. device_of_lem m d few (each_of (device_ok m) 5 e (λ t. simp (t, and-false)) d b) in
      record {
        placed =
            record {
              numbers = n.numbers;
              processes = record { ten = sh.processes; held = sh.held; each = λ q b. (processes q b).steady };
              gates =
                  record {
                    many = sh.gates;
                    each = λ g b. (gates g b).tended;
                    shut = λ g b t. (gates g b).shut;
                    unused = λ g b. (gates g b).unused;
                  };
              classes =
                  record {
                    three = sh.classes;
                    each = λ c b. class_of m c (sh.ready c b) (each_of (class_ok m) 3 e (λ t. simp (t, and-false)) c b);
                  };
              clock = lined_of m m.clock sh.clock (part (queue_ok m m.clock) e (λ t. simp (t, and-false)));
              bell = lined_of m m.bell sh.bell (part (queue_ok m m.bell) e (λ t. simp (t, and-false)));
              devices = record { five = sh.devices; known = λ d b. (devices d b).known; busy = λ d b. (devices d b).busy };
              runs = n.runs;
              hand = known_nobody m.created;
              unmarked = n.unmarked;
              each = λ q b. let p = (processes q b).place in omega (arith, sits_other q nobody (λ e. omega arith));
              jobs = λ q b t. let p = (processes q b).place in let j = (processes q b).job t in omega arith;
              seven = λ q b. (processes q b).seven;
              agree = λ q g b. (processes q b).agree g;
            };
        idle = n.idle;
      }

  pub complete : Sound m → sound m ≡ true
  unfolding sound places is_ready waits is_at_gates
  complete s =
      let f = s.placed in
      let one : (q : ℕ) → q < m.created → ProcessYes m q =
      λ q b.
      let y = f.each q b in
      let z = nobody-sits q b f in
      record {
        place = omega arith;
        steady = f.processes.each q b;
        job = λ t. let j = f.jobs q b t in omega arith;
        seven = f.seven q b;
        agree = λ g. f.agree q g b;
      } in
      rw (
        of_numbers (record { numbers = f.numbers; unmarked = f.unmarked; runs = f.runs; idle = s.idle }),
        all_of (class_ok m) 3 (λ c b. of_class m c (f.classes.each c b)),
        of_lined m m.clock f.clock,
        of_lined m m.bell f.bell,
        all_of (device_ok m) 5 (λ d b. of_device m d (record { known = f.devices.known d b; busy = f.devices.busy d b })),
        all_of (gate_ok m) 25 (λ g b. of_gate m g (record { tended = f.gates.each g b; shut = f.gates.shut g b (λ t. omega arith); unused = f.gates.unused g b })),
        all_of created 10 (λ q b. or_else (leb m.created q) _ (λ t. of_process m q (one q (leb-false m.created q t)))),
      )

  pub shaped : Placed m → Shaped m
  shaped f =
      record {
        processes = f.processes.ten;
        gates = f.gates.many;
        classes = f.classes.three;
        devices = f.devices.five;
        ready = λ c b. (f.classes.each c b).full;
        clock = f.clock.full;
        bell = f.bell.full;
        held = f.processes.held;
        queues = λ g b. (f.gates.each g b).queue.full;
        cells = λ g b. (f.gates.each g b).room;
      }
