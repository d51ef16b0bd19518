-- The classes before the selection: whoever is ready keeps his place, and the count stays, whatever is done
use mathlib.Core.Path.{◌≡◌, refl, ◌∙◌}
use mathlib.Core.Bool.{Bool, ◌&&◌, ◌||◌, not}
use mathlib.Core.List.{List}
use Prim.Native.Nat.{ℕ, zero, suc, ◌+◌, ◌<◌, ◌≤◌}
use native.Mathlib.Omega.{arith}
use lib.Dec.{ltb, leb, eqb}
use lib.ListN.{length, get_or, length-set}
use lib.Seq.{get_or-set_same, get_or-set_other}
use borrow.Author.Tests.{eqb-true, eqb-false, ltb-true}
use Rattle.notation.specs.If.{if}
use Rattle.notation.proofs.Upto.{split}
use Rattle.machine.specs.declared.Queue.{Queue}
use Rattle.machine.specs.declared.Machine.{Machine}
use Rattle.machine.specs.State.{nobody, no_queue, proc, gate, ready, device, with_process, with_waits}
use Rattle.machine.specs.Store.{World, place_of, whole, word_in}
use Rattle.machine.specs.View.{Out, next, faults, calls}
use Rattle.machine.specs.Queue.{first, pushed, rest}
use Rattle.machine.specs.Instruction.{instruct}
use Rattle.machine.specs.Classes.{set_running, push, wake, set_class, best}
use Rattle.machine.specs.Gate.{join, advance, sit, grant, give_up, pass, hand_on, enter, leave, delay, cell, continue, make_gate, may_enter, may_leave, may_delay, may_continue}
use Rattle.machine.specs.Clock.{clock_wait, bell_wait, clock_one, clock_wake, bell_one, bell_wake, time_passes, yields, slice_passes}
use Rattle.machine.specs.Device.{is_present, is_busy, with_device, device_start, device_end}
use Rattle.machine.specs.Call.{Called, on, starts, stops, caller, floor, stack_word, passed, popped, born, create_process, finish, stop_answer, stop_job, io_begins, call0, call1, call2, call3, call4, call5, call6, call7, call8, call9, call10, call11, kernel}
use Rattle.machine.specs.Step.{view}
use Rattle.machine.specs.Offer.{Offer, a_step, a_tick, a_done, a_bell}
use Rattle.waiting.specs.Selection.{Ending, choosing, none, call_ends, out_ends, step_ends, tick_ends, done_ends, bell_ends, ends}
use Rattle.waiting.proofs.Places.{Stands, stands-pushed}

-- what the selection goes by
pub record Line : Type 0 where
  pub ready : List Queue
  pub count : ℕ

abbrev pub line : Machine → Line
line m = record { ready = m.ready; count = m.count }

-- three classes of ten places, and a count of 8 at most
pub record Tidy (l : Line) : Type 0 where
  pub three : length l.ready ≡ 3
  pub few : (c : ℕ) → c < 3 → (get_or l.ready c no_queue).len ≤ 10
  pub low : l.count ≤ 8

-- who is ready keeps his place, and nothing is counted
pub record Grown (l r : Line) : Type 0 where
  pub tidy : Tidy l → Tidy r
  pub keeps : Tidy l → (c k i : ℕ) → c < 3 → Stands (get_or l.ready c no_queue) k i → Stands (get_or r.ready c no_queue) k i
  pub count : r.count ≡ l.count

pub alike : {l : Line} → Grown l l
alike = record { tidy = λ t. t; keeps = λ t c k i b s. s; count = refl }

pub also : {l r p : Line} → Grown l r → Grown r p → Grown l p
also a b = record { tidy = λ t. b.tidy (a.tidy t); keeps = λ t c k i d s. b.keeps (a.tidy t) c k i d (a.keeps t c k i d s); count = b.count ∙ a.count }

-- ---- one more joins
pushed-few : (q : Queue) (x : ℕ) → q.len ≤ 10 → (pushed q x).len ≤ 10
unfolding pushed
pushed-few q x b = split (ltb q.len 10) (λ t. rw t (omega (arith, ltb-true q.len 10 t))) (λ t. rw t b)

-- a property of the places of class c that a joining one keeps
push_at : (P : Queue → Type 0) (m : Machine) (d h c : ℕ) → c < length m.ready → P (ready m c) → ((q : Queue) → P q → P (pushed q h)) → P (ready (push m d h) c)
unfolding push
push_at P m d h c l p more =
    split (eqb c d)
    (λ u. let e = eqb-true c d u in rw (← e, get_or-set_same m.ready c (pushed (ready m c) h) no_queue l) (more (ready m c) p))
    (λ u. rw (get_or-set_other m.ready d c (pushed (ready m d) h) no_queue (eqb-false c d u)) p)

pub pushes : (m : Machine) (d h : ℕ) → Grown (line m) (line (push m d h))
unfolding push
pushes m d h =
    record {
      tidy = λ t.
          record {
            three = length-set m.ready _ _ ∙ t.three;
            few = λ c b. push_at (λ q. q.len ≤ 10) m d h c (omega (arith, t.three)) (t.few c b) (λ q. pushed-few q h);
            low = t.low;
          };
      keeps = λ t c k i b s. push_at (λ q. Stands q k i) m d h c (omega (arith, t.three)) s (λ q. stands-pushed q h k i);
      count = refl;
    }

pub wakes : (m : Machine) (h : ℕ) → Grown (line m) (line (wake m h))
unfolding wake
wakes m h = pushes m (proc m h).class h

-- ---- gates
passes : (m : Machine) (g h : ℕ) → Grown (line m) (line (pass m g h))
unfolding pass grant
passes m g h = wakes (grant m g h) h

hands_on : (m : Machine) (g : ℕ) → Grown (line m) (line (hand_on m g))
unfolding hand_on advance
hands_on m g =
    split (eqb (gate m g).queue.len 0) (λ t. rw t alike) (λ t. rw t (passes (advance m g) g (first (gate m g).queue)))

enters : (m : Machine) (g : ℕ) → Grown (line m) (line (enter m g))
unfolding enter grant join set_running
enters m g = split (leb nobody (gate m g).holder) (λ t. rw t alike) (λ t. rw t alike)

leaves : (m : Machine) (g : ℕ) → Grown (line m) (line (leave m g))
unfolding leave give_up
leaves m g = hands_on (give_up m g m.running) g

delays : (m : Machine) (g c : ℕ) → Grown (line m) (line (delay m g c))
unfolding delay give_up sit set_running
delays m g c = hands_on (sit (give_up (set_running m nobody) g m.running) g c m.running) g

continues : (m : Machine) (g c : ℕ) → Grown (line m) (line (continue m g c))
unfolding continue give_up sit
continues m g c =
    split (leb nobody (cell m g c)) (λ t. rw t (leaves m g)) (λ t. rw t (passes (sit (give_up m g m.running) g c nobody) g (cell m g c)))

-- ---- clock, bell, devices, slices, a new process
clock_grown : (n : ℕ) (m : Machine) → Grown (line m) (line (clock_wake n m))
unfolding clock_wake clock_one
clock_grown zero m = alike
clock_grown (suc n) m = also (wakes (with_waits m (rest m.clock) m.bell m.devices) (first m.clock)) (clock_grown n (clock_one m))

bell_grown : (n : ℕ) (m : Machine) → Grown (line m) (line (bell_wake n m))
unfolding bell_wake bell_one
bell_grown zero m = alike
bell_grown (suc n) m = also (wakes (with_waits m m.clock (rest m.bell) m.devices) (first m.bell)) (bell_grown n (bell_one m))

time_grown : (m : Machine) → Grown (line m) (line (time_passes m))
unfolding time_passes
time_grown m = split (leb 10000 (m.fraction + 10)) (λ t. rw t (clock_grown m.clock.len _)) (λ t. rw t alike)

yields_grown : (m : Machine) (h : ℕ) → Grown (line m) (line (yields m h))
unfolding yields set_running
yields_grown m h = split (leb (best m) (proc m h).class) (λ t. rw t (wakes (set_running m nobody) h)) (λ t. rw t alike)

slice_grown : (m : Machine) (h : ℕ) → Grown (line m) (line (slice_passes m h))
unfolding slice_passes with_process
slice_grown m h = split (leb 200 ((proc m h).slice + 10)) (λ t. rw t (yields_grown _ h)) (λ t. rw t alike)

done_grown : (m : Machine) (d : ℕ) → Grown (line m) (line (device_end m d))
unfolding device_end set_class with_process with_device
done_grown m d =
    let h : ℕ = (device m d).process in
    let v : Machine = with_device m d (record { process = nobody; operation = (device m d).operation; address = (device m d).address }) in
    wakes (set_class v h (if (eqb (proc m h).holds 0) 1 0)) h

create_grown : (m : Machine) (t v : ℕ) → Grown (line m) (line (create_process m t v))
unfolding create_process born set_running
create_grown m t v =
    also (wakes (set_running m nobody) m.running) (wakes (born (wake (set_running m nobody) m.running) t v) m.created)

stop_grown : (m : Machine) (q reason : ℕ) → Grown (line m) (line (stop_job m q reason))
unfolding stop_job with_process
stop_grown m q reason = split (eqb (stop_answer m q reason) 0) (λ t. rw t alike) (λ t. rw t alike)

-- ---- any call
data Longer (l : Line) : Called → Type 0 where
  goes : {v : World} → Grown l (line v.machine) → Longer l (on v)
  begins : (d : ℕ) {v : World} → Grown l (line v.machine) → Longer l (starts d v)
  halts : (f : ℕ) → Longer l (stops f)

either : {l : Line} (b : Bool) {x y : Called} → Longer l x → Longer l y → Longer l (if b x y)
either b x y = split b (λ t. rw t x) (λ t. rw t y)

module _ (w : World) where
  abbrev m : Machine
  m = w.machine

  with_words : (k : ℕ) {x : Called} → Longer (line m) x → Longer (line m) (if (leb ((caller w).regs.s + k) (caller w).regs.b) x (stops 7))
  with_words k x = either (leb ((caller w).regs.s + k) (caller w).regs.b) x (halts 7)

  with_room : {x : Called} → Longer (line m) x → Longer (line m) (if (leb (floor w + 1) (caller w).regs.s) x (stops 6))
  with_room x = either (leb (floor w + 1) (caller w).regs.s) x (halts 6)

  longer_3 : Longer (line m) (call3 w)
  unfolding call3 passed with_process
  longer_3 =
      let t : ℕ = stack_word w 0 in
      let v : ℕ = stack_word w 1 in
      let p : ℕ = stack_word w 2 in
      with_words 3
      (either (not (eqb m.running 0) || leb 10 m.created) (halts 9)
      (either (ltb 1024 v || ltb v p) (halts 3)
      (with_words (3 + p)
      (either (leb m.length t) (halts 7) (goes (create_grown (popped w (3 + p)) t v))))))

  longer_io : (d operation : ℕ) → Longer (line m) (io_begins w d operation)
  unfolding io_begins bell_wait device_start with_device set_running passed with_process
  longer_io d operation =
      either (eqb d 0 && eqb operation 3 && is_present m 0) (goes alike)
      (either (not (is_present m d) || is_busy m d) (goes alike) (begins d alike))

  longer_11 : Longer (line m) (call11 w)
  unfolding call11
  longer_11 =
      let d : ℕ = stack_word w 1 in
      let operation : ℕ = word_in (place_of (stack_word w 0)) m.running w.common w.private in
      with_words 2
      (either (whole (stack_word w 0)) (either (leb d 4 && leb operation 3) (longer_io d operation) (halts 3)) (halts 2))

  longer_10 : Longer (line m) (call10 w)
  unfolding call10 make_gate grant passed with_process
  longer_10 =
      either (leb 25 m.made) (halts 9) (either (leb 8 (caller w).holds) (halts 8) (with_room (goes alike)))

  longer_gate : Longer (line m) (call6 w) × Longer (line m) (call7 w)
  unfolding call6 call7 passed with_process
  longer_gate =
      let g : ℕ = stack_word w 0 in (
        with_words 1 (either (may_enter m g) (goes (enters (popped w 1) g)) (halts 8)),
        with_words 1 (either (may_leave m g) (goes (leaves (popped w 1) g)) (halts 8)),
      )

  longer_cell : Longer (line m) (call8 w) × Longer (line m) (call9 w)
  unfolding call8 call9 passed with_process
  longer_cell =
      let g : ℕ = stack_word w 1 in
      let c : ℕ = stack_word w 0 in (
        with_words 2 (either (may_delay m g c) (goes (delays (popped w 2) g c)) (halts 8)),
        with_words 2 (either (may_continue m g c) (goes (continues (popped w 2) g c)) (halts 8)),
      )

  longer : (k : ℕ) → Longer (line m) (kernel w k)
  unfolding kernel call0 call1 call2 call4 call5 clock_wait finish set_running passed with_process
  longer k =
      either (eqb k 0) (goes alike)
      (either (eqb k 1) (with_room (goes alike))
      (either (eqb k 2) (with_words 1 (halts _))
      (either (eqb k 3) longer_3
      (either (eqb k 4) (either (ltb 0 (caller w).holds) (halts 8) (goes alike))
      (either (eqb k 5) (with_words 2 (goes (stop_grown (popped w 1) (stack_word w 1) (stack_word w 0))))
      (either (eqb k 6) longer_gate.0
      (either (eqb k 7) longer_gate.1
      (either (eqb k 8) longer_cell.0
      (either (eqb k 9) longer_cell.1
      (either (eqb k 10) longer_10
      (either (eqb k 11) longer_11
      (halts 7))))))))))))

-- ---- what an offer ends with
pub data Grows (l : Line) : Ending → Type 0 where
  grows : {v : Machine} → Grown l (line v) → Grows l (choosing v)
  nothing : Grows l none

module _ (w : World) where
  call_grows : (c : Called) → Longer (line w.machine) c → Grows (line w.machine) (call_ends c)
  call_grows _ (goes t) = grows t
  call_grows _ (begins d t) = grows t
  call_grows _ (halts f) = nothing

  out_grows : (o : Out) → Grows (line w.machine) (out_ends w o)
  unfolding with_process
  out_grows (next r) = grows alike
  out_grows (faults f) = nothing
  out_grows (calls k) = call_grows (kernel w k) (longer w k)

  step_grows : (code : List ℕ) → Grows (line w.machine) (step_ends code w)
  unfolding step_ends
  step_grows code = split (leb nobody w.machine.running) (λ t. rw t nothing) (λ t. rw t (out_grows (instruct (view code w)).out))

  tick_grows : Grows (line w.machine) (tick_ends w.machine)
  unfolding tick_ends
  tick_grows =
      let m : Machine = w.machine in
      split (leb nobody m.running) (λ t. rw t (grows (time_grown m)))
      (λ t. rw t (grows (also (time_grown m) (slice_grown (time_passes m) m.running))))

  pub ends_grown : (code : List ℕ) (x : Offer) → Grows (line w.machine) (ends code w x)
  unfolding done_ends bell_ends
  ends_grown code a_step = step_grows code
  ends_grown code a_tick = tick_grows
  ends_grown code (a_done d status arg) = grows (done_grown w.machine d)
  ends_grown code a_bell = grows (bell_grown w.machine.bell.len w.machine)
