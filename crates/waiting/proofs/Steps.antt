-- Whatever is offered, as a turn of gate g: only a step's leave, delay or continue can release it
use mathlib.Core.Path.{◌≡◌, refl, sym, ap}
use mathlib.Core.Bool.{Bool, true, false, ◌&&◌, ◌||◌, not, and-true, and-false, or-false}
use mathlib.Core.List.{List}
use Prim.Native.Nat.{ℕ, ◌+◌, ◌-◌, ◌<◌}
use native.Mathlib.Omega.{arith}
use lib.Dec.{ltb, leb, eqb}
use lib.ListN.{length, get_or}
use borrow.Author.Tests.{eqb-true, leb-true, leb-false, lt-ltb, le-ltb}
use Rattle.notation.specs.If.{if}
use Rattle.notation.proofs.Upto.{split, both}
use Rattle.image.specs.Refusal.{Reply, taken, refused}
use Rattle.machine.specs.declared.Gate.{Gate}
use Rattle.machine.specs.declared.Machine.{Machine}
use Rattle.machine.specs.State.{nobody, no_gate, gate, with_process}
use Rattle.machine.specs.Store.{World, place_of, whole, word_in}
use Rattle.machine.specs.View.{Out, next, faults, calls, Effect}
use Rattle.machine.specs.Instruction.{instruct}
use Rattle.machine.specs.Classes.{set_running}
use Rattle.machine.specs.Gate.{cell, may_enter, may_leave, may_delay, may_continue}
use Rattle.machine.specs.Clock.{clock_wait, bell_wait}
use Rattle.machine.specs.Device.{is_present, is_busy, with_device, device_start, device_done}
use Rattle.machine.specs.Call.{Called, on, starts, stops, caller, floor, stack_word, passed, popped, finish, io_begins, call0, call1, call2, call3, call4, call5, call6, call7, call8, call9, call10, call11, kernel}
use Rattle.machine.specs.Step.{view, halted, called, resulted, step}
use Rattle.machine.specs.Release.{is_completed, leaves_by, delays_by, continues_by, on_empty_cell, by_call, releases, completes}
use Rattle.machine.specs.Offer.{offered, Offer, a_step, a_tick, a_done, a_bell, offer, after}
use Rattle.kept.proofs.Nearly.{Placed}
use Rattle.waiting.specs.Count.{accepted}
use Rattle.waiting.specs.Waiting.{is_step, releases_at, completes_at}
use Rattle.waiting.proofs.Replies.{reply_to, doing, offer_is}
use Rattle.waiting.proofs.Turns.{Turn, still}
use Rattle.waiting.proofs.Gates.{enter-turn, leave-turn, delay-turn, continue-turn, make_turn}
use Rattle.waiting.proofs.Untouched.{select-gates, tick-gates, bell-gates, done_gates, create_gates, stop_gates}

and_swap : (a b c : Bool) → a && b && c ≡ a && c && b
and_swap true true c = sym (and-true c)
and_swap true false c = sym (and-false c)
and_swap false b c = refl

-- a call: it goes on with a turn of gate g, or it stops
data Turned (w : Gate) (g : ℕ) (r o : Bool) : Called → Type 0 where
  goes : {v : World} → Turn w (gate v.machine g) r o → Turned w g r o (on v)
  begins : (d : ℕ) {v : World} → Turn w (gate v.machine g) r o → Turned w g r o (starts d v)
  halts : (f : ℕ) → Turned w g r o (stops f)

same-gate : {gs hs : List Gate} (g : ℕ) → hs ≡ gs → get_or hs g no_gate ≡ get_or gs g no_gate
same-gate g e = ap (λ (l : List Gate). get_or l g no_gate) e

module _ {w : Gate} {g : ℕ} {r o : Bool} where
  if-turned : (b : Bool) {x y : Called} → (b ≡ true → Turned w g r o x) → (b ≡ false → Turned w g r o y) → Turned w g r o (if b x y)
  if-turned b f h = split b (λ t. rw t (f t)) (λ t. rw t (h t))

  either : (b : Bool) {x y : Called} → Turned w g r o x → Turned w g r o y → Turned w g r o (if b x y)
  either b x y = if-turned b (λ _. x) (λ _. y)

module _ (w : World) (g : ℕ) (small : g < 25) (f : Placed w.machine) where
  abbrev m : Machine
  m = w.machine

  abbrev Kept : Called → Type 0
  Kept c = Turned (gate m g) g false false c

  l : g < length m.gates
  l = omega (arith, f.gates.many)

  -- ---- calls that release no gate
  kept_0 : Kept (call0 w)
  unfolding call0 clock_wait set_running passed with_process
  kept_0 = goes (still refl)

  kept_1 : Kept (call1 w)
  unfolding call1 passed with_process
  kept_1 = either (leb (floor w + 1) (caller w).regs.s) (goes (still refl)) (halts 6)

  kept_2 : Kept (call2 w)
  unfolding call2
  kept_2 = either (leb ((caller w).regs.s + 1) (caller w).regs.b) (halts _) (halts 7)

  kept_3 : Kept (call3 w)
  unfolding call3 passed with_process
  kept_3 =
      let t : ℕ = stack_word w 0 in
      let v : ℕ = stack_word w 1 in
      let p : ℕ = stack_word w 2 in
      either (leb ((caller w).regs.s + 3) (caller w).regs.b)
      (either (not (eqb m.running 0) || leb 10 m.created) (halts 9)
      (either (ltb 1024 v || ltb v p) (halts 3)
      (either (leb ((caller w).regs.s + (3 + p)) (caller w).regs.b)
      (either (leb m.length t) (halts 7) (goes (still (same-gate g (create_gates (popped w (3 + p)) t v)))))
      (halts 7))))
      (halts 7)

  kept_4 : Kept (call4 w)
  unfolding call4 finish set_running passed with_process
  kept_4 = either (ltb 0 (caller w).holds) (halts 8) (goes (still refl))

  kept_5 : Kept (call5 w)
  unfolding call5 passed with_process
  kept_5 =
      either (leb ((caller w).regs.s + 2) (caller w).regs.b)
      (goes (still (same-gate g (stop_gates (popped w 1) (stack_word w 1) (stack_word w 0))))) (halts 7)

  kept_6 : Kept (call6 w)
  unfolding call6 passed with_process
  kept_6 =
      either (leb ((caller w).regs.s + 1) (caller w).regs.b)
      (either (may_enter m (stack_word w 0)) (goes (enter-turn (popped w 1) (stack_word w 0) g l)) (halts 8)) (halts 7)

  kept_10 : Kept (call10 w)
  unfolding call10 passed with_process
  kept_10 =
      either (leb 25 m.made) (halts 9)
      (either (leb 8 (caller w).holds) (halts 8)
      (either (leb (floor w + 1) (caller w).regs.s) (goes (make_turn (passed m ((caller w).regs.s - 1)) g l)) (halts 6)))

  kept_io : (d operation : ℕ) → Kept (io_begins w d operation)
  unfolding io_begins bell_wait device_start with_device set_running passed with_process
  kept_io d operation =
      either (eqb d 0 && eqb operation 3 && is_present m 0) (goes (still refl))
      (either (not (is_present m d) || is_busy m d) (goes (still refl)) (begins d (still refl)))

  kept_11 : Kept (call11 w)
  unfolding call11
  kept_11 =
      let d : ℕ = stack_word w 1 in
      let operation : ℕ = word_in (place_of (stack_word w 0)) m.running w.common w.private in
      either (leb ((caller w).regs.s + 2) (caller w).regs.b)
      (either (whole (stack_word w 0)) (either (leb d 4 && leb operation 3) (kept_io d operation) (halts 3)) (halts 2)) (halts 7)

  -- ---- leave, delay, continue
  small-cell : (h c : ℕ) → may_continue m h c ≡ true → c < 8
  unfolding may_continue
  small-cell h c t = let e = leb-true c 7 (both (may_leave m h) (leb c 7) t).1 in omega arith

  turned_7 : Turned (gate m g) g (eqb (stack_word w 0) g) (eqb (stack_word w 0) g) (call7 w)
  unfolding call7 passed with_process
  turned_7 =
      either (leb ((caller w).regs.s + 1) (caller w).regs.b)
      (either (may_leave m (stack_word w 0)) (goes (leave-turn (popped w 1) g l (f.gates.each g small).queue.few (stack_word w 0))) (halts 8)) (halts 7)

  turned_8 : Turned (gate m g) g (eqb (stack_word w 1) g) (eqb (stack_word w 1) g) (call8 w)
  unfolding call8 passed with_process may_delay
  turned_8 =
      let h : ℕ = stack_word w 1 in
      let c : ℕ = stack_word w 0 in
      let t = f.gates.each g small in
      either (leb ((caller w).regs.s + 2) (caller w).regs.b)
      (if-turned (may_delay m h c)
      (λ e. goes (delay-turn (popped w 2) g l t.queue.few c (small-cell h c (both (may_continue m h c) (leb nobody (cell m h c)) e).0) t.room h))
      (λ e. halts 8)) (halts 7)

  turned_9 : Turned (gate m g) g (eqb (stack_word w 1) g && on_empty_cell w) (eqb (stack_word w 1) g) (call9 w)
  unfolding call9 passed with_process
  turned_9 =
      let h : ℕ = stack_word w 1 in
      let c : ℕ = stack_word w 0 in
      let t = f.gates.each g small in
      either (leb ((caller w).regs.s + 2) (caller w).regs.b)
      (if-turned (may_continue m h c) (λ e. goes (continue-turn (popped w 2) g l t.queue.few c (small-cell h c e) t.room h)) (λ e. halts 8))
      (halts 7)

  -- ---- any call
  kept : (k : ℕ) → eqb k 7 ≡ false → eqb k 8 ≡ false → eqb k 9 ≡ false → Kept (kernel w k)
  unfolding kernel
  kept k e₇ e₈ e₉ =
      rw (e₇, e₈, e₉)
      (either (eqb k 0) kept_0
      (either (eqb k 1) kept_1
      (either (eqb k 2) kept_2
      (either (eqb k 3) kept_3
      (either (eqb k 4) kept_4
      (either (eqb k 5) kept_5
      (either (eqb k 6) kept_6
      (either (eqb k 10) kept_10
      (either (eqb k 11) kept_11
      (halts 7))))))))))

  call-turn : {r o : Bool} (c : Called) → Turned (gate m g) g r o c
      → Turn (gate m g) (gate (called w c).world.machine g) (r && is_completed c) (o && is_completed c)
  unfolding halted
  call-turn {r} {o} _ (goes {v} t) = rw (and-true r, and-true o, same-gate g (select-gates v.machine)) t
  call-turn {r} {o} _ (begins d {v} t) = rw (and-true r, and-true o, same-gate g (select-gates v.machine)) t
  call-turn {r} {o} _ (halts n) = rw (and-false r, and-false o) (still refl)

  abbrev CallTurn : ℕ → Type 0
  CallTurn k =
      Turn (gate m g) (gate (called w (kernel w k)).world.machine g)
      (leaves_by w g k || delays_by w g k || (continues_by w g k && on_empty_cell w))
      (leaves_by w g k || delays_by w g k || continues_by w g k)

  turn_7 : CallTurn 7
  unfolding kernel
  turn_7 = let a : Bool = eqb (stack_word w 0) g && is_completed (call7 w) in rw (or-false a, or-false a) (call-turn (call7 w) turned_7)

  turn_8 : CallTurn 8
  unfolding kernel
  turn_8 = rw (or-false (eqb (stack_word w 1) g && is_completed (call8 w))) (call-turn (call8 w) turned_8)

  turn_9 : CallTurn 9
  unfolding kernel
  turn_9 = rw (and_swap (eqb (stack_word w 1) g) (is_completed (call9 w)) (on_empty_cell w)) (call-turn (call9 w) turned_9)

  kernel-turn : (k : ℕ) → CallTurn k
  kernel-turn k =
      split (eqb k 7) (λ e. rw (eqb-true k 7 e) turn_7)
      (λ e₇. split (eqb k 8) (λ e. rw (eqb-true k 8 e) turn_8)
      (λ e₈. split (eqb k 9) (λ e. rw (eqb-true k 9 e) turn_9)
      (λ e₉. rw (e₇, e₈, e₉) (call-turn (kernel w k) (kept k e₇ e₈ e₉)))))

  -- ---- a step
  out-turn : (o : Out) (common own : List ℕ)
      → Turn (gate m g) (gate (resulted w o common own).world.machine g)
      (by_call o (λ k. leaves_by w g k || delays_by w g k || (continues_by w g k && on_empty_cell w)))
      (by_call o (λ k. leaves_by w g k || delays_by w g k || continues_by w g k))
  unfolding with_process halted
  out-turn (next r) common own = still (same-gate g (select-gates _))
  out-turn (faults n) common own = still refl
  out-turn (calls k) common own = kernel-turn k

  step-turn : (code : List ℕ) → Turn (gate m g) (gate (step code w).world.machine g) (releases code w g) (completes code w g)
  unfolding step releases completes
  step-turn code =
      let d : Effect = instruct (view code w) in
      split (leb nobody m.running)
      (λ t. rw (t, le-ltb m.running nobody (leb-true nobody m.running t)) (still refl))
      (λ t. rw (t, lt-ltb m.running nobody (leb-false nobody m.running t)) (out-turn d.out d.common d.own))

  -- ---- whatever is offered
  doing_turn : (code : List ℕ) (x : Offer)
      → Turn (gate m g) (gate (doing code w x).world.machine g) (is_step x && releases code w g) (is_step x && completes code w g)
  unfolding device_done
  doing_turn code a_step = step-turn code
  doing_turn code a_tick = still (same-gate g (tick-gates m))
  doing_turn code (a_done d status arg) = still (same-gate g (done_gates m d))
  doing_turn code a_bell = still (same-gate g (bell-gates m))

  reply-turn : (code : List ℕ) (x : Offer) (y : Reply)
      → Turn (gate m g) (gate (after w (offered y (doing code w x))).machine g)
      (accepted (offered y (doing code w x)) && is_step x && releases code w g)
      (accepted (offered y (doing code w x)) && is_step x && completes code w g)
  reply-turn code x (taken vs) = doing_turn code x
  reply-turn code x (refused k vs) = still refl

  pub turn : (code : List ℕ) (x : Offer)
      → Turn (gate m g) (gate (after w (offer code w x)).machine g) (releases_at code g w x) (completes_at code g w x)
  turn code x = rw (offer_is code w x) (reply-turn code x (reply_to code w x))
