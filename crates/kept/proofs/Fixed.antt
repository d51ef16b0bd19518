-- What the moves of the kernel leave: the stop, the code length, how many processes there are, and everybody's registers
use mathlib.Core.Path.{◌≡◌, refl, ◌∙◌}
use mathlib.Core.Bool.{Bool}
use mathlib.Core.List.{List}
use Prim.Native.Nat.{ℕ, zero, suc, ◌+◌}
use lib.Dec.{leb, eqb}
use lib.ListN.{get_or, set}
use Rattle.notation.specs.If.{if}
use Rattle.notation.proofs.Upto.{split}
use Rattle.machine.specs.declared.Process.{Process}
use Rattle.machine.specs.declared.Machine.{Machine}
use Rattle.machine.specs.State.{nobody, no_process, proc, gate, timed, counted, with_process}
use Rattle.machine.specs.Classes.{set_running, push, pull, wake, set_class, best, start, source, selection, aside, selects, select}
use Rattle.machine.specs.Gate.{given, join, advance, sit, grant, give_up, pass, hand_on, enter, leave, delay, cell, continue, make_gate}
use Rattle.machine.specs.Clock.{clock_wait, bell_wait, clock_one, clock_wake, bell_one, bell_wake, next_second, time_passes, yields, slice_passes, tick, bell}
use Rattle.machine.specs.Device.{with_device, device_start, device_end}
use Rattle.machine.specs.Call.{finish}
use Rattle.notation.proofs.Cells.{set_keeps}
use Rattle.machine.proofs.Registers.{entered-regs}

pub record Fixed (m m' : Machine) : Type 0 where
  pub stop : m'.stop ≡ m.stop
  pub length : m'.length ≡ m.length
  pub created : m'.created ≡ m.created
  pub regs : (q : ℕ) → (proc m' q).regs ≡ (proc m q).regs

pub unchanged : {m : Machine} → Fixed m m
unchanged = record { stop = refl; length = refl; created = refl; regs = λ q. refl }

pub also : {m m' m'' : Machine} → Fixed m m' → Fixed m' m'' → Fixed m m''
also a b =
    record {
      stop = b.stop ∙ a.stop;
      length = b.length ∙ a.length;
      created = b.created ∙ a.created;
      regs = λ q. b.regs q ∙ a.regs q;
    }

either : (b : Bool) {m x y : Machine} → Fixed m x → Fixed m y → Fixed m (if b x y)
either b s t = split b (λ e. rw e s) (λ e. rw e t)

-- one process changes, but for its registers
pub set-regs : (ps : List Process) (i : ℕ) (p : Process) → p.regs ≡ (get_or ps i no_process).regs
    → (q : ℕ) → (get_or (set ps i p) q no_process).regs ≡ (get_or ps q no_process).regs
set-regs ps i p e q = set_keeps (λ (x : Process). x.regs) ps i p no_process e q

with_process_lem : (m : Machine) (i : ℕ) (p : Process) → p.regs ≡ (proc m i).regs → Fixed m (with_process m i p)
unfolding with_process
with_process_lem m i p e = record { stop = refl; length = refl; created = refl; regs = set-regs m.processes i p e }

-- ---- running, ready and the selection
pub fixed_running : (m : Machine) (h : ℕ) → Fixed m (set_running m h)
unfolding set_running
fixed_running m h = record { stop = refl; length = refl; created = refl; regs = λ q. refl }

pub fixed_wake : (m : Machine) (h : ℕ) → Fixed m (wake m h)
unfolding wake push
fixed_wake m h = record { stop = refl; length = refl; created = refl; regs = λ q. refl }

fixed_class : (m : Machine) (h c : ℕ) → Fixed m (set_class m h c)
unfolding set_class
fixed_class m h c = with_process_lem m h _ refl

fixed_start : (m : Machine) (c : ℕ) → Fixed m (start m c)
unfolding start set_running pull
fixed_start m c = record { stop = refl; length = refl; created = refl; regs = λ q. refl }

fixed_aside : (m : Machine) → Fixed m (aside m)
unfolding aside
fixed_aside m = either (leb nobody m.running) unchanged (also (fixed_running m nobody) (fixed_wake (set_running m nobody) m.running))

fixed_counted : (m : Machine) (count : ℕ) (mark : Bool) → Fixed m (counted m count mark)
fixed_counted m count mark = record { stop = refl; length = refl; created = refl; regs = λ q. refl }

fixed_selection : (m : Machine) → Fixed m (selection m)
unfolding selection
fixed_selection m = also (fixed_start m (source m)) (fixed_counted _ _ _)

pub fixed_select : (m : Machine) → Fixed m (select m)
unfolding select
fixed_select m =
    either (selects m) (also (fixed_aside m) (fixed_selection _)) unchanged

-- ---- gates
module _ (m : Machine) (g : ℕ) where
  fixed_grant : (h : ℕ) → Fixed m (grant m g h)
  unfolding grant
  fixed_grant h =
      record { stop = refl; length = refl; created = refl; regs = set-regs m.processes h _ (entered-regs (proc m h) g) }

  fixed_give : (h : ℕ) → Fixed m (give_up m g h)
  unfolding give_up given
  fixed_give h = record { stop = refl; length = refl; created = refl; regs = set-regs m.processes h _ refl }

  fixed_join : (h : ℕ) → Fixed m (join m g h)
  unfolding join
  fixed_join h = record { stop = refl; length = refl; created = refl; regs = λ q. refl }

  fixed_advance : Fixed m (advance m g)
  unfolding advance
  fixed_advance = record { stop = refl; length = refl; created = refl; regs = λ q. refl }

  fixed_sit : (c x : ℕ) → Fixed m (sit m g c x)
  unfolding sit
  fixed_sit c x = record { stop = refl; length = refl; created = refl; regs = λ q. refl }

fixed_pass : (m : Machine) (g h : ℕ) → Fixed m (pass m g h)
unfolding pass
fixed_pass m g h = also (fixed_grant m g h) (fixed_wake (grant m g h) h)

fixed_hand : (m : Machine) (g : ℕ) → Fixed m (hand_on m g)
unfolding hand_on
fixed_hand m g = either (eqb (gate m g).queue.len 0) unchanged (also (fixed_advance m g) (fixed_pass _ g _))

pub fixed_enter : (m : Machine) (g : ℕ) → Fixed m (enter m g)
unfolding enter
fixed_enter m g =
    either (leb nobody (gate m g).holder) (fixed_grant m g m.running) (also (fixed_running m nobody) (fixed_join _ g _))

pub fixed_leave : (m : Machine) (g : ℕ) → Fixed m (leave m g)
unfolding leave
fixed_leave m g = also (fixed_give m g m.running) (fixed_hand _ g)

pub fixed_delay : (m : Machine) (g c : ℕ) → Fixed m (delay m g c)
unfolding delay
fixed_delay m g c = also (also (also (fixed_running m nobody) (fixed_give _ g m.running)) (fixed_sit _ g c m.running)) (fixed_hand _ g)

pub fixed_continue : (m : Machine) (g c : ℕ) → Fixed m (continue m g c)
unfolding continue
fixed_continue m g c =
    either (leb nobody (cell m g c)) (fixed_leave m g)
    (also (also (fixed_give m g m.running) (fixed_sit _ g c nobody)) (fixed_pass _ g (cell m g c)))

pub fixed_make : (m : Machine) → Fixed m (make_gate m)
unfolding make_gate grant
fixed_make m =
    record { stop = refl; length = refl; created = refl; regs = set-regs m.processes m.running _ (entered-regs (proc m m.running) m.made) }

-- ---- clock and bell
pub fixed_clock_wait : (m : Machine) → Fixed m (clock_wait m)
unfolding clock_wait set_running
fixed_clock_wait m = record { stop = refl; length = refl; created = refl; regs = λ q. refl }

pub fixed_bell_wait : (m : Machine) → Fixed m (bell_wait m)
unfolding bell_wait set_running
fixed_bell_wait m = record { stop = refl; length = refl; created = refl; regs = λ q. refl }

fixed_clock : (k : ℕ) (m : Machine) → Fixed m (clock_wake k m)
unfolding clock_wake clock_one wake push
fixed_clock zero m = unchanged
fixed_clock (suc k) m =
    let one : Fixed m (clock_one m) = record { stop = refl; length = refl; created = refl; regs = λ q. refl } in
    also one (fixed_clock k (clock_one m))

fixed_bells : (k : ℕ) (m : Machine) → Fixed m (bell_wake k m)
unfolding bell_wake bell_one wake push
fixed_bells zero m = unchanged
fixed_bells (suc k) m =
    let one : Fixed m (bell_one m) = record { stop = refl; length = refl; created = refl; regs = λ q. refl } in
    also one (fixed_bells k (bell_one m))

timed_fixed : (m : Machine) (s f : ℕ) → Fixed m (timed m m.stop m.line s f)
timed_fixed m s f = record { stop = refl; length = refl; created = refl; regs = λ q. refl }

fixed_time : (m : Machine) → Fixed m (time_passes m)
unfolding time_passes
fixed_time m =
    either (leb 10000 (m.fraction + 10))
    (also (timed_fixed m (next_second m.seconds) 0) (fixed_clock m.clock.len _))
    (timed_fixed m m.seconds (m.fraction + 10))

fixed_yields : (m : Machine) (h : ℕ) → Fixed m (yields m h)
unfolding yields
fixed_yields m h = either (leb (best m) (proc m h).class) (also (fixed_running m nobody) (fixed_wake _ h)) unchanged

fixed_slice : (m : Machine) (h : ℕ) → Fixed m (slice_passes m h)
unfolding slice_passes
fixed_slice m h =
    either (leb 200 ((proc m h).slice + 10)) (also (also (fixed_counted m _ _) (with_process_lem _ h _ refl)) (fixed_yields _ h)) (with_process_lem m h _ refl)

pub fixed_tick : (m : Machine) → Fixed m (tick m)
unfolding tick
fixed_tick m =
    also (either (leb nobody m.running) (fixed_time m) (also (fixed_time m) (fixed_slice _ m.running))) (fixed_select _)

pub fixed_bell : (m : Machine) → Fixed m (bell m)
unfolding bell
fixed_bell m = also (fixed_bells m.bell.len m) (fixed_select _)

-- ---- devices, and an end
pub fixed_device_start : (m : Machine) (d operation address : ℕ) → Fixed m (device_start m d operation address)
unfolding device_start with_device set_running
fixed_device_start m d operation address = record { stop = refl; length = refl; created = refl; regs = λ q. refl }

pub fixed_device_end : (m : Machine) (d : ℕ) → Fixed m (device_end m d)
unfolding device_end with_device
fixed_device_end m d =
    let one : Fixed m (with_device m d _) = record { stop = refl; length = refl; created = refl; regs = λ q. refl } in
    also (also one (fixed_class _ _ _)) (fixed_wake _ _)

pub fixed_finish : (m : Machine) → Fixed m (finish m)
unfolding finish with_process set_running
fixed_finish m = record { stop = refl; length = refl; created = refl; regs = set-regs m.processes m.running _ refl }
