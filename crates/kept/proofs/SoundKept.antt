-- Soundness is kept by whatever is offered: the steps and events keep every process in its place, and the selection follows
use mathlib.Core.Path.{◌≡◌}
use mathlib.Core.Bool.{true, ◌&&◌, ◌||◌, not, and-false}
use mathlib.Core.List.{List, [], ◌∷◌}
use Prim.Native.Nat.{ℕ, ◌<◌, ◌≤◌}
use native.Mathlib.Omega.{arith}
use lib.Dec.{ltb, leb, eqb}
use lib.ListN.{length}
use borrow.Author.Tests.{leb-false, ltb-true, ltb-false, not-false}
use Rattle.notation.proofs.Upto.{split, neither}
use Rattle.machine.specs.declared.Process.{Process}
use Rattle.machine.specs.declared.Machine.{Machine}
use Rattle.machine.specs.State.{nobody, going, proc}
use Rattle.machine.specs.Store.{World}
use Rattle.machine.specs.View.{Out, next, faults, calls, Effect}
use Rattle.machine.specs.Instruction.{instruct}
use Rattle.machine.specs.Call.{Called}
use Rattle.machine.specs.Device.{is_busy, device_done}
use Rattle.machine.specs.Step.{view, halted, called, resulted, step}
use Rattle.machine.specs.Sound.{sound}
use Rattle.machine.specs.Offer.{stores_fit, offer_step, offer_tick, offer_bell, offer_done, after, a_step, a_tick, a_done, a_bell, offer, after_all}
use Rattle.kept.specs.SoundKept.{FreshSound, SoundKept, SoundOverAll}
use Rattle.laws.proofs.Runs.{running_fit}
use Rattle.laws.proofs.Marks.{Marked, marked}
use Rattle.kept.proofs.Nearly.{Sound}
use Rattle.kept.proofs.Frames.{retimed}
use Rattle.kept.proofs.Selected.{select-sound}
use Rattle.kept.proofs.Waits.{device_end_kept, tick-sound, bell-sound}
use Rattle.kept.proofs.Tested.{tested, complete, shaped}
use Rattle.kept.proofs.Registers.{reset_running}
use Rattle.kept.proofs.Fresh.{fresh-placed}
use Rattle.kept.proofs.Calls.{Fine, goes, begins, halts, fine}
use Rattle.machine.specs.Shape.{Shaped}
use Rattle.notation.proofs.Test.{equal}

-- ---- a step
-- a fault or call 2 changes nothing but the stop and its line
halted-sound : (w : World) (f : ℕ) → f ≤ 9 → Sound w.machine → Sound (halted w f).world.machine
unfolding halted
halted-sound w f l s =
    let n = s.placed.numbers in
    record { placed = retimed f _ _ _ n.fraction n.tens n.seconds (omega arith) s.placed; idle = s.idle }

called-sound : (w : World) (c : Called) → Fine c → Sound w.machine → Sound (called w c).world.machine
called-sound w _ (goes f) s = select-sound f
called-sound w _ (begins d f) s = select-sound f
called-sound w _ (halts f l) s = halted-sound w f l s

module _ (code : List ℕ) (w : World) (s : Sound w.machine) (runs : w.machine.running < nobody)
    (long : length code ≡ w.machine.length) where
  abbrev p : Process
  p = proc w.machine w.machine.running

  resulted-sound : (o : Out) (common own : List ℕ) → Marked (view code w) o → Sound (resulted w o common own).world.machine
  resulted-sound (next r) common own g =
      let f = s.placed in
      let old = f.processes.each w.machine.running (f.runs.made runs) in
      let o = g.ordered in
      select-sound
      (reset_running runs f r
      (record {
        variables = old.marks.variables;
        stack = o.stack;
        frame = o.frame;
        ceiling = o.ceiling;
        address = rw (← long) o.address;
        short = old.marks.short;
        tens = old.marks.tens;
      })
      (rw (← long) o.job)
      (λ j. split p.regs.in_job old.free (λ n. let z = ltb-false 0 p.holds (g.starts j n) in omega arith)))
  resulted-sound (faults f) common own l = halted-sound w f l s
  resulted-sound (calls k) common own a =
      called-sound w _ (fine w (record { placed = s.placed; runs = runs; free = a.free; past = rw (← long) a.past }) k) s

-- ---- what is offered: taken, it leaves a sound machine; refused, it leaves the machine as it was
abbrev pub Good : Machine → Type 0
Good m = Shaped m × (sound m ≡ true)

good : {m : Machine} → Sound m → Good m
good {m} s = (shaped m s.placed, complete m s)

pub fresh-sound : FreshSound
fresh-sound h ok = good (fresh-placed h ok)

module _ (w : World) (same : Good w.machine) where
  abbrev m : Machine
  m = w.machine

  is_sound_lem : Sound m
  is_sound_lem = tested m same.0 same.1

  pub step_good : (code : List ℕ) → stores_fit w.common w.private && eqb (length code) m.length ≡ true → Good (step code w).world.machine
  unfolding step
  step_good code fits =
      let n = equal (length code) m.length fits (λ t. simp (t, and-false)) in
      let d : Effect = instruct (view code w) in
      split (leb nobody m.running)
      (λ t. rw t same)
      (λ t.
      let runs = leb-false nobody m.running t in
      let kept = marked (view code w) (running_fit code w fits same.1 runs) in
      rw t (good (resulted-sound code w is_sound_lem runs n d.out d.common d.own kept)))

  step-offered : (code : List ℕ) → Good (after w (offer_step code w)).machine
  unfolding offer_step
  step-offered code =
      split (stores_fit w.common w.private && eqb (length code) m.length)
      (λ f. split (eqb m.stop going) (λ g. rw (f, same.1, g) (step_good code f)) (λ g. rw (f, same.1, g) same))
      (λ f. rw f same)

  tick-offered : Good (after w (offer_tick w)).machine
  unfolding offer_tick
  tick-offered = split (eqb m.stop going) (λ g. rw (same.1, g) (good (tick-sound is_sound_lem.placed))) (λ g. rw (same.1, g) same)

  bell-offered : Good (after w (offer_bell w)).machine
  unfolding offer_bell
  bell-offered = split (eqb m.stop going) (λ g. rw (same.1, g) (good (bell-sound is_sound_lem.placed))) (λ g. rw (same.1, g) same)

  done_offered : (d status arg : ℕ) → Good (after w (offer_done w d status arg)).machine
  unfolding offer_done device_done
  done_offered d status arg =
      split (stores_fit w.common w.private)
      (λ f. split (eqb m.stop going)
      (λ g. split (ltb 6 status || ltb 4 d || not (is_busy m d))
      (λ b. rw (f, same.1, g, b) same)
      (λ b.
      let a = neither (ltb 6 status || ltb 4 d) (not (is_busy m d)) b in
      let small = ltb-false 4 d (neither (ltb 6 status) (ltb 4 d) a.0).1 in
      let busy = ltb-true _ nobody (not-false (is_busy m d) a.1) in
      rw (f, same.1, g, b) (good (select-sound (device_end_kept d (omega arith) busy is_sound_lem.placed)))))
      (λ g. rw (f, same.1, g) same))
      (λ f. rw f same)

pub sound_kept : SoundKept
unfolding offer
sound_kept code w a_step shape e = step-offered w (shape, e) code
sound_kept code w a_tick shape e = tick-offered w (shape, e)
sound_kept code w (a_done d status arg) shape e = done_offered w (shape, e) d status arg
sound_kept code w a_bell shape e = bell-offered w (shape, e)

pub sound_over_all : SoundOverAll
unfolding after_all
sound_over_all code w [] shape e = (shape, e)
sound_over_all code w (x ∷ xs) shape e =
    let k = sound_kept code w x shape e in
    sound_over_all code (after w (offer code w x)) xs k.0 k.1
