-- The machine after an accepted offer is the selection that the offer ends with
use mathlib.Core.Path.{◌≡◌, refl, sym}
use mathlib.Core.Bool.{true}
use mathlib.Core.List.{List}
use Prim.Native.Nat.{ℕ}
use lib.Dec.{leb}
use Rattle.notation.proofs.Upto.{split, never}
use Rattle.image.specs.Refusal.{Reply, taken, refused}
use Rattle.machine.specs.State.{nobody}
use Rattle.machine.specs.Store.{World}
use Rattle.machine.specs.View.{Out, next, faults, calls, Effect}
use Rattle.machine.specs.Instruction.{instruct}
use Rattle.machine.specs.Clock.{tick, bell}
use Rattle.machine.specs.Device.{device_done}
use Rattle.machine.specs.Call.{Called, on, starts, stops, kernel}
use Rattle.machine.specs.Step.{view, halted, called, resulted, step}
use Rattle.machine.specs.Offer.{offered, Offer, a_step, a_tick, a_done, a_bell, after}
use Rattle.waiting.specs.Count.{accepted}
use Rattle.waiting.specs.Selection.{call_ends, out_ends, step_ends, tick_ends, done_ends, bell_ends, ends, Chosen, EndsSo}
use Rattle.waiting.proofs.Replies.{reply_to, doing, offer_is}

module _ (w : World) where
  call_chosen : (c : Called) → Chosen w.machine (call_ends c) (called w c).world.machine
  unfolding halted
  call_chosen (on v) = refl
  call_chosen (starts d v) = refl
  call_chosen (stops f) = (refl, refl, refl)

  out_chosen : (o : Out) (common own : List ℕ) → Chosen w.machine (out_ends w o) (resulted w o common own).world.machine
  unfolding halted
  out_chosen (next r) common own = refl
  out_chosen (faults f) common own = (refl, refl, refl)
  out_chosen (calls k) common own = call_chosen (kernel w k)

  step_chosen : (code : List ℕ) → Chosen w.machine (step_ends code w) (step code w).world.machine
  unfolding step_ends step
  step_chosen code =
      let d : Effect = instruct (view code w) in
      split (leb nobody w.machine.running) (λ t. rw t (refl, refl, refl)) (λ t. rw t (out_chosen d.out d.common d.own))

  pub doing_chosen : (code : List ℕ) (x : Offer) → Chosen w.machine (ends code w x) (doing code w x).world.machine
  unfolding tick_ends tick done_ends device_done bell_ends bell
  doing_chosen code a_step = step_chosen code
  doing_chosen code a_tick = refl
  doing_chosen code (a_done d status arg) = refl
  doing_chosen code a_bell = refl

  reply_chosen : (code : List ℕ) (x : Offer) (y : Reply) → accepted (offered y (doing code w x)) ≡ true
      → Chosen w.machine (ends code w x) (after w (offered y (doing code w x))).machine
  reply_chosen code x (taken vs) e = doing_chosen code x
  reply_chosen code x (refused k vs) e = never (sym e)

pub ends_so : EndsSo
ends_so code w x = rw (offer_is code w x) (reply_chosen w code x (reply_to code w x))
