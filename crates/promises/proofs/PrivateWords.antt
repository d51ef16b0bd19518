-- One instruction depends on no other process's private words: the step and its refusals, from the instruction and the kernel call
use mathlib.Core.Path.{◌≡◌, refl, ap, subst}
use mathlib.Core.Bool.{true, ◌&&◌, and-false}
use mathlib.Core.List.{List}
use Prim.Native.Nat.{ℕ, ◌*◌, ◌<◌}
use native.Mathlib.Omega.{arith}
use lib.Dec.{leb, eqb}
use lib.ListN.{length}
use borrow.Author.Tests.{leb-false}
use Rattle.notation.proofs.Upto.{split}
use Rattle.machine.specs.State.{nobody, going}
use Rattle.machine.specs.Store.{World}
use Rattle.machine.specs.View.{Out, next, faults, calls, Effect}
use Rattle.machine.specs.Instruction.{instruct}
use Rattle.machine.specs.Classes.{select}
use Rattle.machine.specs.Call.{Called}
use Rattle.machine.specs.Step.{view, selected, halted, called, resulted, step}
use Rattle.machine.specs.Sound.{sound}
use Rattle.machine.specs.Offer.{did, stores_fit, offer_step}
use Rattle.promises.specs.PrivateWords.{AgreeBut, DifferOnly, SameBut, PrivateWords}
use Rattle.laws.proofs.Runs.{running_fit}
use Rattle.laws.proofs.Marks.{stores_kept}
use Rattle.promises.proofs.Agree.{agree_row, same_part}
use Rattle.promises.proofs.SameCalled.{Sees, SameCalled, both_on, both_start, both_stop, over, same-kernel}
use Rattle.notation.proofs.Test.{equal}

selected-same : {j : ℕ} {v v' : World} → DifferOnly j v v' → DifferOnly j (selected v) (selected v')
selected-same d = record { machine = ap select d.machine; common = d.common; private = d.private }

module _ (j : ℕ) (w : World) (q : List ℕ) (agree : AgreeBut j w.private q) where
  halted-same : (f : ℕ) → SameBut j (did (halted w f)) (did (halted (over w q) f))
  unfolding halted
  halted-same f = (refl, refl, record { machine = refl; common = refl; private = agree })

  called_same : {c c' : Called} → SameCalled j c c' → SameBut j (did (called w c)) (did (called (over w q) c'))
  called_same (both_on d) = (refl, refl, selected-same d)
  called_same (both_start d v) = (refl, refl, selected-same v)
  called_same (both_stop f) = halted-same f

module _ (j : ℕ) (code : List ℕ) (w : World) (q : List ℕ) where
  resulted-same : Sees j code w q → (o : Out) (common own : List ℕ) → length own ≡ 2048
      → SameBut j (did (resulted w o common own)) (did (resulted (over w q) o common own))
  resulted-same sees (next r) common own long =
      let private = agree_row sees.agree (2048 * w.machine.running) 2048 own long (omega arith) in
      (refl, refl, selected-same (record { machine = refl; common = refl; private = private }))
  resulted-same sees (faults f) common own long = halted-same j w q sees.agree f
  resulted-same sees (calls k) common own long = called_same j w q sees.agree (same-kernel j code w q sees k)

  module _ (agree : AgreeBut j w.private q) (other : j ≡ w.machine.running → ⊥) where
    seen : stores_fit w.common w.private && eqb (length code) w.machine.length ≡ true → sound w.machine ≡ true → w.machine.running < 10
        → Sees j code w q
    seen fits ok few =
        record {
          fit = running_fit code w fits ok few;
          agree = agree;
          other = other;
          few = few;
          long = equal (length w.private) 20480 fits (λ t. simp (t, and-false));
        }

    -- the instruction sees the same, so it does the same
    step_same : (w.machine.running < 10 → Sees j code w q) → SameBut j (did (step code w)) (did (step code (over w q)))
    unfolding step
    step_same sees =
        split (leb nobody w.machine.running)
        (λ t. rw t (refl, refl, record { machine = refl; common = refl; private = agree }))
        (λ t.
        let d : Effect = instruct (view code w) in
        let s = sees (leb-false nobody w.machine.running t) in
        rw (t, ← same_part agree w.machine.running other)
        (resulted-same s d.out d.common d.own (stores_kept (view code w) s.fit).1))

    -- the refusals read the machine and lengths alone, so both are refused alike or neither is
    offer-same : SameBut j (offer_step code w) (offer_step code (over w q))
    unfolding offer_step
    offer-same =
        rw (← agree.long)
        (split (stores_fit w.common w.private && eqb (length code) w.machine.length)
        (λ f. split (sound w.machine)
        (λ s. split (eqb w.machine.stop going) (λ g. rw (f, s, g) (step_same (seen f s))) (λ g. rw (f, s, g)))
        (λ s. rw (f, s)))
        (λ f. rw f))

pub private_words : PrivateWords
private_words code w w' j d other =
    let same : over w w'.private ≡ w' = λ i. record { machine = d.machine i; common = d.common i; private = w'.private } in
    subst (λ v. SameBut j (offer_step code w) (offer_step code v)) same (offer-same j code w w'.private d.private other)
