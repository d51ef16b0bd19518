-- What a call leaves: on words that are a machine's, and on words that are none's
use mathlib.Core.Path.{◌≡◌, refl, ap}
use mathlib.Core.Bool.{true}
use mathlib.Core.List.{List, []}
use Prim.Native.Nat.{ℕ}
use lib.Dec.{eqb}
use lib.ListN.{length}
use borrow.Author.Tests.{eq-eqb}
use Rattle.notation.specs.If.{if}
use Rattle.notation.proofs.Upto.{split}
use Rattle.image.specs.declared.table.Refusal.{Refusal}
use Rattle.std.specs.Prelude.{Result, Ok, Err, Option, Some, None, ok_or, IsErrAnd}
use Rattle.image.specs.Refusal.{Reply, taken, refused_by, number_of, ◌then◌}
use Rattle.image.proofs.Laws.{err_is}
use Rattle.image.specs.declared.table.Refusal.TheVariants.{Unsound}
use Rattle.machine.specs.declared.Machine.{Machine}
use Rattle.machine.specs.Store.{World}
use Rattle.machine.specs.Sound.{sound}
use Rattle.machine.specs.Offer.{Offered, did, refuses}
use Rattle.layout.specs.Layout.{packed, unpacked, fits, unpacked_if, state_words}
use Rattle.layout.proofs.Laws.{fitting}
use Rattle.layout.proofs.Inverse.{packed-unpacked}
use Rattle.run.specs.declared.answer.Offered.{Offered as Given}
use Rattle.run.specs.Said.{world, Outcome, given, outcome, answer_of}
use Rattle.plumbsorrel.specs.Number.{answer_number}
use Rattle.plumbsorrel.specs.Offers.{leaves, left, crossed, unknown}
use Rattle.plumbsorrel.specs.Asked.{Says, not_sound}

-- ---- the answer and the new words are those that the definition leaves
leaves-left :
    (state common private c q : List ℕ) (x : Given) (m : Machine) (o : Offered) (r : ℕ) →
    packed m ≡ state → given x c q ≡ outcome (world m common private) o → r ≡ answer_number (answer_of x.reply) x.count →
    leaves r (packed x.machine) c q ≡ left state common private o
leaves-left state common private c q x m (did s) r p e h =
    rw (h, ap (λ (y : Outcome). y.answered) e, ap (λ (y : Outcome). y.count) e, ap (λ (y : Outcome). y.world.machine) e, ap (λ (y : Outcome). y.world.common) e, ap (λ (y : Outcome). y.world.private) e)
leaves-left state common private c q x m (refuses k) r p e h =
    rw (h, ap (λ (y : Outcome). y.answered) e, ap (λ (y : Outcome). y.world.machine) e, ap (λ (y : Outcome). y.world.common) e, ap (λ (y : Outcome). y.world.private) e, p)

-- ---- what a call leaves where its checks have answered x
module _ (state common private : List ℕ) (lent : Reply) (offer : World → Offered) (x : Result Machine Refusal) (e : Says x (lent then unknown state) state) where
  pub refused_leaves : (r : Refusal) → x ≡ Err r → leaves (number_of r) state common private ≡ crossed state common private lent offer
  refused_leaves r t = let z : refused_by r ≡ (lent then unknown state) = rw t at e.reply in rw (← z)

  pub answered :
      (m : Machine) → x ≡ Ok m → (y : Given) (c q : List ℕ) →
      given y c q ≡ outcome (world m common private) (offer (world m common private)) →
      (r : ℕ) (new : List ℕ) → (r ≡ answer_number (answer_of y.reply) y.count) × (new ≡ if (eqb (length state) state_words) (packed y.machine) state) →
      leaves r new c q ≡ crossed state common private lent offer
  answered m t y c q g r new z =
      let k : taken [] ≡ (lent then unknown state) = rw t at e.reply in
      let f : fits state ≡ true = rw t at e.known in
      let u : m ≡ unpacked state = rw t at e.machine in
      let l : eqb (length state) state_words ≡ true = eq-eqb (length state) state_words (fitting state f).long in
      let n : new ≡ packed y.machine = rw l at z.1 in
      rw (n, ← k) (leaves-left state common private c q y (unpacked state) (offer (world (unpacked state) common private)) r (packed-unpacked state f) (rw u at g) z.0)

-- ---- the checks, one after the other
pub known_says : (u : Option Machine) (state : List ℕ) (x : Result Machine Refusal) → u ≡ unpacked_if state → x ≡ ok_or u Unsound → Says x (unknown state) state
unfolding unpacked_if
known_says u state x e f =
    split (fits state)
    (λ t. rw (f, e, t) (record { reply = refl; known = t; machine = refl }))
    (λ t. rw (f, e, t) (record { reply = refl; known = tt; machine = tt }))

abbrev sound_of : Option Machine → Result Machine Refusal
sound_of (Some m) = if (sound m) (Ok m) (Err Unsound)
sound_of None = Err Unsound

pub sound_says : (u : Option Machine) (state : List ℕ) (x : Result Machine Refusal) → u ≡ unpacked_if state → x ≡ sound_of u → Says x (not_sound state) state
unfolding unpacked_if
sound_says u state x e f =
    split (fits state)
    (λ t. split (sound (unpacked state))
    (λ s. rw (f, e, t, s) (record { reply = refl; known = t; machine = refl }))
    (λ s. rw (f, e, t, s) (record { reply = refl; known = tt; machine = tt })))
    (λ t. rw (f, e, t) (record { reply = refl; known = tt; machine = tt }))

-- a check that refuses ends them; one that passes hands them on
pub ends_them : (r : Refusal) (row rows : Reply) (x : Result Machine Refusal) (state : List ℕ) → refused_by r ≡ row → IsErrAnd x (λ z. z ≡ r) → Says x (row then rows) state
ends_them r row rows x state e o = rw (err_is x r o, ← e) (record { reply = refl; known = tt; machine = tt })

pub ends_last : (r : Refusal) (row : Reply) (x : Result Machine Refusal) (state : List ℕ) → refused_by r ≡ row → IsErrAnd x (λ z. z ≡ r) → Says x row state
ends_last r row x state e o = rw (err_is x r o, ← e) (record { reply = refl; known = tt; machine = tt })

pub goes_on : (row rows : Reply) (x : Result Machine Refusal) (state : List ℕ) → taken [] ≡ row → Says x rows state → Says x (row then rows) state
goes_on row rows x state e s = rw (← e) s

pub ruleset asking = (ends_them, ends_last, goes_on)
