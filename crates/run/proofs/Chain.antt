-- The table's checks one after the other, and what a door answers when one refuses or all pass
use mathlib.Core.Path.{◌≡◌, refl, sym, subst, ◌∙◌}
use mathlib.Core.Bool.{Bool, true, false, not, ◌&&◌, ◌||◌, and-false}
use mathlib.Core.List.{List, []}
use Prim.Native.Nat.{ℕ, ◌≤◌, ◌<◌}
use native.Mathlib.Omega.{arith}
use lib.Dec.{ltb, eqb}
use lib.ListN.{length}
use borrow.Author.Tests.{ltb-false, lt-ltb, eqb-true, not-false}
use Rattle.notation.specs.Upto.{all_to}
use Rattle.notation.proofs.Upto.{both, neither, all_at}
use Rattle.image.specs.declared.table.Refusal.{Refusal}
use Rattle.std.specs.Prelude.{Result, Ok, Err}
use Rattle.image.specs.Refusal.{Reply, taken, refused as refusedR, named, refused_by, ◌then◌, check_says}
use Rattle.image.specs.Read.{refuse}
use Rattle.image.proofs.Laws.{passed, both_taken, chain as checks, cases}
use Rattle.machine.specs.declared.Machine.{Machine}
use Rattle.machine.specs.State.{going, device}
use Rattle.machine.specs.Store.{World, whole}
use Rattle.machine.specs.Device.{is_busy, device_done}
use Rattle.machine.specs.Sound.{sound, device_ok}
use Rattle.machine.specs.Step.{Stepped, stepped, onward}
use Rattle.machine.specs.Offer.{stores_fit, refusal7, refusal8, refusal9, offered, offer_done, offer_run}
use Rattle.machine.specs.Run.{run}
use Rattle.machine.specs.Shape.{Shaped}
use Rattle.notation.proofs.Test.{part}
use Rattle.kernel.specs.Did.{ends as doneBy}
use Rattle.run.specs.Said.{world, answer_of, ends, outcome, run_outcome, done_outcome}
use Rattle.run.specs.Ran.{Accepted}

-- ---- rows 6 to 9 name nothing beside their number
abbrev pub NamesNone : Reply → Type 0
NamesNone (taken vs) = Unit {0}
NamesNone (refusedR n vs) = vs ≡ []

row_names_none : (n : ℕ) (bad : Bool) → NamesNone (refuse n bad)
row_names_none n true = refl
row_names_none n false = tt

then_names_none : (a b : Reply) → NamesNone a → NamesNone b → NamesNone (a then b)
then_names_none (taken vs) b p q = q
then_names_none (refusedR n vs) b p q = p

pub state_names_none : (m : Machine) → NamesNone (refusal7 m then refusal8 m)
state_names_none m =
    then_names_none (refusal7 m) (refusal8 m) (row_names_none 7 (not (sound m))) (row_names_none 8 (not (eqb m.stop going)))

pub event_names_none : (bad : Bool) (m : Machine) (d status : ℕ) → NamesNone (refuse 6 bad then refusal7 m then refusal8 m then refusal9 m d status)
event_names_none bad m d status =
    let nine : NamesNone (refusal9 m d status) = row_names_none 9 (ltb 6 status || ltb 4 d || not (is_busy m d)) in
    let eight : NamesNone (refusal8 m then refusal9 m d status) =
    then_names_none (refusal8 m) (refusal9 m d status) (row_names_none 8 (not (eqb m.stop going))) nine in
    let seven : NamesNone (refusal7 m then refusal8 m then refusal9 m d status) =
    then_names_none (refusal7 m) (refusal8 m then refusal9 m d status) (row_names_none 7 (not (sound m))) eight in
    then_names_none (refuse 6 bad) (refusal7 m then refusal8 m then refusal9 m d status) (row_names_none 6 bad) seven

-- ---- what a door answers: a refusal by its number, changing nothing; else the work is done
module _ (k : Result (Unit {0}) Refusal) (r : Reply) (e : check_says k ≡ r) where
  names-none : NamesNone r → (x : Refusal) → k ≡ Err x → named x ≡ []
  names-none p x t = let z : refused_by x ≡ r = rw t at e in subst NamesNone (sym z) p

  pub refuses : NamesNone r → (x : Refusal) (w : World) (s : Stepped) → k ≡ Err x → record { world = w; answered = answer_of (Err x); count = 0 } ≡ outcome w (offered r s)
  refuses p x w s t = rw (← e, t, names-none p x t)

  pub takes : (w : World) (s : Stepped) → k ≡ Ok tt → record { world = s.world; answered = ends s.ended; count = s.count } ≡ outcome w (offered r s)
  takes w s t = rw (← e, t)

  -- an event counts no instruction
  pub happens : (w v : World) → k ≡ Ok tt → record { world = v; answered = ends onward; count = 0 } ≡ outcome w (offered r (stepped v onward 0))
  happens w v t = rw (← e, t)

-- ---- the tests of the code
pub out : (m : Machine) (d status : ℕ) → ltb 6 status || ltb 4 d ≡ true → refusedR 9 [] ≡ refusal9 m d status
out m d status e = rw e

pub inside : (d status : ℕ) → ltb 6 status || ltb 4 d ≡ false → d ≤ 4
inside d status e = omega (arith, ltb-false 4 d (neither (ltb 6 status) (ltb 4 d) e).1)

pub busy_passes : (m : Machine) (d status : ℕ) → ltb 6 status || ltb 4 d ≡ false → is_busy m d ≡ true → taken [] ≡ refusal9 m d status
busy_passes m d status e b = rw (e, b)

pub idle-fails : (m : Machine) (d status : ℕ) → ltb 6 status || ltb 4 d ≡ false → is_busy m d ≡ false → refusedR 9 [] ≡ refusal9 m d status
idle-fails m d status e b = rw (e, b)

-- row 6 in two parts; a row by its test
pub lent_parts : (a b : Bool) → refuse 6 (not (a && b)) ≡ (refuse 6 (not a) then refuse 6 (not b))
lent_parts true b = refl
lent_parts false b = refl

pub ruleset by_rows = (checks, cases, lent_parts)

pub ruleset done = (out, inside, busy_passes, idle-fails)

-- ---- what is known of a done event that passed
pub record Event (m : Machine) (d status : ℕ) (c q : List ℕ) : Type 0 where
  pub stores : stores_fit c q ≡ true
  pub sound : sound m ≡ true
  pub device : d ≤ 4
  pub busy : is_busy m d ≡ true

module _ (k : Result (Unit {0}) Refusal) (m : Machine) (d status : ℕ) (c q : List ℕ) where
  abbrev chain : Reply
  chain = refuse 6 (not (stores_fit c q)) then refusal7 m then refusal8 m then refusal9 m d status

  pub event_passed : check_says k ≡ chain → k ≡ Ok tt → Event m d status c q
  event_passed h t =
      let e : taken [] ≡ chain = rw t at h in
      let a = both_taken [] (refuse 6 (not (stores_fit c q))) (refusal7 m then refusal8 m then refusal9 m d status) e in
      let b = both_taken [] (refusal7 m) (refusal8 m then refusal9 m d status) a.1 in
      let b' = both_taken [] (refusal8 m) (refusal9 m d status) b.1 in
      let z = neither (ltb 6 status || ltb 4 d) (not (is_busy m d)) (passed 9 (ltb 6 status || ltb 4 d || not (is_busy m d)) [] b'.1) in
      let y = neither (ltb 6 status) (ltb 4 d) z.0 in
      record {
        stores = not-false (stores_fit c q) (passed 6 (not (stores_fit c q)) _ a.0.1);
        sound = not-false (sound m) (passed 7 (not (sound m)) _ b.0.1);
        device = omega (arith, ltb-false 4 d y.1);
        busy = not-false (is_busy m d) z.1;
      }

device-whole : (m : Machine) (d : ℕ) → sound m ≡ true → d < 5 → is_busy m d ≡ true → whole (device m d).address ≡ true
unfolding sound device_ok
device-whole m d ok l busy =
    let a = part (all_to (device_ok m) 5) ok (λ t. simp (t, and-false)) in
    let b = all_at (device_ok m) 5 d a l in
    part (whole (device m d).address) b (λ t. simp (busy, t, and-false))

pub event_done : (m : Machine) (d status arg : ℕ) (c q : List ℕ) → Event m d status c q → doneBy (world m c q) d status arg ≡ device_done (world m c q) d status arg
unfolding doneBy
event_done m d status arg c q v =
    let l : d < 5 = omega (arith, v.device) in
    rw (v.stores, lt-ltb d 5 l, device-whole m d v.sound l v.busy, v.busy)

pub event_taken : (k : Result (Unit {0}) Refusal) (m : Machine) (d status : ℕ) (c q : List ℕ) → check_says k ≡ (refuse 6 (not (stores_fit c q)) then refusal7 m then refusal8 m then refusal9 m d status) → k ≡ Ok tt
    → (arg : ℕ) (x : Machine) (c' q' : List ℕ) → world x c' q' ≡ doneBy (world m c q) d status arg
    → record { world = world x c' q'; answered = ends onward; count = 0 } ≡ done_outcome d status arg (world m c q)
unfolding offer_done
event_taken k m d status c q h t arg x c' q' e =
    let v = event_passed k m d status c q h t in
    rw (e ∙ event_done m d status arg c q v) (happens k _ h (world m c q) (device_done (world m c q) d status arg) t)

-- ---- a run whose checks have passed
module _ (code : List ℕ) (m : Machine) (c q : List ℕ) (k : Result (Unit {0}) Refusal) where
  abbrev lent : Bool
  lent = stores_fit c q && eqb (length code) m.length

  abbrev rows : Reply
  rows = refuse 6 (not lent) then refusal7 m then refusal8 m

  pub run_names_none : NamesNone rows
  run_names_none = then_names_none (refuse 6 (not lent)) (refusal7 m then refusal8 m) (row_names_none 6 (not lent)) (state_names_none m)

  pub run-accepted : check_says k ≡ rows → k ≡ Ok tt → Shaped m → Accepted code (world m c q)
  run-accepted e t shape =
      let a : taken [] ≡ rows = rw t at e in
      let b = both_taken [] (refuse 6 (not lent)) (refusal7 m then refusal8 m) a in
      let z = both (stores_fit c q) (eqb (length code) m.length) (not-false lent (passed 6 (not lent) _ b.0.1)) in
      record {
        shape = shape;
        sound = not-false (sound m) (passed 7 (not (sound m)) _ (both_taken [] (refusal7 m) (refusal8 m) b.1).0.1);
        stores = z.0;
        long = eqb-true (length code) m.length z.1;
      }

  pub run-takes : check_says k ≡ rows → k ≡ Ok tt → (budget : ℕ) (s : Stepped) → s ≡ run code budget (world m c q) → record { world = s.world; answered = ends s.ended; count = s.count } ≡ run_outcome code budget (world m c q)
  unfolding offer_run
  run-takes e t budget s h = rw h (takes k rows e (world m c q) (run code budget (world m c q)) t)

  pub run-refuses : check_says k ≡ rows → (x : Refusal) → k ≡ Err x → (budget : ℕ) → record { world = world m c q; answered = answer_of (Err x); count = 0 } ≡ run_outcome code budget (world m c q)
  unfolding offer_run
  run-refuses e x t budget = refuses k rows e run_names_none x (world m c q) (run code budget (world m c q)) t
