-- KTRAP k by its number, and the done event: why the code's tests are those of the definitions
use mathlib.Core.Path.{◌≡◌, refl, sym, ap, ◌∙◌}
use mathlib.Core.Bool.{Bool, true, false, ◌&&◌}
use mathlib.Core.List.{List}
use Prim.Native.Nat.{ℕ, ◌≤◌, ◌<◌}
use native.Mathlib.Omega.{arith}
use borrow.Author.Rules.{rules}
use lib.Dec.{ltb, eqb}
use lib.ListN.{length, length-set}
use borrow.Author.Tests.{ltb-true, eq-eqb, ne_eqb}
use Rattle.notation.proofs.Upto.{never, NoneOf, none-past}
use Rattle.machine.specs.declared.Gate.{Gate}
use Rattle.machine.specs.declared.Process.{Process}
use Rattle.machine.specs.declared.Machine.{Machine}
use Rattle.machine.specs.State.{nobody, device}
use Rattle.machine.specs.Store.{World, whole}
use Rattle.machine.specs.Classes.{select}
use Rattle.machine.specs.Device.{device_end, recorded, device_done}
use Rattle.machine.specs.Call.{stops, kernel}
use Rattle.machine.specs.Offer.{stores_fit}
use Rattle.kernel.specs.declared.caller.Caller.{Caller}
use Rattle.kernel.specs.declared.answer.Act.TheVariants.{Unfit}
use Rattle.kernel.specs.declared.answer.Decision.{Decision}
use Rattle.std.specs.Prelude.{Result, Ok, Err, MatchResult}
use Rattle.word.specs.declared.Fault.{Fault}
use Rattle.kernel.specs.Did.{answered, world, Able, able, caller_of, traps, ends, CallOf, CallDecided}
use Rattle.kernel.proofs.Laws.{same_process}

-- ---- past all numbers there is no call
pub no_call : (w : World) (k : ℕ) → NoneOf k 12 → kernel w k ≡ stops 7
unfolding kernel
no_call w k h =
    let far : 12 ≤ k = none-past k 12 h in
    let off : (j : ℕ) → ltb j 12 ≡ true → eqb k j ≡ false = λ j l. ne_eqb k j (omega (arith, ltb-true j 12 l)) in
    rw (off 0 refl, off 1 refl, off 2 refl, off 3 refl, off 4 refl, off 5 refl, off 6 refl, off 7 refl, off 8 refl, off 9 refl, off 10 refl, off 11 refl)

-- ---- what the test at the door tells
pub able_of : (who : Caller) → able who ≡ true → Able who
able_of who e = search rules

pub was_answered : (who : Caller) (r : Result Decision Fault) (x : Decision) {Q : Fault → Type 0} → ((f : Fault) → Q f → x ≡ answered who (Err f)) → MatchResult r (λ d. x ≡ d) Q → x ≡ answered who r
was_answered who (Ok d) x g h = h
was_answered who (Err f) x g h = g f h

module _ (who : Caller) (processes : List Process) (gates : List Gate) (k : ℕ) (x : Decision) (c q : List ℕ) where
  pub decides_unfit : x ≡ record { process = who.process; act = Unfit } → stores_fit c q && able who ≡ false → CallDecided who processes gates k x c c q q
  unfolding traps
  decides_unfit e f =
      (λ m t p g. let z : stores_fit c q && able (caller_of m) ≡ false = rw t at f in rw (z, e, t, same_process m), λ a. (e, refl, refl))

  -- who is told of the processes, and runs, is told of a place that there is
  pub decides_call : {c' q' : List ℕ} → length c ≡ 2048 → length q ≡ 20480 → able who ≡ true → length processes ≡ 10 → CallOf who processes gates k x c c' q q'
      → CallDecided who processes gates k x c c' q q'
  unfolding traps
  decides_call lc lq a long f = (
    λ m t p g.
        let z : able (caller_of m) ≡ true = rw t at a in
        let n : length m.processes ≡ 10 = ap length p ∙ length-set processes who.number who.process ∙ long in
        let there : m.running < length m.processes = rw (n, ← ap (λ (w : Caller). w.number) t) (able_of who a).runs in
        rw (eq-eqb (length c) 2048 lc, eq-eqb (length q) 20480 lq, z) (f m (record { caller = t; there = there }) p g),
    λ b. never (sym a ∙ b),
  )

-- ---- the done event
module _ (m : Machine) (d status arg : ℕ) (c q : List ℕ) where
  abbrev ended : Bool
  ended = whole (device m d).address && ltb (device m d).process nobody

  pub done_ends_lem : (c' q' : List ℕ) → stores_fit c q && ltb d 5 ≡ true → ended ≡ true → world m c' q' ≡ recorded (world m c q) d status arg
      → world (select (device_end m d)) c' q' ≡ ends (world m c q) d status arg
  unfolding ends device_done
  done_ends_lem c' q' f a r = rw (f, a, ← r)

  pub done_unable : stores_fit c q && ltb d 5 ≡ true → ended ≡ false → world m c q ≡ ends (world m c q) d status arg
  unfolding ends
  done_unable f a = rw (f, a)

  pub done_unfit : stores_fit c q && ltb d 5 ≡ false → world m c q ≡ ends (world m c q) d status arg
  unfolding ends
  done_unfit f = rw f
