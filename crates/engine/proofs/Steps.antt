-- One instruction: a code that is none, the settling of a fault, and the ways that the definition takes
use mathlib.Core.Path.{◌≡◌, refl, sym, ap, ◌∙◌}
use mathlib.Core.Bool.{Bool, true, false, ◌&&◌, not, and-true, and-false}
use mathlib.Core.List.{List}
use Prim.Native.Nat.{ℕ, ◌≤◌, ◌<◌}
use native.Mathlib.Omega.{arith}
use lib.Dec.{ltb, eqb}
use borrow.Author.Tests.{ltb-true, lt-ltb, le-ltb, ne_eqb, le-leb, lt-leb}
use Rattle.notation.proofs.Upto.{NoneOf, none-past}
use Rattle.word.specs.Word.{number_of}
use Rattle.machine.specs.View.{View, faults, Effect, effect, n, op, faulted}
use Rattle.machine.specs.Job.{end_job, takes_stop}
use Rattle.machine.specs.Instruction.{perform, execute, settled, instruct}
use Rattle.laws.proofs.Faults.{faults_keep}
use Rattle.std.specs.Prelude.{Result, Ok, Err}
use Rattle.machine.specs.declared.Regs.{Regs}
use Rattle.engine.specs.declared.sight.Stop.{Stop}
use Rattle.engine.specs.declared.sight.Stop.TheVariants.{Fault, Call}
use Rattle.engine.specs.Did.{seen, did}

-- ---- past all codes there is none
pub no_code : (v : View) (code : ℕ) → NoneOf code 29 → faulted v 7 ≡ perform v code
unfolding perform
no_code v code h =
    let far : 29 ≤ code = none-past code 29 h in
    let off : (k : ℕ) → ltb k 29 ≡ true → eqb code k ≡ false = λ k l. ne_eqb code k (omega (arith, ltb-true k 29 l)) in
    rw
    (off 0 refl, off 1 refl, off 2 refl, off 3 refl, off 4 refl, off 5 refl, off 6 refl, off 7 refl, off 8 refl, off 11 refl, le-leb 9 code (omega arith), lt-leb code 19 (omega arith), off 20 refl, off 21 refl, off 22 refl, off 23 refl, off 24 refl, off 25 refl, off 26 refl, off 27 refl, off 28 refl)

-- ---- a fault in a job ends the job
pub ends : (v : View) (f : ℕ) (d : Effect) → v.regs.in_job ≡ true → end_job v f ≡ settled v (faults f) d
ends v f d j = rw j

-- where perform answered a fault, both stores are as before, so it is settled on the view
pub settles : (v : View) (code : ℕ) (o : Result Regs Stop) (c q : List ℕ) → did o c q ≡ perform v code
    → settled (seen v.code v.floor v.holding v.regs c q) (did o c q).out (did o c q) ≡ settled v (perform v code).out (perform v code)
settles v code (Ok r) c q e = rw (← e)
settles v code (Err (Fault f)) c q e =
    let k : effect (faults (number_of f)) c q ≡ faulted v (number_of f) = e ∙ faults_keep v code (number_of f) (ap (λ d. d.out) (sym e)) in
    rw (← e, ap (λ d. d.common) k, ap (λ d. d.own) k)
settles v code (Err (Call k)) c q e = rw (← e)

-- ---- one instruction: past the code it faults; a stop is taken; or it does what its code says
pub past-code : (v : View) → n v ≤ v.regs.address → settled v (faults 7) (faulted v 7) ≡ instruct v
unfolding instruct execute takes_stop
past-code v h = simp (le-ltb _ _ h, and-false)

module _ (v : View) (h : v.regs.address < n v) where
  abbrev Stops : Bool
  Stops = v.regs.in_job && not (eqb v.regs.reason 0) && eqb (op v) 21

  stops : takes_stop v ≡ Stops
  unfolding takes_stop
  stops = simp (lt-ltb _ _ h, and-true)

  pub stopped : Stops ≡ true → end_job v v.regs.reason ≡ instruct v
  unfolding instruct
  stopped t = rw (stops, t)

  pub performed : Stops ≡ false → settled v (perform v (op v)).out (perform v (op v)) ≡ instruct v
  unfolding instruct execute
  performed t = rw (stops, t, lt-ltb _ _ h)
