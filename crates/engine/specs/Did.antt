-- What the engine's functions see and answer, in the words of the definitions
use Rattle.std.specs.Prelude.{◌≡◌, Bool, List, ℕ, Result, Ok, Err}
use Rattle.word.specs.Word.{number_of}
use Rattle.word.specs.declared.Fault.{Fault as Faults}
use Rattle.machine.specs.declared.Regs.{Regs}
use Rattle.machine.specs.View.{View, next, faults, calls, Effect, effect}
use Rattle.engine.specs.declared.sight.Sight.{Sight}
use Rattle.engine.specs.declared.sight.Stop.{Stop}
use Rattle.engine.specs.declared.sight.Stop.TheVariants.{Fault, Call}

-- what an instruction sees, made of a burst's parameters, and of an instruction's with the two stores
abbrev pub seen : List ℕ → ℕ → Bool → Regs → List ℕ → List ℕ → View
seen code floor holding r common own =
    record { code = code; floor = floor; holding = holding; regs = r; common = common; own = own }

abbrev pub sees : Sight → List ℕ → List ℕ → View
sees v common own = seen v.code.now v.floor v.holding v.regs common own

-- the cases of the code's answer, with the stores after it: of any instruction, and of one that calls no kernel
abbrev pub did : Result Regs Stop → List ℕ → List ℕ → Effect
did (Ok r) c q = effect (next r) c q
did (Err (Fault f)) c q = effect (faults (number_of f)) c q
did (Err (Call k)) c q = effect (calls k) c q

abbrev pub went : Result Regs Faults → List ℕ → List ℕ → Effect
went (Ok r) c q = effect (next r) c q
went (Err f) c q = effect (faults (number_of f)) c q

-- of KTRAP
abbrev pub traps : Result ℕ Faults → List ℕ → List ℕ → Effect
traps (Ok k) c q = effect (calls k) c q
traps (Err f) c q = effect (faults (number_of f)) c q

-- ---- a function that is passed no store, or the process's own part alone, does what the definition does, whatever the rest is
abbrev pub OnRegs : Result Regs Faults → Sight → (View → Effect) → Type 0
OnRegs o v f = (c q : List ℕ) → went o c q ≡ f (sees v c q)

abbrev pub OnOwn : Result Regs Faults → Sight → List ℕ → List ℕ → (View → Effect) → Type 0
OnOwn o v q q' f = (c : List ℕ) → went o c q' ≡ f (sees v c q)

abbrev pub OnStores : Result Regs Faults → Sight → List ℕ → List ℕ → List ℕ → List ℕ → (View → Effect) → Type 0
OnStores o v c c' q q' f = went o c' q' ≡ f (sees v c q)
