-- Two outcomes that fit the contract of a burst, of an offer or of loading are equal: what the code returns, and what it leaves in
-- the slices that it is lent
use Rattle.std.specs.Prelude.{◌≡◌, List, Result, ℕ}
use Rattle.image.specs.declared.table.Refusal.{Refusal}
use Rattle.engine.specs.declared.burst.Burst.{Burst}
use Rattle.engine.specs.Burst.{Bursted, burst_says}
use Rattle.run.specs.declared.answer.Offered.{Offered}
use Rattle.run.specs.declared.loading.Loaded.{Loaded}
use Rattle.run.specs.Said.{Outcome, given}
use Rattle.run.specs.Loaded.{LoadOutcome, load_gives}

-- a burst, with both stores after it
abbrev pub SameBurst : Type 0
SameBurst =
    (o : Bursted) (r r' : Burst) (common common' own own' : List ℕ)
    → burst_says r common own ≡ o
    → burst_says r' common' own' ≡ o
    → (r ≡ r') × (common ≡ common') × (own ≡ own')

-- a step, a run, a tick, a bell or a done, with both stores after it
abbrev pub SameOffered : Type 0
SameOffered =
    (o : Outcome) (r r' : Offered) (common common' private private' : List ℕ)
    → given r common private ≡ o
    → given r' common' private' ≡ o
    → (r ≡ r') × (common ≡ common') × (private ≡ private')

-- loading, with the code buffer and both stores after it
abbrev pub SameLoaded : Type 0
SameLoaded =
    (o : LoadOutcome) (r r' : Result Loaded Refusal) (code code' common common' private private' : List ℕ)
    → load_gives r code common private ≡ o
    → load_gives r' code' common' private' ≡ o
    → (r ≡ r') × (code ≡ code') × (common ≡ common') × (private ≡ private')
