-- What loading answers and leaves, in the words of the definitions
use Rattle.std.specs.Prelude.{List, ℕ, length, replicate, Result, Ok, Err}
use Rattle.image.specs.declared.head.Header.{Header}
use Rattle.image.specs.declared.table.Refusal.{Refusal}
use Rattle.image.specs.Refusal.{Reply, taken, refused, refused_by}
use Rattle.image.specs.Header.{fields, header_of}
use Rattle.image.specs.Read.{copied}
use Rattle.machine.specs.declared.Machine.{Machine}
use Rattle.machine.specs.State.{fresh}
use Rattle.machine.specs.Load.{Loading, loaded, unloaded, loads}
use Rattle.run.specs.declared.loading.Loaded.{Loaded}

-- ---- the fresh machine of a header, the code buffer and both stores cleared
pub record SetUp : Type 0 where
  pub machine : Machine
  pub code : List ℕ
  pub common : List ℕ
  pub private : List ℕ

abbrev pub set_up : Machine → List ℕ → List ℕ → List ℕ → SetUp
set_up m code common private = record { machine = m; code = code; common = common; private = private }

abbrev pub after_set_up : List ℕ → Header → List ℕ → List ℕ → List ℕ → SetUp
after_set_up bytes h code common private =
    set_up (fresh h) (copied bytes h.length code) (replicate (length common) 0) (replicate (length private) 0)

-- ---- the answer, the machine, the code buffer and both stores after an offer to load
pub record LoadOutcome : Type 0 where
  pub reply : Reply
  pub after : SetUp

-- where the image is refused there is no machine: the fresh one of an empty header stands for it here, and nothing changes
abbrev pub empty : Header
empty = record { edition = 0; length = 0; devices = 0; variables = 0 }

abbrev pub load_gives : Result Loaded Refusal → List ℕ → List ℕ → List ℕ → LoadOutcome
load_gives (Ok x) code common private = record { reply = taken (fields x.header); after = set_up x.machine code common private }
load_gives (Err r) code common private = record { reply = refused_by r; after = set_up (fresh empty) code common private }

abbrev pub load_left : List ℕ → List ℕ → List ℕ → List ℕ → Loading → LoadOutcome
load_left bytes code common private (loaded w c) =
    record { reply = taken (fields (header_of bytes)); after = set_up w.machine c w.common w.private }
load_left bytes code common private (unloaded k vs) =
    record { reply = refused k vs; after = set_up (fresh empty) code common private }

abbrev pub load_outcome : List ℕ → List ℕ → List ℕ → List ℕ → LoadOutcome
load_outcome bytes code common private = load_left bytes code common private (loads bytes common private code)
