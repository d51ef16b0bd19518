-- Loading and writing images
use Rattle.std.specs.Prelude.{List, ◌++◌, ℕ, ◌+◌, ◌*◌, length, get_or, drop}
use Rattle.image.specs.declared.head.Header.{Header}
use Rattle.image.specs.Refusal.{◌then◌}
use Rattle.image.specs.Read.{refusal10}
use Rattle.image.specs.Write.{writing, bytes_after}
use Rattle.machine.specs.Load.{Loading, loaded, unloaded, loaded_by, load_checks, loads}
use Rattle.layout.specs.Layout.{packed, state_words}
use Rattle.plumbsorrel.specs.Number.{reply_number}

abbrev pub header : ℕ → ℕ → ℕ → ℕ → Header
header edition length devices variables =
    record { edition = edition; length = length; devices = devices; variables = variables }

-- the number that loading answers, and the code buffer, both stores and the state's words after it
pub record LoadLeft : Type 0 where
  pub number : ℕ
  pub code : List ℕ
  pub common : List ℕ
  pub private : List ℕ
  pub state : List ℕ

abbrev pub load_leaves : ℕ → List ℕ → List ℕ → List ℕ → List ℕ → LoadLeft
load_leaves number code common private state =
    record { number = number; code = code; common = common; private = private; state = state }

-- n, with the words of the fresh machine first in the state; a refusal changes nothing, and its number stands with the block that
-- it names
abbrev pub load_left : List ℕ → List ℕ → List ℕ → List ℕ → Loading → LoadLeft
load_left code common private state (loaded w c) =
    load_leaves (256 * w.machine.length) c w.common w.private (packed w.machine ++ drop state_words state)
load_left code common private state (unloaded k vs) = load_leaves (k + 256 * get_or vs 0 0) code common private state

-- the state is an output of loading: 10 where it has fewer words than a state has; of more, only so many are touched
unfoldable pub c_load : List ℕ → List ℕ → List ℕ → List ℕ → List ℕ → LoadLeft
c_load bytes code common private state =
    load_left code common private state
    (loaded_by (load_checks bytes common private code then refusal10 (length state) state_words) (loads bytes common private code))

-- ---- writing: the number that it answers, and the output after it
pub record WriteLeft : Type 0 where
  pub number : ℕ
  pub out : List ℕ

abbrev pub write_leaves : ℕ → List ℕ → WriteLeft
write_leaves number out = record { number = number; out = out }

abbrev pub c_write : Header → List ℕ → List ℕ → WriteLeft
c_write h code out = write_leaves (reply_number (writing h (length code) (length out))) (bytes_after h code out)
