-- "Show that two outcomes fitting it are equal": over what the code returns, and the contracts as they stand
use Rattle.std.specs.Prelude.{◌≡◌, Bool, ◌&&◌, List, Result, ℕ, ◌<◌, ltb, length, set}
use Rattle.word.specs.declared.Fault.{Fault}
use Rattle.word.specs.Word.{Reckoned, said}
use Rattle.image.specs.declared.head.Header.{Header}
use Rattle.image.specs.declared.table.Refusal.{Refusal}
use Rattle.image.specs.Refusal.{Reply, check_says}
use Rattle.image.specs.Read.{read_says, reading, code_after}
use Rattle.image.specs.Write.{write_says, writing, bytes_after}
use Rattle.machine.specs.declared.Queue.{Queue}
use Rattle.machine.specs.declared.Gate.{Gate}
use Rattle.machine.specs.declared.Process.{Process}
use Rattle.machine.specs.declared.Machine.{Machine}
use Rattle.machine.specs.declared.classes.Selection.{Selection}
use Rattle.machine.specs.State.{proc}
use Rattle.machine.specs.Classes.{best, select}
use Rattle.machine.specs.Parts.{afterwards}
use Rattle.machine.specs.Gate.{may_enter, may_leave, may_continue, may_delay}
use Rattle.machine.specs.Call.{stop_answer}

-- at most one result fits
abbrev pub OneFits : {A : Type 0} → (A → Type 0) → Type 0
OneFits {A} Fits = (r r' : A) → Fits r → Fits r' → r ≡ r'

-- ---- word: each of its functions answers what a definition says
abbrev pub SameAnswer : Type 0
SameAnswer = (r r' : Result ℕ Fault) (o : Reckoned) → said r ≡ o → said r' ≡ o → r ≡ r'

-- ---- image: what `check_room` and `examine` answer
abbrev pub SameCheck : Type 0
SameCheck = (r r' : Result (Unit {0}) Refusal) (o : Reply) → check_says r ≡ o → check_says r' ≡ o → r ≡ r'

abbrev pub SameRead : Type 0
SameRead = (r r' : Result Header Refusal) (o : Reply) → read_says r ≡ o → read_says r' ≡ o → r ≡ r'

-- reading: the answer and the code buffer after it
abbrev pub FitsReading : List ℕ → List ℕ → Result Header Refusal → List ℕ → Type 0
FitsReading bytes code r after = (read_says r ≡ reading bytes (length code)) × (after ≡ code_after bytes code)

abbrev pub SameReading : Type 0
SameReading =
    (bytes code : List ℕ) (r r' : Result Header Refusal) (after after' : List ℕ)
    → FitsReading bytes code r after
    → FitsReading bytes code r' after'
    → (r ≡ r') × (after ≡ after')

-- writing: the answer and the output after it
abbrev pub FitsWriting : Header → List ℕ → List ℕ → Result ℕ Refusal → List ℕ → Type 0
FitsWriting h code out r after = (write_says r ≡ writing h (length code) (length out)) × (after ≡ bytes_after h code out)

abbrev pub SameWriting : Type 0
SameWriting =
    (h : Header) (code out : List ℕ) (r r' : Result ℕ Refusal) (after after' : List ℕ)
    → FitsWriting h code out r after
    → FitsWriting h code out r' after'
    → (r ≡ r') × (after ≡ after')

-- ---- machine: `selected` and `is_better_ready`, promised for every machine that has these parts
abbrev pub FitsSelected : List Queue → ℕ → ℕ → ℕ → Bool → Selection → Type 0
FitsSelected ready i class count mark r =
    (m : Machine) → m.ready ≡ ready → m.running ≡ i → (i < 10 → (proc m i).class ≡ class) → m.count ≡ count → m.mark ≡ mark
    → afterwards m r ≡ select m

abbrev pub SameSelected : Type 0
SameSelected = (ready : List Queue) (i class count : ℕ) (mark : Bool) → OneFits (FitsSelected ready i class count mark)

abbrev pub FitsBetter : List Queue → ℕ → Bool → Type 0
FitsBetter ready class r = (m : Machine) → m.ready ≡ ready → r ≡ (ltb (best m) class && ltb (best m) 3)

abbrev pub SameBetter : Type 0
SameBetter = (ready : List Queue) (class : ℕ) → OneFits (FitsBetter ready class)

-- ---- moves: `may_enter`, `may_leave`, `may_continue`, `may_delay` and `stop_answer`, promised likewise
abbrev pub FitsEnter : Process → ℕ → List Gate → ℕ → ℕ → Bool → Type 0
FitsEnter p i gates made g r =
    (m : Machine) → m.running ≡ i → proc m m.running ≡ p → m.gates ≡ gates → m.made ≡ made → r ≡ may_enter m g

abbrev pub FitsLeave : Process → ℕ → ℕ → Bool → Type 0
FitsLeave p made g r = (m : Machine) → proc m m.running ≡ p → m.made ≡ made → r ≡ may_leave m g

abbrev pub FitsContinue : Process → ℕ → ℕ → ℕ → Bool → Type 0
FitsContinue p made g c r = (m : Machine) → proc m m.running ≡ p → m.made ≡ made → r ≡ may_continue m g c

abbrev pub FitsDelay : Process → List Gate → ℕ → ℕ → ℕ → Bool → Type 0
FitsDelay p gates made g c r =
    (m : Machine) → proc m m.running ≡ p → m.gates ≡ gates → m.made ≡ made → r ≡ may_delay m g c

abbrev pub SameMay : Type 0
SameMay =
    (p : Process) (i : ℕ) (gates : List Gate) (made g c : ℕ)
    → OneFits (FitsEnter p i gates made g)
    × OneFits (FitsLeave p made g)
    × OneFits (FitsContinue p made g c)
    × OneFits (FitsDelay p gates made g c)

abbrev pub FitsStopAnswer : List Process → ℕ → Process → ℕ → ℕ → ℕ → ℕ → Type 0
FitsStopAnswer processes i p created q reason r =
    (m : Machine) → m.processes ≡ set processes i p → m.created ≡ created → r ≡ stop_answer m q reason

abbrev pub SameStopAnswer : Type 0
SameStopAnswer =
    (processes : List Process) (i : ℕ) (p : Process) (created q reason : ℕ) → OneFits (FitsStopAnswer processes i p created q reason)
