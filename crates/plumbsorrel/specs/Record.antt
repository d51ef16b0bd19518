-- The record of a busy device, copied out
use Rattle.std.specs.Prelude.{Bool, ◌||◌, not, List, ◌++◌, ℕ, ltb, length, drop}
use Rattle.image.specs.Refusal.{Reply, ◌then◌}
use Rattle.image.specs.Read.{refuse, refusal10, written}
use Rattle.machine.specs.Device.{is_busy, record_of}
use Rattle.machine.specs.Offer.{stores_fit}
use Rattle.layout.specs.Layout.{unpacked}
use Rattle.run.specs.Said.{world}
use Rattle.plumbsorrel.specs.Number.{reply_number}
use Rattle.plumbsorrel.specs.Offers.{words_sound}

-- 6, 7, 9 and 10 in the table's order; the stop of a machine is no reason to refuse it
abbrev pub asks_record : Bool → Bool → ℕ → Bool → ℕ → Reply
asks_record stores sound d busy room =
    refuse 6 (not stores)
    then refuse 7 (not sound)
    then refuse 9 (ltb 4 d || not busy)
    then refusal10 room 4

unfoldable pub record_checks : ℕ → List ℕ → List ℕ → List ℕ → ℕ → Reply
record_checks d common private state room =
    asks_record (stores_fit common private) (words_sound state) d (is_busy (unpacked state) d) room

-- the four words stand first; the rest stays, and all of it where it is refused
abbrev pub record_after : ℕ → List ℕ → List ℕ → List ℕ → List ℕ → List ℕ
record_after d common private state out =
    written (record_checks d common private state (length out)) (record_of (world (unpacked state) common private) d ++ drop 4 out) out

-- the number that is answered, and the output after it
pub record RecordLeft : Type 0 where
  pub number : ℕ
  pub out : List ℕ

abbrev pub record_leaves : ℕ → List ℕ → RecordLeft
record_leaves number out = record { number = number; out = out }

abbrev pub c_record : ℕ → List ℕ → List ℕ → List ℕ → List ℕ → RecordLeft
c_record d common private state out =
    record_leaves (reply_number (record_checks d common private state (length out))) (record_after d common private state out)
