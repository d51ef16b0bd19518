-- "Loading clears both stores; process 0 runs at address 0, class 2, stack empty, all counters 0"
use Rattle.std.specs.Prelude.{not, List, ℕ, length, replicate}
use Rattle.notation.specs.Upto.{laid}
use Rattle.image.specs.Refusal.{Reply, taken, refused}
use Rattle.image.specs.Block.{word_at}
use Rattle.image.specs.Header.{header_of}
use Rattle.image.specs.Read.{refuse, checks, code_at}
use Rattle.machine.specs.State.{fresh}
use Rattle.machine.specs.Store.{World}
use Rattle.machine.specs.Offer.{stores_fit}

-- refusals 1 to 6 and 10 in the table's order
abbrev pub load_checks : List ℕ → List ℕ → List ℕ → List ℕ → Reply
load_checks bytes common private code = checks bytes (refuse 6 (not (stores_fit common private))) (length code)

-- the fresh machine with both stores cleared, and the code buffer; or the refusal, with its number and what it names
pub data Loading : Type 0 where
  loaded : World → List ℕ → Loading
  unloaded : ℕ → List ℕ → Loading

abbrev pub loaded_by : Reply → Loading → Loading
loaded_by (taken vs) x = x
loaded_by (refused k vs) x = unloaded k vs

unfoldable pub loads : List ℕ → List ℕ → List ℕ → List ℕ → Loading
loads bytes common private code =
    loaded_by (load_checks bytes common private code)
    (loaded
    (record { machine = fresh (header_of bytes); common = replicate 2048 0; private = replicate 20480 0 })
    (laid (code_at bytes) (word_at bytes 2) code))

-- the stores and the code buffer after an offer to load; a refusal changes nothing
abbrev pub common_after : Loading → List ℕ → List ℕ
common_after (loaded w c) common = w.common
common_after (unloaded k vs) common = common

abbrev pub private_after : Loading → List ℕ → List ℕ
private_after (loaded w c) private = w.private
private_after (unloaded k vs) private = private

abbrev pub buffer_after : Loading → List ℕ → List ℕ
buffer_after (loaded w c) code = c
buffer_after (unloaded k vs) code = code
