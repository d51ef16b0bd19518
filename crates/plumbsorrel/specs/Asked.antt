-- What the code's checks answer before an offer
use Rattle.std.specs.Prelude.{◌≡◌, true, not, List, [], ℕ, Result, Ok, Err, IfOk}
use Rattle.image.specs.declared.table.Refusal.{Refusal}
use Rattle.image.specs.Refusal.{Reply, taken, refused_by}
use Rattle.image.specs.Read.{refuse}
use Rattle.machine.specs.declared.Machine.{Machine}
use Rattle.layout.specs.Layout.{unpacked, fits}
use Rattle.plumbsorrel.specs.Offers.{words_sound}

abbrev pub reply_of : Result Machine Refusal → Reply
reply_of (Ok m) = taken []
reply_of (Err r) = refused_by r

-- the refusal of the rows, or the machine of words that are a machine's
pub record Says (x : Result Machine Refusal) (rows : Reply) (state : List ℕ) : Type 0 where
  pub reply : reply_of x ≡ rows
  pub known : IfOk x (λ m. fits state ≡ true)
  pub machine : IfOk x (λ m. m ≡ unpacked state)

-- 7 for words that no machine packs to, and for those of a machine that is not sound
abbrev pub not_sound : List ℕ → Reply
not_sound state = refuse 7 (not (words_sound state))
