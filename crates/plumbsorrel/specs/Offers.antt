-- Step, run, tick, bell and done on a state that is given as words
use Rattle.std.specs.Prelude.{Bool, true, false, ◌&&◌, not, List, [], ℕ, eqb, length, get_or}
use Rattle.notation.specs.If.{if}
use Rattle.image.specs.Refusal.{Reply, taken, refused, ◌then◌}
use Rattle.image.specs.Read.{refuse}
use Rattle.machine.specs.Store.{World}
use Rattle.machine.specs.Sound.{sound}
use Rattle.machine.specs.Offer.{Offered, did, refuses, stores_fit, offer_step, offer_run, offer_tick, offer_bell, offer_done}
use Rattle.layout.specs.Layout.{packed, unpacked, fits, state_words}
use Rattle.run.specs.Said.{world}
use Rattle.plumbsorrel.specs.Number.{taken_number}

-- the number that a call answers, and the state's words and both stores after it
pub record Left : Type 0 where
  pub number : ℕ
  pub state : List ℕ
  pub common : List ℕ
  pub private : List ℕ

abbrev pub leaves : ℕ → List ℕ → List ℕ → List ℕ → Left
leaves number state common private = record { number = number; state = state; common = common; private = private }

-- an offer that is taken leaves the words of the new machine and the new stores; one that is refused changes nothing
abbrev pub left : List ℕ → List ℕ → List ℕ → Offered → Left
left state common private (did s) =
    leaves (taken_number s.ended s.count) (packed s.world.machine) s.world.common s.world.private
left state common private (refuses k) = leaves k state common private

-- 7 for words that no machine packs to
abbrev pub unknown : List ℕ → Reply
unknown state = refuse 7 (not (fits state))

-- what is asked before the offer itself
abbrev pub firstly : Reply → Offered → Offered
firstly (taken vs) x = x
firstly (refused k vs) x = refuses k

-- an offer to the machine that the words say, after 6, for what is lent, and 7, for the words
abbrev pub crossed : List ℕ → List ℕ → List ℕ → Reply → (World → Offered) → Left
crossed state common private lent offer =
    left state common private (firstly (lent then unknown state) (offer (world (unpacked state) common private)))

-- 6: n is word 818 where there are as many words as a state has, else there is no n
abbrev pub lent_stores : List ℕ → List ℕ → Reply
lent_stores common private = refuse 6 (not (stores_fit common private))

abbrev pub code_fits : List ℕ → List ℕ → Bool
code_fits code state = if (eqb (length state) state_words) (eqb (length code) (get_or state 818 0)) true

abbrev pub lent_code : List ℕ → List ℕ → List ℕ → List ℕ → Reply
lent_code code common private state = refuse 6 (not (stores_fit common private && code_fits code state))

-- ---- a definition for each function; tick and bell are lent no store
unfoldable pub c_step : List ℕ → List ℕ → List ℕ → List ℕ → Left
c_step code common private state = crossed state common private (lent_code code common private state) (offer_step code)

unfoldable pub c_run : List ℕ → ℕ → List ℕ → List ℕ → List ℕ → Left
c_run code budget common private state = crossed state common private (lent_code code common private state) (offer_run code budget)

unfoldable pub c_tick : List ℕ → Left
c_tick state = crossed state [] [] (refuse 6 false) offer_tick

unfoldable pub c_bell : List ℕ → Left
c_bell state = crossed state [] [] (refuse 6 false) offer_bell

unfoldable pub c_done : ℕ → ℕ → ℕ → List ℕ → List ℕ → List ℕ → Left
c_done d status arg common private state =
    crossed state common private (lent_stores common private) (λ w. offer_done w d status arg)

-- words are sound where they are a machine's and that machine is
abbrev pub words_sound : List ℕ → Bool
words_sound state = fits state && sound (unpacked state)
