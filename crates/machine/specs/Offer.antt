-- What the world may offer: a step, a run, a tick, a done, a bell. Each is taken, or refused by its number in the table's order
use Rattle.std.specs.Prelude.{Bool, ◌&&◌, ◌||◌, not, List, [], ◌∷◌, ℕ, ltb, eqb, length}
use Rattle.image.specs.Refusal.{Reply, taken, refused, ◌then◌}
use Rattle.image.specs.Read.{refuse}
use Rattle.machine.specs.declared.Machine.{Machine}
use Rattle.machine.specs.State.{going}
use Rattle.machine.specs.Store.{World}
use Rattle.machine.specs.Sound.{sound}
use Rattle.machine.specs.Clock.{tick, bell}
use Rattle.machine.specs.Device.{is_busy, device_done}
use Rattle.machine.specs.Step.{Stepped, stepped, onward, with_machine, step}
use Rattle.machine.specs.Run.{run}

-- 6: a lent store has the wrong length, or the code is not n words
abbrev pub lengths_fit : ℕ → ℕ → Bool
lengths_fit common private = eqb common 2048 && eqb private 20480

abbrev pub stores_fit : List ℕ → List ℕ → Bool
stores_fit common private = lengths_fit (length common) (length private)

abbrev pub refusal6 : World → Reply
refusal6 w = refuse 6 (not (stores_fit w.common w.private))

abbrev pub refusal6_code : List ℕ → World → Reply
refusal6_code code w = refuse 6 (not (stores_fit w.common w.private && eqb (length code) w.machine.length))

-- 7: state not sound; 8: machine stopped
abbrev pub refusal7 : Machine → Reply
refusal7 m = refuse 7 (not (sound m))

abbrev pub refusal8 : Machine → Reply
refusal8 m = refuse 8 (not (eqb m.stop going))

-- 9: bad done event: status above 6, no such device, device not busy
abbrev pub refusal9 : Machine → ℕ → ℕ → Reply
refusal9 m d status = refuse 9 (ltb 6 status || ltb 4 d || not (is_busy m d))

-- an offer that is taken does its work; one that is refused changes nothing
pub data Offered : Type 0 where
  did : Stepped → Offered
  refuses : ℕ → Offered

abbrev pub offered : Reply → Stepped → Offered
offered (taken vs) s = did s
offered (refused k vs) s = refuses k

unfoldable pub offer_step : List ℕ → World → Offered
offer_step code w = offered (refusal6_code code w then refusal7 w.machine then refusal8 w.machine) (step code w)

unfoldable pub offer_run : List ℕ → ℕ → World → Offered
offer_run code budget w = offered (refusal6_code code w then refusal7 w.machine then refusal8 w.machine) (run code budget w)

-- tick and bell are lent no store
unfoldable pub offer_tick : World → Offered
offer_tick w = offered (refusal7 w.machine then refusal8 w.machine) (stepped (with_machine w (tick w.machine)) onward 0)

unfoldable pub offer_bell : World → Offered
offer_bell w = offered (refusal7 w.machine then refusal8 w.machine) (stepped (with_machine w (bell w.machine)) onward 0)

unfoldable pub offer_done : World → ℕ → ℕ → ℕ → Offered
offer_done w d status arg =
    offered
    (refusal6 w then refusal7 w.machine then refusal8 w.machine then refusal9 w.machine d status)
    (stepped (device_done w d status arg) onward 0)

-- the world after an offer
abbrev pub after : World → Offered → World
after w (did s) = s.world
after w (refuses k) = w

-- ---- what may be offered one by one
pub data Offer : Type 0 where
  a_step : Offer
  a_tick : Offer
  a_done : ℕ → ℕ → ℕ → Offer
  a_bell : Offer

unfoldable pub offer : List ℕ → World → Offer → Offered
offer code w a_step = offer_step code w
offer code w a_tick = offer_tick w
offer code w (a_done d status arg) = offer_done w d status arg
offer code w a_bell = offer_bell w

-- any list of them, one after the other
unfoldable pub after_all : List ℕ → World → List Offer → World
after_all code w [] = w
after_all code w (x ∷ xs) = after_all code (after w (offer code w x)) xs
