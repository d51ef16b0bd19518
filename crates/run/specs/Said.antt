-- What the code answers, in the words of the definitions
use Rattle.std.specs.Prelude.{List, [], ℕ, Result, Ok, Err}
use Rattle.image.specs.declared.table.Refusal.{Refusal}
use Rattle.image.specs.Refusal.{number_of, named}
use Rattle.machine.specs.declared.Machine.{Machine}
use Rattle.machine.specs.Store.{World}
use Rattle.machine.specs.Step.{Ended, onward, idle, starting, stopped}
use Rattle.machine.specs.Offer.{Offered, did, refuses, offer_step, offer_run, offer_tick, offer_bell, offer_done}
use Rattle.run.specs.declared.answer.Ended.{Ended as End}
use Rattle.run.specs.declared.answer.Ended.TheVariants.{Onward, Idle, Starting, Stopped}
use Rattle.run.specs.declared.answer.Offered.{Offered as Given}

abbrev pub world : Machine → List ℕ → List ℕ → World
world m c q = record { machine = m; common = c; private = q }

-- the cases of the code
abbrev pub end_of : End → Ended
end_of Onward = onward
end_of Idle = idle
end_of (Starting d) = starting d
end_of Stopped = stopped

-- the answer: how it ended, or the refusal's number with the values that it names
pub data Answered : Type 0 where
  ends : Ended → Answered
  refused : ℕ → List ℕ → Answered

abbrev pub answer_of : Result End Refusal → Answered
answer_of (Ok e) = ends (end_of e)
answer_of (Err r) = refused (number_of r) (named r)

-- the world after an offer, the answer and the count
pub record Outcome : Type 0 where
  pub world : World
  pub answered : Answered
  pub count : ℕ

-- what the code gives, with the stores after it; and what the definition gives, whose refusals 6 to 9 name nothing
abbrev pub given : Given → List ℕ → List ℕ → Outcome
given x c q = record { world = world x.machine c q; answered = answer_of x.reply; count = x.count }

abbrev pub outcome : World → Offered → Outcome
outcome w (did s) = record { world = s.world; answered = ends s.ended; count = s.count }
outcome w (refuses k) = record { world = w; answered = refused k []; count = 0 }

-- ---- what each offer comes to
abbrev pub step_outcome : List ℕ → World → Outcome
step_outcome code w = outcome w (offer_step code w)

abbrev pub run_outcome : List ℕ → ℕ → World → Outcome
run_outcome code budget w = outcome w (offer_run code budget w)

abbrev pub tick_outcome : World → Outcome
tick_outcome w = outcome w (offer_tick w)

abbrev pub bell_outcome : World → Outcome
bell_outcome w = outcome w (offer_bell w)

abbrev pub done_outcome : ℕ → ℕ → ℕ → World → Outcome
done_outcome d status arg w = outcome w (offer_done w d status arg)
