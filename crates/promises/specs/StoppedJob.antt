-- A job that was stopped never returns 0: its result is the stop's reason, or the number of the fault that ended it
use Rattle.std.specs.Prelude.{◌≡◌, Bool, true, false, ◌&&◌, ◌⊎◌, List, [], ◌∷◌, ℕ, ◌<◌, ◌≤◌, eqb, get_or}
use Rattle.machine.specs.State.{proc}
use Rattle.machine.specs.Store.{World, own}
use Rattle.machine.specs.Sound.{sound}
use Rattle.machine.specs.Call.{stack_word, stop_answer, kernel}
use Rattle.machine.specs.Step.{Stepped}
use Rattle.machine.specs.Offer.{did, after, Offer, a_step, offer, after_all}
use Rattle.machine.specs.Release.{is_completed, at_call}
use Rattle.machine.specs.Shape.{Shaped}

abbrev pub is_in_job : World → ℕ → Bool
is_in_job w q = (proc w.machine q).regs.in_job

-- in a sound machine, process q is in a job and a stop with the reason `why` is pending, however it came there
pub record Pending (why q : ℕ) (w : World) : Type 0 where
  pub shape : Shaped w.machine
  pub whole : sound w.machine ≡ true
  pub made : q < w.machine.created
  pub job : is_in_job w q ≡ true
  pub reason : (proc w.machine q).regs.reason ≡ why
  pub some : why ≡ 0 → ⊥

-- process q is in a job before the first of the offers, and after each
unfoldable pub stays_in_job : List ℕ → World → ℕ → List Offer → Bool
stays_in_job code w q [] = is_in_job w q
stays_in_job code w q (x ∷ xs) = is_in_job w q && stays_in_job code (after w (offer code w x)) q xs

-- the result, pushed where the job ends
abbrev pub result_of : World → ℕ → ℕ
result_of w q = get_or w.private (own q (proc w.machine q).regs.s) 0

-- whatever is offered from then on, up to the offer x that ends the job: what then holds of the world, of q and of the reason
abbrev pub WhenItEnds : (World → ℕ → ℕ → Type 0) → Type 0
WhenItEnds Says =
    (code : List ℕ) (w : World) (why q : ℕ) (xs : List Offer) (x : Offer)
    → Pending why q w
    → stays_in_job code w q xs ≡ true
    → is_in_job (after (after_all code w xs) (offer code (after_all code w xs) x)) q ≡ false
    → Says (after (after_all code w xs) (offer code (after_all code w xs) x)) q why

-- as long as the job goes on, the stop stays pending: so a list of offers may be cut anywhere
abbrev pub StillPending : Type 0
StillPending =
    (code : List ℕ) (w : World) (why q : ℕ) (xs : List Offer)
    → Pending why q w
    → stays_in_job code w q xs ≡ true
    → Pending why q (after_all code w xs)

-- the result is not 0; it is the reason, or the number of a fault
abbrev pub IsNot0 : World → ℕ → ℕ → Type 0
IsNot0 w q why = result_of w q ≡ 0 → ⊥

abbrev pub IsReasonOrFault : World → ℕ → ℕ → Type 0
IsReasonOrFault w q why = (result_of w q ≡ why) ⊎ ((1 ≤ result_of w q) × (result_of w q ≤ 9))

abbrev pub PendingJobNeverReturns0 : Type 0
PendingJobNeverReturns0 = WhenItEnds IsNot0

abbrev pub PendingJobReturns : Type 0
PendingJobReturns = WhenItEnds IsReasonOrFault

-- ---- a case of it: the step in which call 5 stopped the job
-- the next instruction of the running process is call 5 on process q, completed, with answer 0
abbrev pub answers0 : World → ℕ → Bool
answers0 w q = eqb (stop_answer w.machine q (stack_word w 0)) 0

unfoldable pub stops_job : List ℕ → World → ℕ → Bool
stops_job code w q = at_call code w (λ k. eqb k 5 && is_completed (kernel w k) && eqb (stack_word w 1) q && answers0 w q)

abbrev pub WhenStopped : (World → ℕ → ℕ → Type 0) → Type 0
WhenStopped Says =
    (code : List ℕ) (w : World) (q : ℕ) (s : Stepped) (xs : List Offer) (x : Offer)
    → Shaped w.machine
    → offer code w a_step ≡ did s
    → stops_job code w q ≡ true
    → stays_in_job code s.world q xs ≡ true
    → is_in_job (after (after_all code s.world xs) (offer code (after_all code s.world xs) x)) q ≡ false
    → Says (after (after_all code s.world xs) (offer code (after_all code s.world xs) x)) q (stack_word w 0)

abbrev pub StoppedJobNeverReturns0 : Type 0
StoppedJobNeverReturns0 = WhenStopped IsNot0

abbrev pub StoppedJobReturns : Type 0
StoppedJobReturns = WhenStopped IsReasonOrFault
