-- What the code returns can be read off what it says, so two that say the same are equal
use mathlib.Core.Path.{◌≡◌, refl, sym, ap, ◌∙◌}
use mathlib.Core.List.{List}
use Prim.Native.Nat.{ℕ}
use Rattle.std.specs.Prelude.{Result, Ok, Err}
use Rattle.image.specs.declared.table.Refusal.{Refusal}
use Rattle.image.specs.Refusal.{Reply, taken, refused as declined}
use Rattle.machine.specs.declared.Machine.{Machine}
use Rattle.machine.specs.declared.Regs.{Regs}
use Rattle.machine.specs.Step.{Ended, onward, idle, starting, stopped}
use Rattle.engine.specs.declared.burst.Burst.{Burst}
use Rattle.engine.specs.declared.burst.End.{End as BurstEnd}
use Rattle.engine.specs.declared.burst.End.TheVariants.{Budget, Call, Fault, Job, Unfit}
use Rattle.engine.specs.Burst.{Ending, at_budget, at_call, at_fault, at_jobs_end, unfit, Bursted, end_says, burst_says}
use Rattle.run.specs.declared.answer.Ended.{Ended as End}
use Rattle.run.specs.declared.answer.Ended.TheVariants.{Onward, Idle, Starting, Stopped}
use Rattle.run.specs.declared.answer.Offered.{Offered}
use Rattle.run.specs.declared.loading.Loaded.{Loaded}
use Rattle.run.specs.Said.{end_of, Answered, ends, refused, answer_of, Outcome, given}
use Rattle.run.specs.Loaded.{LoadOutcome, load_gives}
use Rattle.exact.specs.SameRun.{SameBurst, SameOffered, SameLoaded}
use Rattle.exact.proofs.Same.{fault_of, fault_said, refusal_of, refusal_said, header_from}

-- ---- a burst
abbrev burst_end_lem : Ending → BurstEnd
burst_end_lem at_budget = Budget
burst_end_lem (at_call k) = Call k
burst_end_lem (at_fault f) = Fault (fault_of f)
burst_end_lem at_jobs_end = Job
burst_end_lem unfit = Unfit

burst_end : (e : BurstEnd) → burst_end_lem (end_says e) ≡ e
burst_end Budget = refl
burst_end (Call k) = refl
burst_end (Fault f) = ap Fault (fault_said f)
burst_end Job = refl
burst_end Unfit = refl

abbrev burst : Regs → ℕ → BurstEnd → Burst
burst r k e = record { regs = r; count = k; end = e }

abbrev burst_of : Bursted → Burst
burst_of o = burst o.regs o.count (burst_end_lem o.ending)

burst_said : (r : Burst) (c q : List ℕ) → burst_of (burst_says r c q) ≡ r
burst_said r c q = ap (λ (e : BurstEnd). burst r.regs r.count e) (burst_end r.end)

pub same_burst : SameBurst
same_burst o r r' c c' q q' e e' =
    let z : burst_says r c q ≡ burst_says r' c' q' = e ∙ sym e' in
    (sym (burst_said r c q) ∙ ap burst_of z ∙ burst_said r' c' q', ap (λ (y : Bursted). y.common) z, ap (λ (y : Bursted). y.own) z)

-- ---- an offer
abbrev end_as : Ended → End
end_as onward = Onward
end_as idle = Idle
end_as (starting d) = Starting d
end_as stopped = Stopped

end-said : (e : End) → end_as (end_of e) ≡ e
end-said Onward = refl
end-said Idle = refl
end-said (Starting d) = refl
end-said Stopped = refl

abbrev reply_as : Answered → Result End Refusal
reply_as (ends e) = Ok (end_as e)
reply_as (refused k vs) = Err (refusal_of k vs)

reply-said : (a : Result End Refusal) → reply_as (answer_of a) ≡ a
reply-said (Ok e) = ap Ok (end-said e)
reply-said (Err r) = ap Err (refusal_said r)

abbrev made : Machine → Result End Refusal → ℕ → Offered
made m a k = record { machine = m; reply = a; count = k }

abbrev given_as : Outcome → Offered
given_as o = made o.world.machine (reply_as o.answered) o.count

given-said : (r : Offered) (c q : List ℕ) → given_as (given r c q) ≡ r
given-said r c q = ap (λ (a : Result End Refusal). made r.machine a r.count) (reply-said r.reply)

pub same-offered : SameOffered
same-offered o r r' c c' q q' e e' =
    let z : given r c q ≡ given r' c' q' = e ∙ sym e' in
    (sym (given-said r c q) ∙ ap given_as z ∙ given-said r' c' q', ap (λ (y : Outcome). y.world.common) z, ap (λ (y : Outcome). y.world.private) z)

-- ---- loading
abbrev loaded_by : Machine → Reply → Result Loaded Refusal
loaded_by m (taken vs) = Ok (record { machine = m; header = header_from vs })
loaded_by m (declined n vs) = Err (refusal_of n vs)

abbrev loaded_as : LoadOutcome → Result Loaded Refusal
loaded_as o = loaded_by o.after.machine o.reply

loaded-said : (r : Result Loaded Refusal) (b c q : List ℕ) → loaded_as (load_gives r b c q) ≡ r
loaded-said (Ok x) b c q = refl
loaded-said (Err e) b c q = ap Err (refusal_said e)

-- the buffer and the stores after it are what is told, whatever the answer
after_is :
    (r : Result Loaded Refusal) (b c q : List ℕ) →
    let o : LoadOutcome = load_gives r b c q in
    (o.after.code ≡ b) × (o.after.common ≡ c) × (o.after.private ≡ q)
after_is (Ok x) b c q = (refl, refl, refl)
after_is (Err e) b c q = (refl, refl, refl)

pub same-loaded : SameLoaded
same-loaded o r r' b b' c c' q q' e e' =
    let z : load_gives r b c q ≡ load_gives r' b' c' q' = e ∙ sym e' in
    let a = after_is r b c q in
    let a' = after_is r' b' c' q' in (
      sym (loaded-said r b c q) ∙ ap loaded_as z ∙ loaded-said r' b' c' q',
      sym a.0 ∙ ap (λ (y : LoadOutcome). y.after.code) z ∙ a'.0,
      sym a.1 ∙ ap (λ (y : LoadOutcome). y.after.common) z ∙ a'.1,
      sym a.2 ∙ ap (λ (y : LoadOutcome). y.after.private) z ∙ a'.2,
    )
