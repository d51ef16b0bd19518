-- A run is its turns: a turn is one or more steps, of which all but the last end onward
use mathlib.Core.Path.{◌≡◌, refl, sym, subst, ◌∙◌}
use mathlib.Core.Bool.{true, false, and-false}
use mathlib.Core.List.{List}
use Prim.Native.Nat.{ℕ, zero, suc, ◌+◌, ◌-◌, ◌*◌, ◌<◌, ◌≤◌}
use native.Mathlib.Omega.{arith}
use lib.ListN.{length}
use borrow.Author.Tests.{lt-leb, le-leb, eq-eqb}
use Rattle.notation.proofs.Upto.{split}
use Rattle.machine.specs.declared.Regs.{Regs}
use Rattle.machine.specs.State.{nobody, with_process}
use Rattle.machine.specs.Store.{World}
use Rattle.machine.specs.View.{View, Out, next, faults, calls, Effect}
use Rattle.machine.specs.Instruction.{instruct}
use Rattle.machine.specs.Classes.{selects}
use Rattle.machine.specs.Step.{view, Ended, onward, idle, starting, stopped, Stepped, stepped, resulted, step}
use Rattle.machine.specs.Run.{run, goes_on as thenOn}
use Rattle.notation.proofs.Test.{at_most}
use Rattle.laws.proofs.Marks.{stores_kept}
use Rattle.kept.proofs.Tested.{tested}
use Rattle.kept.proofs.Stepping.{Able, private-long, able-fit, step-moved, able_again, idle-step}
use Rattle.engine.specs.Burst.{Bursted, moved, job_over, follows as burstFollows, after, goes_on, fit, bursts}
use Rattle.run.specs.Turn.{put, later, turned, turn, quota_of}
use Rattle.run.specs.Turns.{TurnRun, IdleRun}
use Rattle.run.proofs.Parts.{put_same, put-selects, put-selected, put_view, put-put}

-- ---- up to k more steps, after c, which end as t: all but the last end onward
pub data Steps (code : List ℕ) : ℕ → ℕ → World → Stepped → Type 0 where
  last : {c k : ℕ} {w : World} → Able code w → w.machine.running < nobody → Steps code c (suc k) w (later c (step code w))
  more : {c k : ℕ} {w v : World} {t : Stepped} → Able code w → w.machine.running < nobody → step code w ≡ stepped v onward 1
      → Steps code (c + 1) k v t → Steps code c (suc k) w t

-- ---- a burst of a state that accepts a step
module _ (code : List ℕ) (w : World) (able : Able code w) (runs : w.machine.running < nobody) where
  abbrev pub v : View
  v = view code w

  abbrev pub d : Effect
  d = instruct v

  pub few : w.machine.running < length w.machine.processes
  few = omega (arith, able.shape.processes)

  pub room : 2048 * w.machine.running + 2048 ≤ length w.private
  room = omega (arith, private-long code w able)

  pub own-long : length d.own ≡ 2048
  own-long = (stores_kept v (able-fit code w able runs)).1

  one-step : (o : Out) → d.out ≡ o → step code w ≡ resulted w o d.common d.own
  unfolding step
  one-step o e = rw (lt-leb nobody w.machine.running runs, e)

  pub burst_step : (o : Out) → d.out ≡ o → (c k : ℕ) → goes_on c (suc k) v ≡ burstFollows o v d c (goes_on (c + 1) k (after o v d))
  unfolding goes_on
  burst_step o e c k = rw e

  -- it ends with this step
  ends_here : (c k : ℕ) {t : Stepped} → t ≡ later c (step code w) → Steps code c (suc k) w t
  ends_here c k e = rw e (last able runs)

  fault-ends : (f : ℕ) → d.out ≡ faults f → (c k : ℕ) → turned w (goes_on c (suc k) v) ≡ later c (step code w)
  fault-ends f e c k = rw (burst_step (faults f) e c k, one-step (faults f) e, put_same code w)

  call_ends_lem : (j : ℕ) → d.out ≡ calls j → (c k : ℕ) → turned w (goes_on c (suc k) v) ≡ later c (step code w)
  call_ends_lem j e c k = rw (burst_step (calls j) e c k, one-step (calls j) e, put_same code w)

  job-ends : (r : Regs) → d.out ≡ next r → job_over v.regs r ≡ true → (c k : ℕ) → turned w (goes_on c (suc k) v) ≡ later c (step code w)
  job-ends r e j c k = rw (burst_step (next r) e c k, j, one-step (next r) e)

  -- it is the only one
  one-ends : (r : Regs) → d.out ≡ next r → job_over v.regs r ≡ false → (c : ℕ) → turned w (goes_on c 1 v) ≡ later c (step code w)
  unfolding goes_on
  one-ends r e j c = rw (burst_step (next r) e c 0, j, one-step (next r) e)

  -- it goes on
  module _ (r : Regs) (e : d.out ≡ next r) (stays : selects w.machine ≡ false) where
    abbrev pub w' : World
    w' = put w r d.common d.own

    pub steps_on : step code w ≡ stepped w' onward 1
    steps_on = rw (one-step (next r) e, put-selected w r d.common d.own few stays)

    pub runs_on : w'.machine.running < nobody
    unfolding with_process
    runs_on = runs

    pub stays_on : selects w'.machine ≡ false
    stays_on = put-selects w r d.common d.own few ∙ stays

    turns_on : job_over v.regs r ≡ false → (c k : ℕ)
        → turned w (goes_on c (suc k) v) ≡ turned w' (goes_on (c + 1) k (view code w'))
    turns_on j c k =
        let x : Bursted = goes_on (c + 1) k (moved v r d.common d.own) in
        rw
        (burst_step (next r) e c k, j, put_view w r d.common d.own few own-long room code, put-put w r d.common d.own few own-long room x.regs x.common x.own)

-- ---- a turn is so many steps
abbrev Turned : List ℕ → ℕ → ℕ → World → Type 0
Turned code c k w = Steps code c k w (turned w (goes_on c k (view code w)))

-- one instruction; or one more, where nobody is to be selected
turn_one : (code : List ℕ) (w : World) → Able code w → w.machine.running < nobody → (c : ℕ) (o : Out) → (instruct (view code w)).out ≡ o
    → Turned code c 1 w
turn_one code w able runs c (faults f) e = ends_here code w able runs c 0 (fault-ends code w able runs f e c 0)
turn_one code w able runs c (calls j) e = ends_here code w able runs c 0 (call_ends_lem code w able runs j e c 0)
turn_one code w able runs c (next r) e =
    split (job_over (view code w).regs r)
    (λ j. ends_here code w able runs c 0 (job-ends code w able runs r e j c 0))
    (λ j. ends_here code w able runs c 0 (one-ends code w able runs r e j c))

turn_more : (code : List ℕ) (w : World) → Able code w → w.machine.running < nobody → selects w.machine ≡ false → (c k : ℕ)
    → ((w' : World) → Able code w' → w'.machine.running < nobody → selects w'.machine ≡ false → Turned code (c + 1) k w')
    → (o : Out) → (instruct (view code w)).out ≡ o → Turned code c (suc k) w
turn_more code w able runs stays c k rest (faults f) e = ends_here code w able runs c k (fault-ends code w able runs f e c k)
turn_more code w able runs stays c k rest (calls j) e = ends_here code w able runs c k (call_ends_lem code w able runs j e c k)
turn_more code w able runs stays c k rest (next r) e =
    split (job_over (view code w).regs r)
    (λ j. ends_here code w able runs c k (job-ends code w able runs r e j c k))
    (λ j.
    let s = steps_on code w able runs r e stays in
    let able' = subst (λ (x : Stepped). Able code x.world) s (able_again code w able runs) in
    rw (turns_on code w able runs r e stays j c k)
    (more able runs s (rest _ able' (runs_on code w able runs r e stays) (stays_on code w able runs r e stays))))

turn_all : (code : List ℕ) (k : ℕ) (w : World) → Able code w → w.machine.running < nobody → selects w.machine ≡ false → (c : ℕ)
    → Turned code c (suc k) w
turn_all code zero w able runs stays c = turn_one code w able runs c _ refl
turn_all code (suc k) w able runs stays c =
    turn_more code w able runs stays c (suc k) (λ w' a r s. turn_all code k w' a r s (c + 1)) _ refl

-- a sound state is fit for its burst
module _ (code : List ℕ) (w : World) (able : Able code w) (runs : w.machine.running < nobody) where
  pub is_fit : fit (view code w) ≡ true
  is_fit =
      let f = able-fit code w able runs in
      let o = f.ordered in
      let header = (tested w.machine able.shape able.sound).placed.numbers.header in
      let short = at_most w.machine.length 16256 header (λ t. simp (t, and-false)) in
      let few : length code ≤ 16256 = omega (arith, able.long) in
      rw (
        eq-eqb _ _ f.common,
        eq-eqb _ _ f.own,
        le-leb _ _ few,
        le-leb _ _ o.address,
        le-leb _ _ o.low,
        le-leb _ _ o.stack,
        le-leb _ _ o.frame,
        le-leb _ _ o.ceiling,
        o.job,
      )

  turn-steps : (budget : ℕ) → 0 < budget → Steps code 0 (quota_of w.machine budget) w (turn code (quota_of w.machine budget) w)
  unfolding turn bursts
  turn-steps zero l = absurd (omega arith)
  turn-steps (suc b) l =
      split (selects w.machine)
      (λ t. rw (t, is_fit) (turn_one code w able runs 0 _ refl))
      (λ t. rw (t, is_fit) (turn_all code b w able runs t 0))

-- ---- what such steps keep
steps-count : {code : List ℕ} {c k : ℕ} {w : World} {t : Stepped} → Steps code c k w t → (c < t.count) × (t.count ≤ c + k)
steps-count {code} (last {w = w} able runs) = let m = (step-moved code w able runs).count in (omega arith, omega arith)
steps-count (more able runs s rest) = let i = steps-count rest in (omega arith, omega arith)

steps-able : {code : List ℕ} {c k : ℕ} {w : World} {t : Stepped} → Steps code c k w t → Able code t.world
steps-able {code} (last {w = w} able runs) = able_again code w able runs
steps-able (more able runs s rest) = steps-able rest

-- ---- and a run is such steps and the rest
later-none : (s : Stepped) → s ≡ later 0 s
later-none s = let z : 0 + s.count ≡ s.count = omega arith in rw z

later-on : (e : Ended) (c : ℕ) (s rest : Stepped) → later c (thenOn e s rest) ≡ thenOn e (later c s) rest
later-on onward c s rest = let z : c + (s.count + rest.count) ≡ c + s.count + rest.count = omega arith in rw z
later-on idle c s rest = refl
later-on (starting d) c s rest = refl
later-on stopped c s rest = refl

steps-run : {code : List ℕ} {c k : ℕ} {w : World} {t : Stepped} → Steps code c k w t → (b : ℕ) → k ≤ b
    → later c (run code b w) ≡ thenOn t.ended t (run code (b + c - t.count) t.world)
unfolding run
steps-run (last able runs) zero l = absurd (omega arith)
steps-run {code} {c} (last {w = w} able runs) (suc b) l =
    let one = (step-moved code w able runs).count in
    let z : suc b + c - (c + (step code w).count) ≡ b = omega arith in
    rw z (later-on (step code w).ended c (step code w) (run code b (step code w).world))
steps-run (more able runs s rest) zero l = absurd (omega arith)
steps-run {code} {c} {t = t} (more {v = v} able runs s rest) (suc b) l =
    let i = steps-run rest b (omega arith) in
    let z : suc b + c - t.count ≡ b + (c + 1) - t.count = omega arith in
    let y : c + (1 + (run code b v).count) ≡ c + 1 + (run code b v).count = omega arith in
    rw (s, z, y) i

-- ---- the laws
pub turn-run : TurnRun
turn-run code budget w shape ok stores long runs l =
    let able : Able code w = record { shape = shape; sound = ok; stores = stores; long = long } in
    let count : ℕ = (turn code (quota_of w.machine budget) w).count in
    let steps = turn-steps code w able runs budget l in
    let quota : quota_of w.machine budget ≤ budget = split (selects w.machine) (λ t. rw t (omega arith)) (λ t. rw t (omega arith)) in
    let z : budget + 0 - count ≡ budget - count = omega arith in
    let counts = steps-count steps in
    let after = steps-able steps in
    record {
      law = later-none (run code budget w) ∙ (rw z at (steps-run steps budget quota));
      some = omega arith;
      most = omega arith;
      shape = after.shape;
      whole = after.sound;
      stores = after.stores;
      length = sym after.long ∙ long;
    }

pub idle-run : IdleRun
unfolding run
idle-run code budget w l = rw (idle-step code w l)
