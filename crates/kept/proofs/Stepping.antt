-- A step from a state that accepts it leads to a state that accepts the next, until the machine stops
use mathlib.Core.Path.{◌≡◌, refl, sym, ◌∙◌}
use mathlib.Core.Bool.{Bool, true, false, ◌&&◌, not, and-false}
use mathlib.Core.List.{List}
use Prim.Native.Nat.{ℕ, ◌*◌, ◌<◌, ◌≤◌}
use native.Mathlib.Omega.{arith}
use lib.Dec.{eqb}
use lib.ListN.{length}
use borrow.Author.Tests.{lt-leb, le-leb, eqb-true, eq-eqb}
use Rattle.notation.proofs.Upto.{both}
use Rattle.image.specs.Refusal.{◌then◌}
use Rattle.image.specs.Read.{refuse}
use Rattle.machine.specs.State.{nobody, going, proc}
use Rattle.machine.specs.Store.{World}
use Rattle.machine.specs.View.{Out, next, faults, calls, Effect}
use Rattle.machine.specs.Instruction.{instruct}
use Rattle.machine.specs.Call.{Called}
use Rattle.machine.specs.Step.{view, Ended, onward, idle, starting, Stepped, stepped, selected, halted, called, resulted, step}
use Rattle.machine.specs.Sound.{sound}
use Rattle.machine.specs.Run.{run}
use Rattle.machine.specs.Offer.{stores_fit, refusal6_code, refusal7, refusal8, did, offered, offer_step, offer_run}
use Rattle.laws.specs.Marks.{Fit}
use Rattle.machine.specs.Shape.{Shaped}
use Rattle.laws.proofs.Runs.{running_fit}
use Rattle.laws.proofs.Marks.{stores_kept}
use Rattle.kept.proofs.SoundKept.{step_good}
use Rattle.kept.proofs.Fixed.{fixed_select}
use Rattle.kept.proofs.Spares.{by_fixed, spared_running, Kept, Keeps, goes, begins, halts, length_part, keeps}
use Rattle.notation.proofs.Test.{equal}

-- the state is sound, and the stores and the code are of their lengths
pub record Able (code : List ℕ) (w : World) : Type 0 where
  pub shape : Shaped w.machine
  pub sound : sound w.machine ≡ true
  pub stores : stores_fit w.common w.private ≡ true
  pub long : length code ≡ w.machine.length

-- ---- what a step keeps where somebody runs
pub record Moved (w : World) (s : Stepped) : Type 0 where
  pub count : s.count ≡ 1
  pub busy : s.ended ≡ idle → ⊥
  pub goes : s.ended ≡ onward → s.world.machine.stop ≡ w.machine.stop
  pub code : s.world.machine.length ≡ w.machine.length
  pub common : length s.world.common ≡ length w.common
  pub private : length s.world.private ≡ length w.private
  pub created : w.machine.created ≤ s.world.machine.created
  pub regs : (q : ℕ) → q < w.machine.created → (q ≡ w.machine.running → ⊥) → ((proc w.machine q).regs.reason ≡ 0 → ⊥)
      → (proc s.world.machine q).regs ≡ (proc w.machine q).regs

selected_kept : {w v : World} → Kept w v → Kept w (selected v)
selected_kept k = record { machine = by_fixed k.machine (fixed_select _); common = k.common; private = k.private }

module _ (w : World) where
  halted-moved : (f : ℕ) → Moved w (halted w f)
  unfolding halted
  halted-moved f =
      record {
        count = refl;
        busy = λ e. let z : ◌≡◌ {A = ℕ} 0 1 = cc in omega arith;
        goes = λ e. let z : ◌≡◌ {A = ℕ} 0 1 = cc in absurd (omega arith);
        code = refl;
        common = refl;
        private = refl;
        created = omega arith;
        regs = λ q l n r. refl;
      }

  kept_moved : {v : World} (e : Ended) → (e ≡ idle → ⊥) → Kept w v → Moved w (stepped v e 1)
  kept_moved e b k =
      record {
        count = refl;
        busy = b;
        goes = λ _. k.machine.stop;
        code = k.machine.length;
        common = k.common;
        private = k.private;
        created = k.machine.created;
        regs = k.machine.regs;
      }

  on_busy : onward ≡ idle → ⊥
  on_busy e = let z : ◌≡◌ {A = ℕ} 0 1 = cc in omega arith

  called-moved : {c : Called} → Keeps w c → Moved w (called w c)
  called-moved (goes k) = kept_moved onward on_busy (selected_kept k)
  called-moved (begins d k) = kept_moved (starting d) (λ e. let z : ◌≡◌ {A = ℕ} 0 1 = cc in omega arith) (selected_kept k)
  called-moved (halts f) = halted-moved f

  resulted-moved : (o : Out) (common own : List ℕ) → length common ≡ length w.common → length own ≡ 2048 → length w.private ≡ 20480
      → w.machine.running < nobody → Moved w (resulted w o common own)
  resulted-moved (next r) common own c l long few =
      kept_moved onward on_busy
      (selected_kept (record { machine = spared_running w.machine _; common = c; private = length_part (2048 * w.machine.running) own w.private l (omega arith) }))
  resulted-moved (faults f) common own c l long few = halted-moved f
  resulted-moved (calls k) common own c l long few = called-moved (keeps w k long)

-- ---- a step from a state that accepts it
module _ (code : List ℕ) (w : World) (able : Able code w) where
  pub all_fit : stores_fit w.common w.private && eqb (length code) w.machine.length ≡ true
  all_fit = rw (able.stores, eq-eqb (length code) _ able.long)

  pub common-long : length w.common ≡ 2048
  common-long = equal (length w.common) 2048 able.stores (λ t. rw t)

  pub private-long : length w.private ≡ 20480
  private-long = equal (length w.private) 20480 able.stores (λ t. simp (t, and-false))

  pub able-fit : w.machine.running < nobody → Fit (view code w)
  able-fit runs = running_fit code w all_fit able.sound runs

  pub step-moved : w.machine.running < nobody → Moved w (step code w)
  unfolding step
  step-moved runs =
      let d : Effect = instruct (view code w) in
      let k = stores_kept (view code w) (able-fit runs) in
      rw (lt-leb nobody w.machine.running runs)
      (resulted-moved w d.out d.common d.own (k.0 ∙ sym common-long) k.1 private-long runs)

  pub able_again : w.machine.running < nobody → Able code (step code w).world
  able_again runs =
      let g = step_good w (able.shape, able.sound) code all_fit in
      let k = step-moved runs in
      record {
        shape = g.0;
        sound = g.1;
        stores = rw (k.common, k.private) able.stores;
        long = able.long ∙ sym k.code;
      }

  -- it is offered and taken while the machine goes on
  pub step-taken : w.machine.stop ≡ going → offer_step code w ≡ did (step code w)
  unfolding offer_step
  step-taken e = rw (all_fit, able.sound, eq-eqb _ going e)

-- ---- an offer of a step or a run that was taken: the state accepted it
taken_of : (f s g : Bool) (x y : Stepped) → offered (refuse 6 (not f) then refuse 7 (not s) then refuse 8 (not g)) x ≡ did y
    → (f ≡ true) × (s ≡ true) × (g ≡ true) × (x ≡ y)
taken_of true true true x y e = (refl, refl, refl, cc)
taken_of true true false x y e = let z : ◌≡◌ {A = ℕ} 0 1 = cc in absurd (omega arith)
taken_of true false g x y e = let z : ◌≡◌ {A = ℕ} 0 1 = cc in absurd (omega arith)
taken_of false s g x y e = let z : ◌≡◌ {A = ℕ} 0 1 = cc in absurd (omega arith)

pub record Took (code : List ℕ) (w : World) (x s : Stepped) : Type 0 where
  pub able : Able code w
  pub stop : w.machine.stop ≡ going
  pub same : x ≡ s

took : (code : List ℕ) (w : World) (x s : Stepped) → Shaped w.machine
    → offered (refusal6_code code w then refusal7 w.machine then refusal8 w.machine) x ≡ did s → Took code w x s
took code w x s shape e =
    let t = taken_of (stores_fit w.common w.private && eqb (length code) w.machine.length) (sound w.machine) (eqb w.machine.stop going) x s e in
    let b = both (stores_fit w.common w.private) _ t.0 in
    record {
      able = record { shape = shape; sound = t.1; stores = b.0; long = eqb-true _ _ b.1 };
      stop = eqb-true _ going t.2;
      same = t.3;
    }

pub step_took : (code : List ℕ) (w : World) (s : Stepped) → Shaped w.machine → offer_step code w ≡ did s → Took code w (step code w) s
unfolding offer_step
step_took code w s shape e = took code w (step code w) s shape e

pub run_took : (code : List ℕ) (budget : ℕ) (w : World) (s : Stepped) → Shaped w.machine → offer_run code budget w ≡ did s
    → Took code w (run code budget w) s
unfolding offer_run
run_took code budget w s shape e = took code w (run code budget w) s shape e

-- an idle machine
pub idle-step : (code : List ℕ) (w : World) → nobody ≤ w.machine.running → step code w ≡ stepped w idle 0
unfolding step
idle-step code w h = rw (le-leb nobody w.machine.running h)
