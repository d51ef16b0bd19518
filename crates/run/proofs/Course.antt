-- A run as its turns: what is left to do gives the same end
use mathlib.Core.Path.{◌≡◌, refl, sym, ap, subst, ◌∙◌}
use mathlib.Core.Bool.{Bool, true, false}
use mathlib.Core.List.{List}
use Prim.Native.Nat.{ℕ, zero, suc, ◌+◌, ◌-◌, ◌<◌, ◌≤◌}
use native.Mathlib.Omega.{arith}
use Rattle.machine.specs.declared.Machine.{Machine}
use Rattle.machine.specs.State.{nobody, with_process}
use Rattle.machine.specs.Classes.{select, selects}
use Rattle.machine.specs.Store.{World}
use Rattle.machine.specs.Step.{Ended, onward, idle, starting, stopped, Stepped, stepped, selected, step}
use Rattle.machine.specs.Run.{run, goes_on}
use Rattle.machine.specs.Offer.{offer_step, offer_run}
use Rattle.notation.specs.If.{if}
use Rattle.kernel.specs.declared.answer.Decision.{Decision}
use Rattle.kernel.specs.Did.{decided, performed, end_of as endOfAct}
use Rattle.run.specs.declared.answer.Ended.{Ended as End}
use Rattle.run.specs.declared.answer.Ended.TheVariants.{Onward, Idle, Starting, Stopped}
use Rattle.run.specs.declared.answer.Ran.{Ran}
use Rattle.run.specs.Turn.{later, turn, quota_of}
use Rattle.run.specs.Turns.{Turns}
use Rattle.run.specs.Said.{world, end_of}
use Rattle.run.specs.Ran.{ran, is_onward, is_stopped, Accepted, settled}
use Rattle.run.proofs.Turns.{turn-run, idle-run}

-- ---- after what was decided, the selection, where it changes the machine
pub not_selecting : (n : Machine) → selects n ≡ false → select n ≡ n
unfolding select
not_selecting n e = rw e

if_same : (b : Bool) (n : Machine) → n ≡ if b n n
if_same true n = refl
if_same false n = refl

pub unless_selects : (b : Bool) (n : Machine) → selects n ≡ false → n ≡ if b n (select n)
unless_selects b n e = rw (not_selecting n e) (if_same b n)

pub when_stopped : (e : End) (n k : Machine) → e ≡ Stopped → n ≡ if (is_stopped (end_of e)) n k
when_stopped e n k s = rw s

settles_by : (b : Bool) (n : Machine) (c q : List ℕ) → world (if b n (select n)) c q ≡ if b (world n c q) (selected (world n c q))
settles_by true n c q = refl
settles_by false n c q = refl

pub ran_on : (m : Machine) (d : Decision) (c q : List ℕ) (count : ℕ) (s : Stepped) → settled (decided m d c q) count ≡ s
    → (e : End) → end_of e ≡ endOfAct d.act
    → (n : Machine) → n ≡ performed (with_process m m.running d.process) d.act
    → (n' : Machine) → n' ≡ if (is_stopped (end_of e)) n (select n)
    → ran (record { machine = n'; ended = e; count = count }) c q ≡ s
ran_on m d c q count s h e f n g n' l = rw (l, settles_by (is_stopped (end_of e)) n c q, f, g) h

pub onward_is : (e : End) → e ≡ Onward → is_onward e ≡ true
onward_is e s = rw s

pub other_is : (e : End) → (e ≡ Onward → ⊥) → is_onward e ≡ false
other_is Onward h = absurd (h refl)
other_is Idle h = refl
other_is (Starting d) h = refl
other_is Stopped h = refl

abbrev pub Left : List ℕ → ℕ → World → ℕ → World → Type 0
Left code budget w₀ count w = (count ≤ budget) × Accepted code w × (run code budget w₀ ≡ later count (run code (budget - count) w))

not_onward : (e : End) (s more : Stepped) → is_onward e ≡ false → goes_on (end_of e) s more ≡ s
not_onward Onward s more t = let z : ◌≡◌ {A = ℕ} 0 1 = cc in absurd (omega arith)
not_onward Idle s more t = refl
not_onward (Starting d) s more t = refl
not_onward Stopped s more t = refl

is_onward_lem : (e : End) (s more : Stepped) → is_onward e ≡ true → goes_on (end_of e) s more ≡ later s.count more
is_onward_lem Onward s more t = refl
is_onward_lem Idle s more t = let z : ◌≡◌ {A = ℕ} 0 1 = cc in absurd (omega arith)
is_onward_lem (Starting d) s more t = let z : ◌≡◌ {A = ℕ} 0 1 = cc in absurd (omega arith)
is_onward_lem Stopped s more t = let z : ◌≡◌ {A = ℕ} 0 1 = cc in absurd (omega arith)

idle-left : (code : List ℕ) (k : ℕ) (w : World) → 0 < k → nobody ≤ w.machine.running → run code k w ≡ stepped w idle 0
idle-left code zero w l r = absurd (omega arith)
idle-left code (suc k) w l r = idle-run code k w r

none_left : (code : List ℕ) (k : ℕ) (w : World) → k ≡ 0 → run code k w ≡ stepped w onward 0
unfolding run
none_left code zero w z = refl
none_left code (suc k) w z = absurd (omega arith)

module _ (code : List ℕ) (budget : ℕ) where
  pub begins : (w : World) → Accepted code w → Left code budget w 0 w
  begins w a =
      let z : budget - 0 ≡ budget = omega arith in
      let y : 0 + (run code budget w).count ≡ (run code budget w).count = omega arith in
      (omega arith, a, rw (z, y))

  module _ (w₀ : World) (count : ℕ) (m : Machine) (c q : List ℕ) (left : Left code budget w₀ count (world m c q)) where
    pub idles : count < budget → nobody ≤ m.running → stepped (world m c q) idle count ≡ run code budget w₀
    idles l r =
        let z : count + 0 ≡ count = omega arith in
        sym (left.2 ∙ (ap (later count) (idle-left code (budget - count) (world m c q) (omega arith) r) ∙ rw z))

    pub ends : budget ≤ count → stepped (world m c q) onward count ≡ run code budget w₀
    ends l =
        let z : count + 0 ≡ count = omega arith in
        sym (left.2 ∙ (ap (later count) (none_left code (budget - count) (world m c q) (omega arith)) ∙ rw z))

    module _ (l : count < budget) (r : m.running < nobody) where
      pub counts : (s : Stepped) → s ≡ turn code (quota_of m (budget - count)) (world m c q) → Turns code (budget - count) (world m c q) s
      counts s e =
          let a = left.1 in
          subst (λ (s : Stepped). Turns code (budget - count) (world m c q) s) (sym e)
          (turn-run code (budget - count) (world m c q) a.shape a.sound a.stores a.long r (omega arith))

      module _ (t : Ran) (c₁ q₁ : List ℕ) (e : ran t c₁ q₁ ≡ turn code (quota_of m (budget - count)) (world m c q)) where
        turned : Turns code (budget - count) (world m c q) (ran t c₁ q₁)
        turned = counts (ran t c₁ q₁) e

        pub stops : is_onward t.ended ≡ false → stepped (world t.machine c₁ q₁) (end_of t.ended) (count + t.count) ≡ run code budget w₀
        stops o = sym (left.2 ∙ ap (later count) (turned.law ∙ not_onward t.ended _ _ o))

        pub again : is_onward t.ended ≡ true → Left code budget w₀ (count + t.count) (world t.machine c₁ q₁)
        again o =
            let k = turned in
            let z : budget - count - t.count ≡ budget - (count + t.count) = omega arith in
            let rest : Stepped = run code (budget - (count + t.count)) (world t.machine c₁ q₁) in
            let y : count + (t.count + rest.count) ≡ count + t.count + rest.count = omega arith in
            let h : run code (budget - count) (world m c q) ≡ later t.count rest = rw z at (k.law ∙ is_onward_lem t.ended _ _ o) in (
              omega (arith, k.most),
              record { shape = k.shape; sound = k.whole; stores = k.stores; long = left.1.long ∙ sym k.length },
              left.2 ∙ (ap (later count) h ∙ rw y),
            )

-- a step is a run of one
alone : (e : Ended) (s : Stepped) → s.ended ≡ e → goes_on e s (stepped s.world onward 0) ≡ s
alone onward s h = let z : s.count + 0 ≡ s.count = omega arith in rw (z, ← h)
alone idle s h = refl
alone (starting d) s h = refl
alone stopped s h = refl

one-step : (code : List ℕ) (w : World) → run code 1 w ≡ step code w
unfolding run
one-step code w = alone (step code w).ended (step code w) refl

pub one-offer : (code : List ℕ) (w : World) → offer_run code 1 w ≡ offer_step code w
unfolding offer_run offer_step
one-offer code w = rw (one-step code w)
