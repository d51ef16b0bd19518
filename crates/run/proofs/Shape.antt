-- What the type of an array says of each element
use mathlib.Core.Path.{◌≡◌}
use mathlib.Core.List.{List, [], ◌∷◌}
use Prim.Native.Nat.{ℕ, zero, suc, ◌<◌}
use native.Mathlib.Omega.{arith}
use lib.ListN.{length, get_or}
use denote.Struct.Declared.{row}
use denote.RattleType.{RattleType}
use Rattle.machine.specs.State.{no_queue, no_process, no_gate}
use Rattle.machine.specs.declared.Machine.{Machine}
use Rattle.machine.specs.declared.Process.{Process}
use Rattle.machine.specs.declared.Gate.{Gate}
use Rattle.machine.specs.declared.Queue.{Queue}
use Rattle.machine.specs.contracts.Machine.{the_type}
use Rattle.machine.specs.contracts.Process as P
use Rattle.machine.specs.contracts.Gate as G
use Rattle.machine.specs.contracts.Queue as Q
use Rattle.machine.specs.Shape.{Shaped}
use mir.Val.{Val}
use base.Fml.{Fml}
use denote.Shadow.{shadow}
use denote.Array.{each}

module _ {A : Type 0} (f : A → List Val → Fml) (P : A → Type 0) (tells : (x : A) (u : Val) → shadow (f x (u ∷ [])) → P x) where
  pub each_at : (xs : List A) (us : List Val) → shadow (each A f xs us) → (q : ℕ) (none : A) → q < length xs → P (get_or xs q none)
  each_at [] us s q none l = absurd (omega arith)
  each_at (x ∷ xs) [] s q none l = absurd s
  each_at (x ∷ xs) (u ∷ us) s zero none l = tells x u s.0
  each_at (x ∷ xs) (u ∷ us) s (suc q) none l = each_at xs us s.1 q none (omega arith)

-- ---- the arrays inside the elements
abbrev Owned : (R : RattleType) → R.Denot → List Val → Type 0
Owned R x us = shadow (R.own_val x us)

at_of : (q : Queue) (us : List Val) → Owned Q.the_row q us → length q.at ≡ 10
at_of q us s = s.1.1.1.0.1.0.1

held_of : (p : Process) (u : Val) → Owned P.the_row p (u ∷ []) → length p.held ≡ 8
held_of p u s = s.1.1.1.1.1.1.1.0.1.0.1

queue_of_lem : (g : Gate) (u : Val) → Owned G.the_row g (u ∷ []) → length g.queue.at ≡ 10
queue_of_lem g u s = at_of g.queue _ s.1.1.1.0

cells_of : (g : Gate) (u : Val) → Owned G.the_row g (u ∷ []) → length g.cells ≡ 8
cells_of g u s = s.1.1.1.1.0.1.0.1

-- ---- and the machine's
pub shaped : (m : Machine) (vs : List Val) → shadow ((row the_type).own_val m vs) → Shaped m
shaped m vs s =
    let f = s.1.1 in
    let processes : length m.processes ≡ 10 = f.0.1.0.1 in
    let gates : length m.gates ≡ 25 = f.1.0.1.0.1 in
    let classes : length m.ready ≡ 3 = f.1.1.0.1.0.1 in
    let devices : length m.devices ≡ 5 = f.1.1.1.1.1.0.1.0.1 in
    record {
      processes = processes;
      gates = gates;
      classes = classes;
      devices = devices;
      ready = λ c l. each_at (Q.the_row).own_val (λ (q : Queue). length q.at ≡ 10) (λ q u t. at_of q (u ∷ []) t) m.ready _ f.1.1.0.1.1 c no_queue (omega (arith, l, classes));
      clock = at_of m.clock _ f.1.1.1.0;
      bell = at_of m.bell _ f.1.1.1.1.0;
      held = λ q l. each_at (P.the_row).own_val (λ (p : Process). length p.held ≡ 8) held_of m.processes _ f.0.1.1 q no_process (omega (arith, l, processes));
      queues = λ g l. each_at (G.the_row).own_val (λ (g : Gate). length g.queue.at ≡ 10) queue_of_lem m.gates _ f.1.0.1.1 g no_gate (omega (arith, l, gates));
      cells = λ g l. each_at (G.the_row).own_val (λ (g : Gate). length g.cells ≡ 8) cells_of m.gates _ f.1.0.1.1 g no_gate (omega (arith, l, gates));
    }
