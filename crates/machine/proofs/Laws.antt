-- Why the code's tests are those of the definitions: what a list gives and takes past its end
use mathlib.Core.Path.{◌≡◌, refl, ap, sym, ◌∙◌}
use mathlib.Core.Bool.{Bool, true, false, ◌&&◌, not, and-false, and-true}
use mathlib.Core.List.{List, [], ◌∷◌}
use Prim.Native.Nat.{ℕ, zero, suc, ◌+◌, ◌-◌, ◌≤◌, ◌<◌}
use native.Mathlib.Omega.{arith}
use lib.Dec.{leb, ltb}
use lib.ListN.{length, get_or, set, get_or-eq_default}
use lib.Seq.{set_out}
use borrow.Author.Tests.{ltb-true, lt-ltb, le-ltb, le-leb, lt-leb, eq-eqb, ne_eqb}
use borrow.Author.Rules.{rules}
use Rattle.notation.specs.If.{if}
use Rattle.notation.proofs.Upto.{below?, split}
use Rattle.std.specs.Prelude.{Option, Some, None, position, unwrap_or}
use Rattle.std.proofs.lemmas.List.Quantifiers.{position-Some}
use Rattle.machine.specs.declared.Queue.{Queue}
use Rattle.machine.specs.declared.Process.{Process}
use Rattle.machine.specs.declared.Machine.{Machine}
use Rattle.machine.specs.State.{no_queue, nobody, parts, proc, with_process}
use Rattle.machine.specs.Classes.{best, push, selects, wake}
use Rattle.machine.specs.Clock.{clock_one, clock_wake, bell_one, bell_wake}
use Rattle.machine.specs.Parts.{one_woken, Waking, woken}

-- each test on the way, as the definitions have it
pub ruleset cases = (rules, lt-ltb, le-ltb, le-leb, lt-leb, eq-eqb, ne_eqb)

module _ {A : Type 0} (l : List A) (n i : ℕ) (long : length l ≡ n) (out : n ≤ i) where
  pub get-past : (d : A) → get_or l i d ≡ d
  get-past d = get_or-eq_default l d (omega (arith, long, out))

  pub set_past : (x : A) → set l i x ≡ l
  set_past x = set_out l i x (omega (arith, long, out))

-- a process that is not there becomes nothing
pub nobody_becomes : (m : Machine) (h : ℕ) (p : Process) → length m.processes ≡ 10 → nobody ≤ h → m ≡ with_process m h p
unfolding with_process
nobody_becomes m h p long l = rw (set_past m.processes 10 h long l p)

pub ruleset past = (get-past, set_past, nobody_becomes)

-- what grows by d reaches a limit where it stood d below it
pub reached : (a b d : ℕ) → a ≤ b → leb (a + d) (b + d) ≡ true
reached a b d l = le-leb (a + d) (b + d) (omega (arith, l))

pub not_reached : (a b d : ℕ) → b < a → leb (a + d) (b + d) ≡ false
not_reached a b d l = lt-leb (a + d) (b + d) (omega (arith, l))

-- ---- the waiters wake one by one; those of the clock and those of the bell do so on the two parts that change
pub woken_next : (n : ℕ) (ps : List Process) (w : Waking) → 0 < n → woken n ps w ≡ woken (n - 1) ps (one_woken ps w)
unfolding woken
woken_next zero ps w l = absurd (omega (arith, l))
woken_next (suc n) ps w l = let e : suc n - 1 ≡ n = omega arith in rw e

pub woken_over : (n : ℕ) (ps : List Process) (w : Waking) → n ≤ 0 → woken n ps w ≡ w
unfolding woken
woken_over n ps w l = let e : n ≡ 0 = omega (arith, l) in rw e

abbrev clock_with : Machine → Waking → Machine
clock_with m w = parts m m.processes m.gates w.ready w.waiters m.bell m.devices m.running m.created m.made

abbrev bell_with : Machine → Waking → Machine
bell_with m w = parts m m.processes m.gates w.ready m.clock w.waiters m.devices m.running m.created m.made

pub clock_woken : (n : ℕ) (m : Machine) (w : Waking) → clock_wake n (clock_with m w) ≡ clock_with m (woken n m.processes w)
unfolding clock_wake clock_one wake push woken one_woken
clock_woken zero m w = refl
clock_woken (suc n) m w = clock_woken n m (one_woken m.processes w)

pub bell_woken : (n : ℕ) (m : Machine) (w : Waking) → bell_wake n (bell_with m w) ≡ bell_with m (woken n m.processes w)
unfolding bell_wake bell_one wake push woken one_woken
bell_woken zero m w = refl
bell_woken (suc n) m w = bell_woken n m (one_woken m.processes w)

module _ (m : Machine) (r : List Queue) (q : Queue) where
  pub clock_after : woken m.clock.len m.processes (record { ready = m.ready; waiters = m.clock }) ≡ record { ready = r; waiters = q }
      → clock_wake m.clock.len m ≡ clock_with m (record { ready = r; waiters = q })
  clock_after e = clock_woken m.clock.len m (record { ready = m.ready; waiters = m.clock }) ∙ ap (clock_with m) e

  pub bell_after : woken m.bell.len m.processes (record { ready = m.ready; waiters = m.bell }) ≡ record { ready = r; waiters = q }
      → bell_wake m.bell.len m ≡ bell_with m (record { ready = r; waiters = q })
  bell_after e = bell_woken m.bell.len m (record { ready = m.ready; waiters = m.bell }) ∙ ap (bell_with m) e

-- ---- the selection over nobody, and over the process that runs; it takes a process of a class that is ready
twice : (b : Bool) → (b && b) ≡ b
twice true = refl
twice false = refl

none_below : (b : ℕ) (q : Bool) → (ltb b 0 && q) ≡ false
none_below b q = rw (le-ltb b 0 (omega arith))

apart : (a b t : Bool) → (a && b && not t) ≡ (not t && a && b)
apart a b true = and-false (a && b)
apart a b false = and-true (a && b)

module _ (m : Machine) (b : ℕ) (e : b ≡ best m) where
  pub over-nobody : nobody ≤ m.running → (ltb b 3 && ltb b 3) ≡ selects m
  unfolding selects
  over-nobody l = rw (le-leb _ _ l, e, twice (ltb (best m) 3))

  pub over_running : m.running < nobody → (ltb b (if m.mark 0 (proc m m.running).class) && ltb b 3) ≡ selects m
  unfolding selects best
  over_running l = split m.mark (λ k. rw (lt-leb _ _ l, e, k) (none_below (best m) (ltb (best m) 3))) (λ k. rw (lt-leb _ _ l, e, k))

  -- over whoever runs: nobody's class is 3, and none comes before a mark
  pub over_all : (c : ℕ) → c ≡ if (ltb m.running 10) (if m.mark 0 (proc m m.running).class) 3 → (ltb b c && ltb b 3) ≡ selects m
  over_all c f =
      below? m.running 10
      (λ l. rw f (rw (lt-ltb m.running 10 l) (over_running l)))
      (λ l. rw f (rw (le-ltb m.running 10 l) (over-nobody l)))

  -- told by its class, and by its mark apart from it
  pub unless_marked : m.running < nobody → ((ltb b (proc m m.running).class && ltb b 3) && not m.mark) ≡ selects m
  unfolding selects
  unless_marked l = rw (lt-leb _ _ l, e) (apart (ltb (best m) (proc m m.running).class) (ltb (best m) 3) m.mark)

  pub unless_all : (c : ℕ) (t : Bool) → c ≡ if (ltb m.running 10) (proc m m.running).class 3 → t ≡ (ltb m.running 10 && m.mark)
      → ((ltb b c && ltb b 3) && not t) ≡ selects m
  unless_all c t f g =
      below? m.running 10
      (λ l. rw (f, g) (rw (lt-ltb m.running 10 l) (unless_marked l)))
      (λ l. rw (f, g) (rw (le-ltb m.running 10 l) (and-true _ ∙ over-nobody l)))

  -- told by its number and its class
  pub over_told : (i k c : ℕ) (t : Bool) → m.running ≡ i → (i < 10 → (proc m i).class ≡ k) → m.mark ≡ t → c ≡ if (ltb i 10) (if t 0 k) 3
      → (ltb b c && ltb b 3) ≡ selects m
  over_told i k c t r own mark f =
      over_all c
      (below? i 10
      (λ l. rw (f, r, lt-ltb i 10 l, own l, mark))
      (λ l. rw (f, r, le-ltb i 10 l)))

-- ---- the best class that is ready is the place of the first queue that has somebody
abbrev pub place : List Queue → ℕ
place qs = unwrap_or (position (λ (q : Queue). ltb 0 q.len) qs) 3

pub best_place : (qs : List Queue) → length qs ≡ 3 → (m : Machine) → m.ready ≡ qs → place qs ≡ best m
unfolding best
best_place [] e m f = absurd (omega (arith, e))
best_place (a ∷ []) e m f = absurd (omega (arith, e))
best_place (a ∷ b ∷ []) e m f = absurd (omega (arith, e))
best_place (a ∷ b ∷ c ∷ []) e m f =
    rw f
    (split (ltb 0 a.len) (λ x. rw x)
    (λ x. split (ltb 0 b.len) (λ y. rw (x, y))
    (λ y. split (ltb 0 c.len) (λ z. rw (x, y, z)) (λ z. rw (x, y, z)))))
best_place (a ∷ b ∷ c ∷ d ∷ qs) e m f = absurd (omega (arith, e))

-- and a class so found has somebody
pub place_has : (qs : List Queue) (o : Option ℕ) → o ≡ position (λ q. ltb 0 q.len) qs → unwrap_or o 3 < 3 → 0 < (get_or qs (unwrap_or o 3) no_queue).len
place_has qs None e l = absurd (omega (arith, l))
place_has qs (Some i) e l = ltb-true _ _ (position-Some _ qs i no_queue (sym e)).1
