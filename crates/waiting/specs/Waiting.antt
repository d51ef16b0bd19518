-- The third of the user's demands, on how long a process waits, as document 02, W-212, amends it: in place k of a shut gate's queue, with d
-- delayed at that gate, it holds the gate at the k-th release of it, at the latest at the (2k - 1 + d)-th completed leave, delay or continue on
-- it; in place j of class 0 it runs "no later than selection j + j/8 rounded up"; "place i of class 2 runs by the 9i-th selection". From any
-- sound state, whatever is offered
use Rattle.std.specs.Prelude.{◌≡◌, Bool, true, false, ◌&&◌, List, ◌++◌, ℕ, ◌+◌, ◌-◌, ◌*◌, ◌/◌, ◌<◌, ◌≤◌, ltb, get_or}
use Rattle.notation.specs.Upto.{sum_to}
use Rattle.word.specs.Word.{bit}
use Rattle.machine.specs.declared.Queue.{Queue}
use Rattle.machine.specs.State.{nobody, gate, ready}
use Rattle.machine.specs.Store.{World}
use Rattle.machine.specs.Gate.{cell}
use Rattle.machine.specs.Release.{releases, completes}
use Rattle.machine.specs.Sound.{sound}
use Rattle.machine.specs.Offer.{Offer, a_step, a_tick, a_done, a_bell, offer, after, after_all}
use Rattle.machine.specs.Shape.{Shaped}
use Rattle.waiting.specs.Count.{accepted, count_in}
use Rattle.waiting.specs.Selection.{selects_at, selects_from}

-- process i stands in place k of a queue, whose first place is 1
pub record InPlace (q : Queue) (k i : ℕ) : Type 0 where
  pub first : 1 ≤ k
  pub last : k ≤ q.len
  pub there : get_or q.at (k - 1) 0 ≡ i

-- who holds gate g; process i waits in place k of its queue (in a sound state an open gate has no waiter, so it is shut);
-- how many are delayed in its 8 cells
abbrev pub holder : World → ℕ → ℕ
holder w g = (gate w.machine g).holder

abbrev pub Waits : World → ℕ → ℕ → ℕ → Type 0
Waits w g k i = InPlace (gate w.machine g).queue k i

abbrev pub delayed : World → ℕ → ℕ
delayed w g = sum_to (λ c. bit (ltb (cell w.machine g c) nobody)) 8

-- an accepted step that is a release of gate g; one that completes a leave, delay or continue on it
abbrev pub is_step : Offer → Bool
is_step a_step = true
is_step a_tick = false
is_step (a_done d status arg) = false
is_step a_bell = false

abbrev pub releases_at : List ℕ → ℕ → World → Offer → Bool
releases_at code g w x = accepted (offer code w x) && is_step x && releases code w g

abbrev pub completes_at : List ℕ → ℕ → World → Offer → Bool
completes_at code g w x = accepted (offer code w x) && is_step x && completes code w g

-- how many there are among the offers xs, one after the other from w
abbrev pub releases_in : List ℕ → World → ℕ → List Offer → ℕ
releases_in code w g xs = count_in code (releases_at code g) w xs

abbrev pub completes_in : List ℕ → World → ℕ → List Offer → ℕ
completes_in code w g xs = count_in code (completes_at code g) w xs

-- the world after xs and one offer more
abbrev pub after_next : List ℕ → World → List Offer → Offer → World
after_next code w xs x = after (after_all code w xs) (offer code (after_all code w xs) x)

-- with fewer than k releases process i still waits, by as many places nearer, and does not hold; the k-th makes it the holder
abbrev pub WaitsStill : List ℕ → World → ℕ → ℕ → ℕ → List Offer → Type 0
WaitsStill code w g k i xs =
    releases_in code w g xs < k
    → Waits (after_all code w xs) g (k - releases_in code w g xs) i × (holder (after_all code w xs) g ≡ i → ⊥)

abbrev pub HoldsThen : List ℕ → World → ℕ → ℕ → ℕ → List Offer → Type 0
HoldsThen code w g k i xs =
    (x : Offer)
    → releases_in code w g xs + 1 ≡ k
    → releases_at code g (after_all code w xs) x ≡ true
    → holder (after_next code w xs x) g ≡ i

-- the gate is held at the k-th release
abbrev pub HoldsAtRelease : Type 0
HoldsAtRelease =
    (code : List ℕ) (w : World) (g k i : ℕ) (xs : List Offer)
    → Shaped w.machine
    → sound w.machine ≡ true
    → Waits w g k i
    → WaitsStill code w g k i xs × HoldsThen code w g k i xs

-- xs has a first part after which i holds gate g, with k releases and at most n completed operations
pub record HeldWithin (code : List ℕ) (w : World) (g k n i : ℕ) (xs : List Offer) : Type 0 where
  pub ys : List Offer
  pub zs : List Offer
  pub whole : xs ≡ ys ++ zs
  pub holds : holder (after_all code w ys) g ≡ i
  pub kth : releases_in code w g ys ≡ k
  pub soon : completes_in code w g ys ≤ n

-- and at the latest at the (2k - 1 + d)-th completed operation
abbrev pub bound : ℕ → ℕ → ℕ
bound k d = 2 * k - 1 + d

abbrev pub HoldsInTime : Type 0
HoldsInTime =
    (code : List ℕ) (w : World) (g k i : ℕ) (xs : List Offer)
    → Shaped w.machine
    → sound w.machine ≡ true
    → Waits w g k i
    → bound k (delayed w g) ≤ completes_in code w g xs
    → HeldWithin code w g k (bound k (delayed w g)) i xs

-- what is left of the bound after any offers before the k-th release suffices for what is left of the way: a list of offers may be cut anywhere
abbrev pub BoundHandedOn : Type 0
BoundHandedOn =
    (code : List ℕ) (w : World) (g k i : ℕ) (xs : List Offer)
    → Shaped w.machine
    → sound w.machine ≡ true
    → Waits w g k i
    → releases_in code w g xs < k
    → completes_in code w g xs + bound (k - releases_in code w g xs) (delayed (after_all code w xs) g) ≤ bound k (delayed w g)

-- how many selections there are among the offers xs, one after the other from w; how many of them from class c
abbrev pub selections_in : List ℕ → World → List Offer → ℕ
selections_in code w xs = count_in code (selects_at code) w xs

abbrev pub selections_from : List ℕ → ℕ → World → List Offer → ℕ
selections_from code c w xs = count_in code (selects_from code c) w xs

-- with fewer than k selections from class c process i is still ready there, by as many places nearer, and does not run; in the k-th it is taken
abbrev pub ReadyStill : List ℕ → World → ℕ → ℕ → ℕ → List Offer → Type 0
ReadyStill code w c k i xs =
    selections_from code c w xs < k
    → InPlace (ready (after_all code w xs).machine c) (k - selections_from code c w xs) i × ((after_all code w xs).machine.running ≡ i → ⊥)

abbrev pub RunsThen : List ℕ → World → ℕ → ℕ → ℕ → List Offer → Type 0
RunsThen code w c k i xs =
    (x : Offer)
    → selections_from code c w xs + 1 ≡ k
    → selects_from code c (after_all code w xs) x ≡ true
    → (after_next code w xs x).machine.running ≡ i

-- nobody is passed over: place k of a class runs at the k-th selection from it
abbrev pub RunsAtSelection : Type 0
RunsAtSelection =
    (code : List ℕ) (w : World) (c k i : ℕ) (xs : List Offer)
    → c < 3
    → Shaped w.machine
    → sound w.machine ≡ true
    → InPlace (ready w.machine c) k i
    → ReadyStill code w c k i xs × RunsThen code w c k i xs

-- xs has a first part after which i runs, with k selections from class c and at most n selections
pub record RunsWithin (code : List ℕ) (w : World) (c k n i : ℕ) (xs : List Offer) : Type 0 where
  pub ys : List Offer
  pub zs : List Offer
  pub whole : xs ≡ ys ++ zs
  pub runs : (after_all code w ys).machine.running ≡ i
  pub kth : selections_from code c w ys ≡ k
  pub soon : selections_in code w ys ≤ n

abbrev pub RunsBy : ℕ → (ℕ → ℕ) → Type 0
RunsBy c bound =
    (code : List ℕ) (w : World) (k i : ℕ) (xs : List Offer)
    → Shaped w.machine
    → sound w.machine ≡ true
    → InPlace (ready w.machine c) k i
    → bound k ≤ selections_in code w xs
    → RunsWithin code w c k (bound k) i xs

-- "no later than selection j + j/8 rounded up"; "by the 9i-th selection"
abbrev pub bound0 : ℕ → ℕ
bound0 j = j + (j + 7) / 8

abbrev pub bound2 : ℕ → ℕ
bound2 i = 9 * i

abbrev pub RunsInTime : Type 0
RunsInTime = RunsBy 0 bound0 × RunsBy 2 bound2

-- from a count of n: by selection j + (j + n - 1)/8 rounded down, and by selection 9i - n
abbrev pub RunsFrom : ℕ → (ℕ → ℕ → ℕ) → Type 0
RunsFrom c bound =
    (code : List ℕ) (w : World) (k i : ℕ) (xs : List Offer)
    → Shaped w.machine
    → sound w.machine ≡ true
    → InPlace (ready w.machine c) k i
    → bound k w.machine.count ≤ selections_in code w xs
    → RunsWithin code w c k (bound k w.machine.count) i xs

abbrev pub RunsSooner : Type 0
RunsSooner = RunsFrom 0 (λ j n. j + (j + n - 1) / 8) × RunsFrom 2 (λ i n. 9 * i - n)
