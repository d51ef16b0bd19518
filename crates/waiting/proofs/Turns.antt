-- What an operation does to the waiters of one gate: without a release, and by a release
use mathlib.Core.Path.{◌≡◌, sym, ◌∙◌}
use mathlib.Core.Bool.{Bool, true, false}
use Prim.Native.Nat.{ℕ, suc, ◌+◌, ◌<◌, ◌≤◌}
use native.Mathlib.Omega.{arith}
use lib.Dec.{ltb}
use lib.ListN.{get_or}
use Rattle.notation.specs.Upto.{sum_to}
use Rattle.notation.proofs.Upto.{never}
use Rattle.word.specs.Word.{bit}
use Rattle.machine.specs.declared.Gate.{Gate}
use Rattle.machine.specs.State.{nobody}
use Rattle.machine.specs.Queue.{first, rest}
use Rattle.waiting.proofs.Places.{Stands, stands-rest}

-- a cell with somebody counts 1; how many are delayed
abbrev pub taken : ℕ → ℕ
taken x = bit (ltb x nobody)

abbrev pub filled : Gate → ℕ
filled w = sum_to (λ c. taken (get_or w.cells c 0)) 8

-- no release: those who wait keep their places; n of the delayed are let out
pub record Quiet (w v : Gate) (n : ℕ) : Type 0 where
  pub keeps : (k i : ℕ) → Stands w.queue k i → Stands v.queue k i
  pub cells : filled v + n ≡ filled w

-- a release: the first holds, the others move up, at most one more is delayed
pub record Freed (w v : Gate) : Type 0 where
  pub moves : (k i : ℕ) → Stands w.queue (suc k) i → Stands v.queue k i
  pub holds : (i : ℕ) → Stands w.queue 0 i → v.holder ≡ i
  pub cells : filled v ≤ filled w + 1

-- from w to v, where r says that it is a release, and o that it is a completed leave, delay or continue
pub record Turn (w v : Gate) (r o : Bool) : Type 0 where
  pub frees : r ≡ true → 0 < w.queue.len → Freed w v
  pub stays : r ≡ false → Quiet w v (bit o)

pub calm : {w v : Gate} {o : Bool} → Quiet w v (bit o) → Turn w v false o
calm q = record { frees = λ e. never (sym e); stays = λ _. q }

pub frees_up : {w v : Gate} {o : Bool} → (0 < w.queue.len → Freed w v) → Turn w v true o
frees_up f = record { frees = λ _. f; stays = λ e. never e }

pub alike : {w v : Gate} → v.queue ≡ w.queue → v.cells ≡ w.cells → Quiet w v 0
alike a b = record { keeps = λ k i s. rw a s; cells = rw b (omega arith) }

-- the same gate
pub still : {w v : Gate} → v ≡ w → Turn w v false false
still e = calm (alike (rw e) (rw e))

pub freed : {w v : Gate} → w.queue.len ≤ 10 → v.holder ≡ first w.queue → v.queue ≡ rest w.queue → filled v ≤ filled w + 1
    → Freed w v
freed few a b c = record { moves = λ k i s. rw b (stands-rest few s); holds = λ i s. a ∙ s.there; cells = c }
