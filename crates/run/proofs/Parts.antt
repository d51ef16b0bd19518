-- A part put into the private store, and the registers and words that a burst leaves put into the world
use mathlib.Core.Path.{◌≡◌, ◌∙◌}
use mathlib.Core.Bool.{false}
use mathlib.Core.List.{List, ◌++◌}
use Prim.Native.Nat.{ℕ, ◌+◌, ◌*◌, ◌<◌, ◌≤◌}
use native.Mathlib.Omega.{arith}
use lib.ListN.{length, take, drop, take-append-drop}
use lib.Seq.{length-take-le, get_or-set_same, set-get_or, set-set, take_at, drop_at, drop-drop}
use Rattle.machine.specs.declared.Regs.{Regs}
use Rattle.machine.specs.declared.Process.{Process}
use Rattle.machine.specs.State.{no_process, proc, with_process, with_regs}
use Rattle.machine.specs.Store.{World, part_of, with_part}
use Rattle.machine.specs.Classes.{best, selects, select}
use Rattle.machine.specs.Step.{view, selected}
use Rattle.engine.specs.Burst.{moved}
use Rattle.run.specs.Turn.{put}

-- ---- a part put into the private store: it is there, what was there before is gone, and a part put back changes nothing
module _ (i : ℕ) (x q : List ℕ) where
  pub put_back : with_part i (part_of i q) q ≡ q
  put_back =
      rw (← drop-drop 2048 (2048 * i) q, take-append-drop 2048 (drop (2048 * i) q)) (take-append-drop (2048 * i) q)

  module _ (long : length x ≡ 2048) (room : 2048 * i + 2048 ≤ length q) where
    front : length (take (2048 * i) q) ≡ 2048 * i
    front = length-take-le (2048 * i) q (omega arith)

    behind : drop (2048 * i) (with_part i x q) ≡ x ++ drop (2048 * i + 2048) q
    behind = drop_at (take (2048 * i) q) _ (2048 * i) front

    pub part_put : part_of i (with_part i x q) ≡ x
    part_put = rw behind (take_at x _ 2048 long)

    pub put-twice : (y : List ℕ) → with_part i y (with_part i x q) ≡ with_part i y q
    put-twice y =
        rw (take_at (take (2048 * i) q) (x ++ drop (2048 * i + 2048) q) (2048 * i) front, ← drop-drop 2048 (2048 * i) (with_part i x q), behind, drop_at x (drop (2048 * i + 2048) q) 2048 long)

-- ---- the world with other registers and words of the running process
pub put_same : (code : List ℕ) (w : World) → put w (view code w).regs w.common (view code w).own ≡ w
unfolding with_process
put_same code w =
    let i : ℕ = w.machine.running in
    rw (put_back i w.private w.private, set-get_or w.machine.processes i no_process)

module _ (w : World) (r : Regs) (c q : List ℕ) (few : w.machine.running < length w.machine.processes) where
  abbrev i : ℕ
  i = w.machine.running

  abbrev p : Process
  p = proc w.machine i

  pub put-proc : proc (with_process w.machine i (with_regs p r)) i ≡ with_regs p r
  unfolding with_process
  put-proc = get_or-set_same w.machine.processes i (with_regs p r) no_process few

  -- nobody's class changes, and nobody joins or leaves
  pub put-selects : selects (put w r c q).machine ≡ selects w.machine
  unfolding selects best with_process
  put-selects = rw put-proc

  pub put-selected : selects w.machine ≡ false → selected (put w r c q) ≡ put w r c q
  unfolding select
  put-selected e = rw (put-selects ∙ e)

  module _ (long : length q ≡ 2048) (room : 2048 * i + 2048 ≤ length w.private) where
    pub put_view : (code : List ℕ) → view code (put w r c q) ≡ moved (view code w) r c q
    unfolding with_process
    put_view code = rw (put-proc, part_put i q w.private long room)

    pub put-put : (r' : Regs) (c' q' : List ℕ) → put (put w r c q) r' c' q' ≡ put w r' c' q'
    unfolding with_process
    put-put r' c' q' =
        rw (put-proc, set-set w.machine.processes i (with_regs p r) (with_regs p r'), put-twice i q w.private long room q')
