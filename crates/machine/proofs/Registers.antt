-- What a gate leaves of a process: its registers
use mathlib.Core.Path.{◌≡◌}
use Prim.Native.Nat.{ℕ}
use lib.Dec.{ltb}
use Rattle.notation.proofs.Upto.{split}
use Rattle.notation.proofs.Cells.{set_keeps}
use Rattle.machine.specs.declared.Process.{Process}
use Rattle.machine.specs.declared.Machine.{Machine}
use Rattle.machine.specs.State.{no_process, proc}
use Rattle.machine.specs.Gate.{entered, grant, make_gate}

pub entered-regs : (p : Process) (g : ℕ) → (entered p g).regs ≡ p.regs
unfolding entered
entered-regs p g = split (ltb p.holds 8) (λ e. rw e) (λ e. rw e)

pub make_regs : (m : Machine) (q : ℕ) → (proc (make_gate m) q).regs ≡ (proc m q).regs
unfolding make_gate grant
make_regs m q = set_keeps (λ (p : Process). p.regs) m.processes m.running _ no_process (entered-regs (proc m m.running) m.made) q
