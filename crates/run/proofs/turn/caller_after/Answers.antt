use native.Mathlib.Omega.{arith}
use Rattle.machine.specs.State.{with_process}
use Rattle.run.proofs.Ends as L
use Rattle.run.proofs.turn.caller_after.Goals as goal

pub returns : goal.returns
unfolding with_process
returns c =
    let p = L.moved-proc c.args.m.now c.args.regs (omega (arith, c.fits-m)) in record {
      told = rw (c.from.ensures, p);
      there = rw c.from.ensures;
    }
