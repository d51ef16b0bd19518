use mathlib.Core.Path.{◌≡◌, refl}
use mathlib.Core.Logic.{⊎_elim}
use Rattle.machine.specs.declared.Machine.{Machine}
use Rattle.machine.specs.State.{with_process}
use Rattle.kernel.proofs.Laws.{same_process}
use Rattle.engine.specs.declared.burst.End.TheVariants.{Budget, Job}
use Rattle.run.specs.Ran.{moved_on}
use Rattle.run.proofs.turn.follow.Goals as goal

pub returns-in-Call : goal.returns-in-Call
unfolding with_process
returns-in-Call c =
    let who = c.caller_after-who.ensures in
    rw c.in-Call.is (c.decide.ensures.0 (moved_on c.args.m.now c.args.x.regs) who.told who.there refl)

pub returns-in-Budget : goal.returns-in-Budget
returns-in-Budget c =
    let v : Machine = moved_on c.args.m.now c.args.x.regs in
    ⊎_elim
    (λ (e : c.args.x.end ≡ Budget). rw (e, c.caller_after-who.ensures.told, same_process v))
    (λ (e : c.args.x.end ≡ Job). rw (e, c.caller_after-who.ensures.told, same_process v))
    c.in-Budget.is

pub returns-in-Fault : goal.returns-in-Fault
returns-in-Fault c = rw (c.in-Fault.is, c.from.ensures, c.caller_after-who.ensures.told, same_process (moved_on c.args.m.now c.args.x.regs))

pub returns-in-Unfit : goal.returns-in-Unfit
returns-in-Unfit c = rw (c.in-Unfit.is, c.caller_after-who.ensures.told, same_process (moved_on c.args.m.now c.args.x.regs))
