-- "Jobs and stops": where a job ends, and what stands after it
use Rattle.std.specs.Prelude.{Bool, false, ◌&&◌, not, ℕ, ◌-◌, ltb, eqb, set}
use Rattle.notation.specs.If.{if}
use Rattle.machine.specs.declared.Regs.{Regs}
use Rattle.machine.specs.View.{View, next, Effect, effect, faulted, n, op}

-- "Then C, B and S are as before the call (the p words stay), the process goes on after CALLPROG's arguments, a pending stop is gone"
abbrev pub after_job : Regs → ℕ → Regs
after_job r s =
    record { address = r.saved_address; line = r.line; s = s; b = r.saved_b; c = 4096; in_job = false; saved_s = 0; saved_b = 0; saved_address = 0; p = 0; reason = 0 }

-- "and the result is pushed; if there is no room, the machine stops with 6"
unfoldable pub end_job : View → ℕ → Effect
end_job v result =
    let s : ℕ = v.regs.saved_s - 1 in
    if (ltb v.floor v.regs.saved_s)
    (effect (next (after_job v.regs s)) v.common (set v.own (s - 2048) result))
    (faulted v 6)

-- "at a FALSEJUMP with a stop pending, tested before its faults"
unfoldable pub takes_stop : View → Bool
takes_stop v =
    v.regs.in_job && not (eqb v.regs.reason 0) && ltb v.regs.address (n v) && eqb (op v) 21
