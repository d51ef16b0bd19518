use mathlib.Core.Path.{◌∙◌}
use Prim.Native.Nat.{◌+◌}
use lib.ListN.{get_or}
use Rattle.word.specs.declared.Fault.TheVariants.{Code, Limit, Range}
use Rattle.kernel.specs.declared.answer.Act.TheVariants.{Create}
use Rattle.machine.specs.Call.{call3}
use Rattle.kernel.proofs.Laws.{goes_at, stops_at, too_few}
use Rattle.kernel.proofs.Part.{call3-made, call3_code, call3_limit, call3_range, call3_rest}
use Rattle.kernel.proofs.create.call3.Goals as goal

pub returns-in_err-t : goal.returns-in_err-t
unfolding call3
returns-in_err-t c =
    λ m t k. too_few t 3 _ c.from_residual.result c.from_residual.ensures.1 c.in_err-t.ensures

pub returns-then-who-ne0 : goal.returns-then-who-ne0
returns-then-who-ne0 c =
    λ m t k. stops_at t Limit (call3_limit t k c.in_ok-t.ensures c.then-who-ne0.either)

pub returns-then-v-gt-MOST_VARIABLES : goal.returns-then-v-gt-MOST_VARIABLES
returns-then-v-gt-MOST_VARIABLES c =
    λ m t k. stops_at t Range (call3_range t k c.in_ok-t.ensures c.if-who-ne0.false c.if-who-ge-PROCESSES.false c.then-v-gt-MOST_VARIABLES.either)

pub returns-in_err-has_words : goal.returns-in_err-has_words
returns-in_err-has_words c =
    λ m t k. let few = rw c.from.ensures at c.in_err-has_words.ensures in
    rw (call3_rest t k c.in_ok-t.ensures c.if-who-ne0.false c.if-who-ge-PROCESSES.false c.if-v-gt-MOST_VARIABLES.false c.if-v-p.false) (too_few t (3 + get_or c.in_ok-t.field-0 2 0) _ c.from_residual-in_err-has_words.result c.from_residual-in_err-has_words.ensures.1 few)

pub returns-then-who-t : goal.returns-then-who-t
returns-then-who-t c =
    λ m t k. let more = rw c.from.ensures at c.in_ok-has_words.ensures in
    stops_at t Code (call3_code t k c.in_ok-t.ensures c.if-who-ne0.false c.if-who-ge-PROCESSES.false c.if-v-gt-MOST_VARIABLES.false c.if-v-p.false more c.if-who-t.true)

pub returns : goal.returns
returns c =
    λ m t k. let more = rw c.from.ensures at c.in_ok-has_words.ensures in
    let l = c.in_ok-t.field-0 in
    rw (c.goes.ensures, c.new_part.ensures) (goes_at t k _ (c.args.who.caller.process.regs.s + (3 + get_or l 2 0)) (Create (get_or l 0 0) (get_or l 1 0)) ∙ call3-made t k c.in_ok-t.ensures c.if-who-ne0.false c.if-who-ge-PROCESSES.false c.if-v-gt-MOST_VARIABLES.false c.if-v-p.false more c.if-who-t.false)
