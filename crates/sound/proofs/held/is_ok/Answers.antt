-- The gates held are known, so their tally decides.
use mathlib.Core.Path.{sym, ◌∙◌}
use Rattle.sound.proofs.Parts.{list_row}
use Rattle.sound.proofs.held.is_ok.Goals as goal

pub returns-then-are_below : goal.returns-then-are_below
returns-then-are_below c =
    c.agree.ensures
    ∙ sym (list_row c.args.holders.now c.args.q c.args.held.now c.args.holds c.told-held c.if-holds-gt-HELD.false c.count.new.t
    (rw (← c.from.ensures) (sym c.are_below.ensures ∙ c.if-are_below.true)) c.told-holders (rw (← c.from.ensures) c.count.ensures))
