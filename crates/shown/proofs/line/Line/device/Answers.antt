-- Each arm puts the name that the list has at that place; past its end stands the last.
use Rattle.std.proofs.Common.{◌≡◌, arith, ◌∙◌}
use lib.ListN.{get_or-eq_default}
use Rattle.shown.specs.Line.{bytes, names, device_name}
use Rattle.shown.proofs.line.Line.device.Goals as goal

pub returns-in-0 : goal.returns-in-0
unfolding bytes
returns-in-0 c = c.put.ensures ∙ rw c.in-0.is

pub returns-in-1 : goal.returns-in-1
unfolding bytes
returns-in-1 c = c.put-in-1.ensures ∙ rw c.in-1.is

pub returns-in-2 : goal.returns-in-2
unfolding bytes
returns-in-2 c = c.put-in-2.ensures ∙ rw c.in-2.is

pub returns-in-3 : goal.returns-in-3
unfolding bytes
returns-in-3 c = c.put-in-3.ensures ∙ rw c.in-3.is

pub returns-in_default : goal.returns-in_default
unfolding bytes
returns-in_default c =
    let past : device_name c.args.d ≡ "card reader" = get_or-eq_default names _ {n = c.args.d} (omega arith) in
    c.put-in_default.ensures ∙ rw past
