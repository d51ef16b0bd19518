-- The image by itself, then the room; where both pass, the code is copied.
use Rattle.image.proofs.Laws as L
use Rattle.image.proofs.reader.read.Goals as goal

pub returns-in_err-header : goal.returns-in_err-header
returns-in_err-header c = L.read_refuses c.args.image.now c.examine.result c.examine.ensures c.args.code.now _ _ c.in_err-header.was c.from_residual.ensures.1

pub returns-in_err-check_room : goal.returns-in_err-check_room
returns-in_err-check_room c =
    let room = rw c.from.ensures at c.check_room.ensures in
    L.read_short c.args.image.now c.examine.result c.examine.ensures c.args.code.now _ c.in_ok-header.was _ room _ _ c.in_err-check_room.was c.from_residual-in_err-check_room.ensures.1

pub returns : goal.returns
returns c =
    let room = rw c.from.ensures at c.check_room.ensures in
    rw c.copy_code.ensures (L.read_taken c.args.image.now c.examine.result c.examine.ensures c.args.code.now _ c.in_ok-header.was _ room c.in_ok-check_room.was)
