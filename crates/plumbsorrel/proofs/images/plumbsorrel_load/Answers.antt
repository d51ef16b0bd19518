use native.Mathlib.Omega.{arith}
use lib.Seq.{length-take-le}
use mathlib.Core.Path.{sym}
use Rattle.layout.specs.Layout.{state_words}
use Rattle.plumbsorrel.proofs.Loading as L
use Rattle.plumbsorrel.proofs.images.plumbsorrel_load.Goals as goal

pub slice_bounds-pack-end : goal.slice_bounds-pack-end
slice_bounds-pack-end c = L.state_long c.args.image.now c.args.code.now c.args.common.now c.args.private.now c.args.state.now _ c.check_load.ensures c.in-Ok.header c.in-Ok.is

pub slice_bounds-pack-end-in-Ok : goal.slice_bounds-pack-end-in-Ok
slice_bounds-pack-end-in-Ok c = sym (length-take-le state_words c.args.state.now (L.state_long c.args.image.now c.args.code.now c.args.common.now c.args.private.now c.args.state.now _ c.check_load.ensures c.in-Ok.header c.in-Ok.is))

pub of_refused_image-requires : goal.of_refused_image-requires
of_refused_image-requires c = L.load_little c.args.image.now c.args.code.now c.args.common.now c.args.private.now c.args.state.now _ c.check_load.ensures c.in-Err.r c.in-Err.is (omega arith)

pub returns-in-Ok : goal.returns-in-Ok
returns-in-Ok c =
    let long = L.state_long c.args.image.now c.args.code.now c.args.common.now c.args.private.now c.args.state.now _ c.check_load.ensures c.in-Ok.header c.in-Ok.is in
    rw c.from.ensures (L.load-leaves c.args.image.now c.args.code.now c.args.common.now c.args.private.now c.args.state.now _ c.check_load.ensures c.in-Ok.header c.in-Ok.is _ _ _ _ c.set_up-m.ensures _ (L.packed-first _ c.args.state.now _ long c.pack.ensures.1))

pub returns-in-Err : goal.returns-in-Err
returns-in-Err c = rw c.of_refused_image.ensures (L.load_refuses c.args.image.now c.args.code.now c.args.common.now c.args.private.now c.args.state.now _ c.check_load.ensures c.in-Err.r c.in-Err.is)
