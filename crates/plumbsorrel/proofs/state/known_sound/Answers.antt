use Rattle.std.proofs.Common.{refl, Ok, Err}
use Rattle.image.specs.declared.table.Refusal.TheVariants.{Unsound}
use Rattle.plumbsorrel.proofs.Laws.{sound_says}
use Rattle.plumbsorrel.proofs.state.known_sound.Goals as goal

pub returns-in-Some : goal.returns-in-Some
returns-in-Some c =
    sound_says c.unpack.result c.args.state.now (Ok c.in-Some.m) c.unpack.ensures (rw (c.in-Some.is, ← c.is_sound.ensures, c.if-is_sound.true) refl)

pub returns-in_default : goal.returns-in_default
returns-in_default c =
    sound_says c.unpack.result c.args.state.now (Err Unsound) c.unpack.ensures (rw (c.in-Some.is, ← c.is_sound.ensures, c.if-is_sound.false) refl)

pub returns-in_default-2 : goal.returns-in_default-2
returns-in_default-2 c =
    sound_says c.unpack.result c.args.state.now (Err Unsound) c.unpack.ensures (rw c.in_default.is refl)
