-- "A strictly better class no longer displaces a process so selected until its slice ends or it gives up the processor" (W-212)
use Rattle.std.specs.Prelude.{◌≡◌, true, ℕ, ◌+◌, ◌<◌, ◌≤◌}
use Rattle.machine.specs.declared.Machine.{Machine}
use Rattle.machine.specs.State.{nobody, proc, gate}
use Rattle.machine.specs.Classes.{select}
use Rattle.machine.specs.Clock.{tick, bell}
use Rattle.machine.specs.Device.{device_end}
use Rattle.machine.specs.Gate.{enter, leave, continue, make_gate}

-- the same process runs, and has the mark
abbrev pub KeepsIt : Machine → Machine → Type 0
KeepsIt m v = (v.running ≡ m.running) × (v.mark ≡ true)

-- no selection takes the processor from it; nor does a bell, a done, or a tick within its slice, whoever wakes; and it keeps both where it
-- enters an open gate, leaves or continues one, or makes one
abbrev pub MarkHolds : Type 0
MarkHolds =
    (m : Machine) → m.running < nobody → m.mark ≡ true
    → (select m ≡ m)
    × KeepsIt m (bell m)
    × ((d : ℕ) → KeepsIt m (select (device_end m d)))
    × ((proc m m.running).slice + 10 < 200 → KeepsIt m (tick m))
    × ((g : ℕ) → nobody ≤ (gate m g).holder → KeepsIt m (select (enter m g)))
    × ((g : ℕ) → KeepsIt m (select (leave m g)))
    × ((g c : ℕ) → KeepsIt m (select (continue m g c)))
    × KeepsIt m (select (make_gate m))
