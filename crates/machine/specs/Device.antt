-- Devices: how one starts, and the done event
use Rattle.std.specs.Prelude.{Bool, ◌&&◌, ℕ, ◌+◌, ◌*◌, ◌/◌, ◌%◌, ◌^◌, ltb, eqb, List, [], set, take, drop}
use Rattle.notation.specs.If.{if}
use Rattle.machine.specs.declared.Device.{Device}
use Rattle.machine.specs.declared.Machine.{Machine}
use Rattle.machine.specs.State.{nobody, proc, device, with_waits}
use Rattle.machine.specs.Store.{World, Place, in_common, in_own, nowhere, place_of, common_with, private_with}
use Rattle.machine.specs.Classes.{set_running, set_class, wake, select}

-- "present devices (bits 0 to 4)"
abbrev pub is_present : Machine → ℕ → Bool
is_present m d = eqb (m.present / 2 ^ d % 2) 1

abbrev pub is_busy : Machine → ℕ → Bool
is_busy m d = ltb (device m d).process nobody

unfoldable pub with_device : Machine → ℕ → Device → Machine
with_device m d x = with_waits m m.clock m.bell (set m.devices d x)

-- "the caller waits and the device starts": the operation and the record's address are kept
unfoldable pub device_start : Machine → ℕ → ℕ → ℕ → Machine
device_start m d operation address =
    with_device (set_running m nobody) d (record { process = m.running; operation = operation; address = address })

-- "1 after a device ends", but 0 while holding a gate
unfoldable pub device_end : Machine → ℕ → Machine
device_end m d =
    let h : ℕ = (device m d).process in
    wake
    (set_class
    (with_device m d (record { process = nobody; operation = (device m d).operation; address = (device m d).address }))
    h
    (if (eqb (proc m h).holds 0) 1 0))
    h

-- a word of a record of process i, in whichever store it lies
abbrev pub with_word : World → ℕ → ℕ → ℕ → World
with_word w i a x =
    record { machine = w.machine; common = common_with (place_of a) x w.common; private = private_with (place_of a) i x w.private }

-- "status is stored, arg only where the operation kept from the start is 0 and status is 0; the process wakes"
unfoldable pub recorded : World → ℕ → ℕ → ℕ → World
recorded w d status arg =
    let x : Device = device w.machine d in
    let v : World = with_word w x.process (x.address + 1) status in
    if (eqb x.operation 0 && eqb status 0) (with_word v x.process (x.address + 2) arg) v

unfoldable pub device_done : World → ℕ → ℕ → ℕ → World
device_done w d status arg =
    let v : World = recorded w d status arg in
    record { machine = select (device_end w.machine d); common = v.common; private = v.private }

-- ---- the record of a busy device: its four words, "handed back as a part of the common or of the private store"
abbrev pub four_words : Place → ℕ → List ℕ → List ℕ → List ℕ
four_words (in_common k) i common private = take 4 (drop k common)
four_words (in_own k) i common private = take 4 (drop (2048 * i + k) private)
four_words nowhere i common private = []

unfoldable pub record_of : World → ℕ → List ℕ
record_of w d =
    let x : Device = device w.machine d in
    if (is_busy w.machine d) (four_words (place_of x.address) x.process w.common w.private) []
