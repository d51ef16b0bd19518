-- What the types say of every machine
use Rattle.std.specs.Prelude.{◌≡◌, ℕ, ◌<◌, length}
use Rattle.machine.specs.declared.Machine.{Machine}
use Rattle.machine.specs.State.{proc, gate, ready}

-- the lengths of its arrays
pub record Shaped (m : Machine) : Type 0 where
  pub processes : length m.processes ≡ 10
  pub gates : length m.gates ≡ 25
  pub classes : length m.ready ≡ 3
  pub devices : length m.devices ≡ 5
  pub ready : (c : ℕ) → c < 3 → length (ready m c).at ≡ 10
  pub clock : length m.clock.at ≡ 10
  pub bell : length m.bell.at ≡ 10
  pub held : (q : ℕ) → q < 10 → length (proc m q).held ≡ 8
  pub queues : (g : ℕ) → g < 25 → length (gate m g).queue.at ≡ 10
  pub cells : (g : ℕ) → g < 25 → length (gate m g).cells ≡ 8
