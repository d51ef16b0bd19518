-- An answer as one number: its low 8 bits are 0 where the offer is taken, else the refusal's number in document 01's table
use Rattle.std.specs.Prelude.{List, ℕ, ◌+◌, ◌*◌, get_or}
use Rattle.image.specs.Refusal.{Reply, taken, refused}
use Rattle.machine.specs.Step.{Ended, onward, idle, starting, stopped}
use Rattle.run.specs.Said.{Answered, ends, refused as refused_by}

-- how a step or a run ended; a device that has started is told by its number
abbrev pub end_number : Ended → ℕ
end_number onward = 0
end_number idle = 1
end_number (starting d) = 2 + 256 * d
end_number stopped = 3

-- how it ended stands in bits 8 to 23, the count of instructions in bits 32 to 63
abbrev pub taken_number : Ended → ℕ → ℕ
taken_number e count = 256 * end_number e + 4294967296 * count

abbrev pub answer_number : Answered → ℕ → ℕ
answer_number (ends e) count = taken_number e count
answer_number (refused_by k vs) count = k

-- the value that an answer names (n, the bytes, the block) stands from bit 8 on; 0 where it names none
abbrev pub reply_number : Reply → ℕ
reply_number (taken vs) = 256 * get_or vs 0 0
reply_number (refused k vs) = k + 256 * get_or vs 0 0

-- loading answers n, the second of the header's fields
abbrev pub load_number : Reply → ℕ
load_number (taken vs) = 256 * get_or vs 1 0
load_number (refused k vs) = k + 256 * get_or vs 0 0

-- what an answer names, and the block that a refusal names
abbrev pub values : Reply → List ℕ
values (taken vs) = vs
values (refused k vs) = vs

abbrev pub block_named : Reply → ℕ
block_named (taken vs) = 0
block_named (refused k vs) = get_or vs 0 0
