-- The machine's state as words: those of each part stand one after the other, in the order written here
use Rattle.std.specs.Prelude.{Bool, ◌&&◌, List, [], ◌∷◌, ◌++◌, ℕ, zero, suc, ◌+◌, ◌*◌, ltb, eqb, length, get_or, Option, Some, None}
use Rattle.notation.specs.If.{if}
use Rattle.notation.specs.Upto.{all_to, list_to}
use Rattle.word.specs.Word.{bit}
use Rattle.machine.specs.declared.Queue.{Queue}
use Rattle.machine.specs.declared.Gate.{Gate}
use Rattle.machine.specs.declared.Regs.{Regs}
use Rattle.machine.specs.declared.Process.{Process}
use Rattle.machine.specs.declared.Device.{Device}
use Rattle.machine.specs.declared.Machine.{Machine}
use Rattle.machine.specs.State.{proc, gate, ready, device}

-- ---- from a machine to words
-- the words of parts 0, 1, .. and n - 1
unfoldable pub rows : (ℕ → List ℕ) → ℕ → List ℕ
rows f zero = []
rows f (suc n) = rows f n ++ f n

abbrev pub queue_words : Queue → List ℕ
queue_words q = q.len ∷ q.at

abbrev pub gate_words : Gate → List ℕ
gate_words g = g.holder ∷ (queue_words g.queue ++ g.cells)

abbrev pub regs_words : Regs → List ℕ
regs_words r =
    r.address ∷ r.line ∷ r.s ∷ r.b ∷ r.c ∷ bit r.in_job ∷ r.saved_s ∷ r.saved_b ∷ r.saved_address ∷ r.p ∷ r.reason ∷ []

abbrev pub process_words : Process → List ℕ
process_words p =
    regs_words p.regs ++ (p.variables ∷ p.slice ∷ p.class ∷ p.holds ∷ []) ++ p.held ++ (bit p.ended ∷ [])

abbrev pub device_words : Device → List ℕ
device_words d = d.process ∷ d.operation ∷ d.address ∷ []

-- the machine's numbers; what a request of document 02 adds stands at the end (W-212: the count and the mark)
abbrev pub number_words : Machine → List ℕ
number_words m =
    m.running ∷ m.created ∷ m.made ∷ m.stop ∷ m.line ∷ m.seconds ∷ m.fraction ∷ m.edition ∷ m.length ∷ m.present
    ∷ m.count ∷ bit m.mark ∷ []

-- how many words the whole state has
abbrev pub state_words : ℕ
state_words = 822

unfoldable pub packed : Machine → List ℕ
packed m =
    rows (λ i. process_words (proc m i)) 10
    ++ rows (λ g. gate_words (gate m g)) 25
    ++ rows (λ c. queue_words (ready m c)) 3
    ++ queue_words m.clock
    ++ queue_words m.bell
    ++ rows (λ d. device_words (device m d)) 5
    ++ number_words m

-- ---- from words to a machine; w k is the word at place k of a part
abbrev pub from : List ℕ → ℕ → ℕ → ℕ
from ws at k = get_or ws (at + k) 0

abbrev pub queue_of : (ℕ → ℕ) → Queue
queue_of w = record { len = w 0; at = list_to (λ k. w (1 + k)) 10 }

abbrev pub gate_of : (ℕ → ℕ) → Gate
gate_of w = record { holder = w 0; queue = queue_of (λ k. w (1 + k)); cells = list_to (λ k. w (12 + k)) 8 }

abbrev pub regs_of : (ℕ → ℕ) → Regs
regs_of w =
    record {
      address = w 0;
      line = w 1;
      s = w 2;
      b = w 3;
      c = w 4;
      in_job = eqb (w 5) 1;
      saved_s = w 6;
      saved_b = w 7;
      saved_address = w 8;
      p = w 9;
      reason = w 10;
    }

abbrev pub process_of : (ℕ → ℕ) → Process
process_of w =
    record {
      regs = regs_of w;
      variables = w 11;
      slice = w 12;
      class = w 13;
      holds = w 14;
      held = list_to (λ k. w (15 + k)) 8;
      ended = eqb (w 23) 1;
    }

abbrev pub device_of : (ℕ → ℕ) → Device
device_of w = record { process = w 0; operation = w 1; address = w 2 }

unfoldable pub unpacked : List ℕ → Machine
unpacked ws =
    record {
      processes = list_to (λ i. process_of (from ws (24 * i))) 10;
      gates = list_to (λ g. gate_of (from ws (240 + 20 * g))) 25;
      ready = list_to (λ c. queue_of (from ws (740 + 11 * c))) 3;
      clock = queue_of (from ws 773);
      bell = queue_of (from ws 784);
      devices = list_to (λ d. device_of (from ws (795 + 3 * d))) 5;
      running = get_or ws 810 0;
      created = get_or ws 811 0;
      made = get_or ws 812 0;
      stop = get_or ws 813 0;
      line = get_or ws 814 0;
      seconds = get_or ws 815 0;
      fraction = get_or ws 816 0;
      edition = get_or ws 817 0;
      length = get_or ws 818 0;
      present = get_or ws 819 0;
      count = get_or ws 820 0;
      mark = eqb (get_or ws 821 0) 1;
    }

-- ---- which words are a machine's: so many, with a byte where the type has one, and 0 or 1 where it has a bool
abbrev pub bytes : (ℕ → ℕ) → ℕ → Bool
bytes w n = all_to (λ k. ltb (w k) 256) n

unfoldable pub process_fits : (ℕ → ℕ) → Bool
process_fits w = ltb (w 5) 2 && bytes (λ k. w (12 + k)) 11 && ltb (w 23) 2

-- the gates and the queues are bytes throughout
unfoldable pub fits : List ℕ → Bool
fits ws =
    eqb (length ws) state_words
    && all_to (λ i. process_fits (from ws (24 * i))) 10
    && bytes (from ws 240) 555
    && all_to (λ d. bytes (from ws (795 + 3 * d)) 2) 5
    && bytes (from ws 810) 4
    && bytes (from ws 820) 1
    && ltb (get_or ws 821 0) 2

-- the machine of words that fit; of others none
unfoldable pub unpacked_if : List ℕ → Option Machine
unpacked_if ws = if (fits ws) (Some (unpacked ws)) None
