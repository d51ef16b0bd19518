-- "A sound state", sentence by sentence
use Rattle.std.specs.Prelude.{Bool, ◌&&◌, ◌||◌, not, ℕ, ◌+◌, ◌%◌, ltb, leb, eqb, get_or}
use Rattle.notation.specs.If.{if}
use Rattle.notation.specs.Upto.{sum_to, all_to}
use Rattle.word.specs.Word.{bit}
use Rattle.image.specs.Header.{good_header}
use Rattle.machine.specs.declared.Queue.{Queue}
use Rattle.machine.specs.declared.Gate.{Gate}
use Rattle.machine.specs.declared.Regs.{Regs}
use Rattle.machine.specs.declared.Process.{Process}
use Rattle.machine.specs.declared.Device.{Device}
use Rattle.machine.specs.declared.Machine.{Machine}
use Rattle.machine.specs.State.{nobody, going, proc, floor_of, gate, ready, device}
use Rattle.machine.specs.Store.{whole}
use Rattle.machine.specs.Device.{is_present, is_busy}

-- ---- in how many places the process q is: running, ready, gate, cell, clock, device, bell, ended
abbrev pub sits : ℕ → ℕ → ℕ
sits q x = bit (eqb x q)

unfoldable pub in_queue : ℕ → Queue → ℕ
in_queue q w = sum_to (λ k. sits q (get_or w.at k 0)) w.len

unfoldable pub in_cells : ℕ → Gate → ℕ
in_cells q w = sum_to (λ c. sits q (get_or w.cells c 0)) 8

unfoldable pub at_gate : ℕ → Gate → ℕ
at_gate q w = in_queue q w.queue + in_cells q w

unfoldable pub is_ready : Machine → ℕ → ℕ
is_ready m q = sum_to (λ c. in_queue q (ready m c)) 3

unfoldable pub places : Machine → ℕ → ℕ
places m q =
    sits q m.running
    + is_ready m q
    + sum_to (λ g. at_gate q (gate m g)) 25
    + in_queue q m.clock
    + in_queue q m.bell
    + sum_to (λ d. sits q (device m d).process) 5
    + bit (proc m q).ended

-- who stands in a queue is a created process
unfoldable pub queue_ok : Machine → Queue → Bool
queue_ok m w = leb w.len 10 && all_to (λ k. leb w.len k || ltb (get_or w.at k 0) m.created) 10

-- nobody, or a created process
abbrev pub someone : Machine → ℕ → Bool
someone m x = eqb x nobody || ltb x m.created

-- "ready in its class"
unfoldable pub class_ok : Machine → ℕ → Bool
class_ok m c =
    queue_ok m (ready m c)
    && all_to (λ k. leb (ready m c).len k || eqb (proc m (get_or (ready m c).at k 0)).class c) 10

-- ---- gates
-- how often the gate g stands in the list of held gates
unfoldable pub held_of : Process → ℕ → ℕ
held_of p g = sum_to (λ k. bit (eqb (get_or p.held k 0) g)) p.holds

unfoldable pub gate_ok : Machine → ℕ → Bool
gate_ok m g =
    let w : Gate = gate m g in
    -- the holder, the waiters and who sits in the cells are created processes; a gate with a holder is shut, by the type
    someone m w.holder
    && queue_ok m w.queue
    && all_to (λ c. someone m (get_or w.cells c 0)) 8
    -- an open one has no waiter
    && (not (eqb w.holder nobody) || eqb w.queue.len 0)
    -- nobody waits or is delayed at a gate he holds
    && (eqb w.holder nobody || eqb (at_gate w.holder w) 0)
    -- other gates have nobody
    && (ltb g m.made || (eqb w.holder nobody && eqb w.queue.len 0 && all_to (λ c. eqb (get_or w.cells c 0) nobody) 8))

-- a process waiting or delayed at a gate
unfoldable pub is_at_gates : Machine → ℕ → ℕ
is_at_gates m q = sum_to (λ g. at_gate q (gate m g)) 25

-- ---- a created process
unfoldable pub holds_ok : Machine → ℕ → Bool
holds_ok m q =
    let p : Process = proc m q in
    -- the lists of held gates agree with the holders and repeat none
    leb p.holds 8
    && all_to (λ k. leb p.holds k || ltb (get_or p.held k 0) 25) 8
    && all_to (λ g. eqb (held_of p g) (bit (eqb (gate m g).holder q))) 25
    -- class 0 exactly if holding, otherwise 1 or 2
    && (if (eqb p.holds 0) (leb 1 p.class && leb p.class 2) (eqb p.class 0))
    -- ended processes and jobs hold none
    && (not (p.ended || p.regs.in_job) || eqb p.holds 0)
    -- jobs run or are ready
    && (not p.regs.in_job || eqb (sits q m.running + is_ready m q) 1)
    -- a process waiting or delayed at a gate holds at most 7
    && (eqb (is_at_gates m q) 0 || leb p.holds 7)

-- "Outside a job C is 4096 and no stop is pending; in one C is the saved S, saved S <= saved B <= 4096, C + p <= 4096,
-- the saved address is at most n, and a pending reason is 16 to 255"
unfoldable pub job_ok : ℕ → Regs → Bool
job_ok n r =
    if r.in_job
    (eqb r.c r.saved_s
    && leb r.saved_s r.saved_b
    && leb r.saved_b 4096
    && leb (r.c + r.p) 4096
    && leb r.saved_address n
    && (eqb r.reason 0 || (leb 16 r.reason && leb r.reason 255)))
    (eqb r.c 4096 && eqb r.reason 0)

-- "V is 0 to 1,024, (..), L <= S <= B <= C, code address at most n"; "Slices are 0 to 190 (..), all multiples of 10"
unfoldable pub marks_ok : ℕ → Process → Bool
marks_ok n p =
    let r : Regs = p.regs in
    leb p.variables 1024
    && leb (floor_of p) r.s
    && leb r.s r.b
    && leb r.b r.c
    && leb r.address n
    && leb p.slice 190
    && eqb (p.slice % 10) 0

unfoldable pub process_ok : Machine → ℕ → Bool
process_ok m q =
    -- each created process is in exactly one place; no queue repeats one
    eqb (places m q) 1
    && holds_ok m q
    && marks_ok m.length (proc m q)
    && job_ok m.length (proc m q).regs

-- "A busy device is present and has one waiting process, with operation 0 to 3 and a record whole in one store"
unfoldable pub device_ok : Machine → ℕ → Bool
device_ok m d =
    let x : Device = device m d in
    someone m x.process
    && (not (is_busy m d) || (is_present m d && leb x.operation 3 && whole x.address))

-- ---- the numbers: process 0 among the created; edition, n and devices as in a header; time; a stop's number 0 to 9
unfoldable pub numbers_ok : Machine → Bool
numbers_ok m =
    leb 1 m.created
    && leb m.created 10
    && leb m.made 25
    && good_header (record { edition = m.edition; length = m.length; devices = m.present; variables = 0 })
    && leb m.fraction 9990
    && eqb (m.fraction % 10) 0
    && leb m.seconds 32767
    && (eqb m.stop going || leb m.stop 9)
    -- at most one runs; ready is empty when nobody runs
    && someone m m.running
    && (ltb m.running nobody || all_to (λ c. eqb (ready m c).len 0) 3)
    -- the count is 0 to 8; a mark only while somebody runs
    && leb m.count 8
    && (ltb m.running nobody || not m.mark)

unfoldable pub sound : Machine → Bool
sound m =
    numbers_ok m
    && all_to (class_ok m) 3
    && queue_ok m m.clock
    && queue_ok m m.bell
    && all_to (device_ok m) 5
    && all_to (gate_ok m) 25
    && all_to (λ q. leb m.created q || process_ok m q) 10
