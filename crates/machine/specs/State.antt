-- The parts of the state, and how each is changed. "Sizes", and the state that loading leaves
use Rattle.std.specs.Prelude.{Bool, false, List, [], ℕ, ◌+◌, ltb, get_or, set, replicate}
use Rattle.notation.specs.If.{if}
use Rattle.image.specs.declared.head.Header.{Header}
use Rattle.machine.specs.declared.Queue.{Queue}
use Rattle.machine.specs.declared.Gate.{Gate}
use Rattle.machine.specs.declared.Regs.{Regs}
use Rattle.machine.specs.declared.Process.{Process}
use Rattle.machine.specs.declared.Device.{Device}
use Rattle.machine.specs.declared.Machine.{Machine}

-- who runs, holds, sits or waits where nobody does; and what the stop's number is while the machine goes on
abbrev pub nobody : ℕ
nobody = 10

abbrev pub going : ℕ
going = 10

-- ---- what a list gives past its end
abbrev pub no_queue : Queue
no_queue = record { len = 0; at = [] }

abbrev pub no_gate : Gate
no_gate = record { holder = 0; queue = no_queue; cells = [] }

abbrev pub no_regs : Regs
no_regs = record { address = 0; line = 0; s = 0; b = 0; c = 0; in_job = false; saved_s = 0; saved_b = 0; saved_address = 0; p = 0; reason = 0 }

abbrev pub no_process : Process
no_process = record { regs = no_regs; variables = 0; slice = 0; class = 0; holds = 0; held = []; ended = false }

abbrev pub no_device : Device
no_device = record { process = 0; operation = 0; address = 0 }

-- ---- the parts by their numbers
abbrev pub proc : Machine → ℕ → Process
proc m i = get_or m.processes i no_process

abbrev pub gate : Machine → ℕ → Gate
gate m g = get_or m.gates g no_gate

abbrev pub ready : Machine → ℕ → Queue
ready m c = get_or m.ready c no_queue

abbrev pub device : Machine → ℕ → Device
device m d = get_or m.devices d no_device

-- "floor L = 2048 + V"
abbrev pub floor_of : Process → ℕ
floor_of p = 2048 + p.variables

-- ---- the state that loading leaves: "process 0 runs at address 0, class 2, stack empty, all counters 0"
unfoldable pub started : ℕ → ℕ → Process
started address v =
    record {
      regs = record { address = address; line = 0; s = 4096; b = 4096; c = 4096; in_job = false; saved_s = 0; saved_b = 0; saved_address = 0; p = 0; reason = 0 };
      variables = v;
      slice = 0;
      class = 2;
      holds = 0;
      held = replicate 8 0;
      ended = false;
    }

abbrev pub new_queue : Queue
new_queue = record { len = 0; at = replicate 10 0 }

abbrev pub new_gate : Gate
new_gate = record { holder = nobody; queue = new_queue; cells = replicate 8 nobody }

abbrev pub new_device : Device
new_device = record { process = nobody; operation = 0; address = 0 }

unfoldable pub fresh : Header → Machine
fresh h =
    record {
      processes = set (replicate 10 (started 0 0)) 0 (started 0 h.variables);
      gates = replicate 25 new_gate;
      ready = replicate 3 new_queue;
      clock = new_queue;
      bell = new_queue;
      devices = replicate 5 new_device;
      running = 0;
      created = 1;
      made = 0;
      stop = going;
      line = 0;
      seconds = 0;
      fraction = 0;
      edition = h.edition;
      length = h.length;
      present = h.devices;
      count = 0;
      mark = false;
    }

-- ---- a machine with some of its parts anew
abbrev pub parts : Machine → List Process → List Gate → List Queue → Queue → Queue → List Device → ℕ → ℕ → ℕ → Machine
parts m ps gs qs clock bell ds running created made =
    record {
      processes = ps;
      gates = gs;
      ready = qs;
      clock = clock;
      bell = bell;
      devices = ds;
      running = running;
      created = created;
      made = made;
      stop = m.stop;
      line = m.line;
      seconds = m.seconds;
      fraction = m.fraction;
      edition = m.edition;
      length = m.length;
      present = m.present;
      count = m.count;
      mark = m.mark;
    }

-- its time, and its stop
abbrev pub timed : Machine → ℕ → ℕ → ℕ → ℕ → Machine
timed m stop line seconds fraction =
    record {
      processes = m.processes;
      gates = m.gates;
      ready = m.ready;
      clock = m.clock;
      bell = m.bell;
      devices = m.devices;
      running = m.running;
      created = m.created;
      made = m.made;
      stop = stop;
      line = line;
      seconds = seconds;
      fraction = fraction;
      edition = m.edition;
      length = m.length;
      present = m.present;
      count = m.count;
      mark = m.mark;
    }

-- its count of selections, and its mark
abbrev pub counted : Machine → ℕ → Bool → Machine
counted m count mark =
    record {
      processes = m.processes;
      gates = m.gates;
      ready = m.ready;
      clock = m.clock;
      bell = m.bell;
      devices = m.devices;
      running = m.running;
      created = m.created;
      made = m.made;
      stop = m.stop;
      line = m.line;
      seconds = m.seconds;
      fraction = m.fraction;
      edition = m.edition;
      length = m.length;
      present = m.present;
      count = count;
      mark = mark;
    }

abbrev pub with : Machine → List Process → List Gate → List Queue → ℕ → Machine
with m ps gs qs running = parts m ps gs qs m.clock m.bell m.devices running m.created m.made

abbrev pub with_waits : Machine → Queue → Queue → List Device → Machine
with_waits m clock bell ds = parts m m.processes m.gates m.ready clock bell ds m.running m.created m.made

-- process i becomes p
unfoldable pub with_process : Machine → ℕ → Process → Machine
with_process m i p = with m (set m.processes i p) m.gates m.ready m.running

-- one more of what there are at most k of
abbrev pub more : ℕ → ℕ → ℕ
more x k = if (ltb x k) (x + 1) x

-- ---- a process with some of its parts anew
abbrev pub changed : Process → Regs → ℕ → ℕ → ℕ → List ℕ → Bool → Process
changed p regs slice class holds held ended =
    record { regs = regs; variables = p.variables; slice = slice; class = class; holds = holds; held = held; ended = ended }

abbrev pub with_regs : Process → Regs → Process
with_regs p r = changed p r p.slice p.class p.holds p.held p.ended

abbrev pub with_class : Process → ℕ → Process
with_class p class = changed p p.regs p.slice class p.holds p.held p.ended
