-- The definition of a sound state over its parts: what each function of the test answers
use Rattle.std.specs.Prelude.{Bool, ◌&&◌, ◌||◌, not, List, ℕ, ◌+◌, ltb, leb, eqb, get_or}
use Rattle.notation.specs.If.{if}
use Rattle.notation.specs.Upto.{sum_to, all_to}
use Rattle.word.specs.Word.{bit}
use Rattle.machine.specs.declared.Queue.{Queue}
use Rattle.machine.specs.declared.Gate.{Gate}
use Rattle.machine.specs.declared.Process.{Process}
use Rattle.machine.specs.declared.Device.{Device}
use Rattle.machine.specs.declared.Machine.{Machine}
use Rattle.machine.specs.State.{nobody, no_process}
use Rattle.machine.specs.Store.{whole}
use Rattle.machine.specs.Sound.{at_gate, marks_ok, job_ok, class_ok, queue_ok, device_ok, gate_ok, process_ok}

-- nobody, or a created process
abbrev pub someone_in : ℕ → ℕ → Bool
someone_in created x = eqb x nobody || ltb x created

unfoldable pub queue_in : ℕ → Queue → Bool
queue_in created w = leb w.len 10 && all_to (λ k. leb w.len k || ltb (get_or w.at k 0) created) 10

unfoldable pub class_in : ℕ → List Process → ℕ → Queue → Bool
class_in created ps c w =
    queue_in created w && all_to (λ k. leb w.len k || eqb (get_or ps (get_or w.at k 0) no_process).class c) 10

-- what is asked of every gate
unfoldable pub shut_in : ℕ → Gate → Bool
shut_in created w =
    someone_in created w.holder
    && queue_in created w.queue
    && all_to (λ c. someone_in created (get_or w.cells c 0)) 8
    && (not (eqb w.holder nobody) || eqb w.queue.len 0)
    && (eqb w.holder nobody || eqb (at_gate w.holder w) 0)

-- nobody waits or is delayed
unfoldable pub quiet_in : Gate → Bool
quiet_in w = eqb w.queue.len 0 && all_to (λ c. eqb (get_or w.cells c 0) nobody) 8

unfoldable pub gate_in : ℕ → Bool → Gate → Bool
gate_in created made w =
    shut_in created w
    && (made || (eqb w.holder nobody && eqb w.queue.len 0 && all_to (λ c. eqb (get_or w.cells c 0) nobody) 8))

abbrev pub device_in : ℕ → Bool → Device → Bool
device_in created present x =
    someone_in created x.process
    && (not (ltb x.process nobody) || (present && leb x.operation 3 && whole x.address))

-- the lists of held gates agree with the holders and repeat none
unfoldable pub list_in : List ℕ → ℕ → List ℕ → ℕ → Bool
list_in holders q held holds =
    leb holds 8
    && all_to (λ k. leb holds k || ltb (get_or held k 0) 25) 8
    && all_to (λ g. eqb (sum_to (λ k. bit (eqb (get_or held k 0) g)) holds) (bit (eqb (get_or holders g 0) q))) 25

abbrev pub class_for : ℕ → ℕ → Bool
class_for holds class = if (eqb holds 0) (leb 1 class && leb class 2) (eqb class 0)

-- "Ended processes and jobs hold none; jobs run or are ready. A process waiting or delayed at a gate holds at most 7"
abbrev pub limits_in : ℕ → ℕ → ℕ → Bool → Bool → Bool
limits_in here gates holds ended job =
    (not (ended || job) || eqb holds 0) && (not job || eqb here 1) && (eqb gates 0 || leb holds 7)

-- a process that runs or is ready so often, is at gates so often, and elsewhere
unfoldable pub process_in : ℕ → List ℕ → ℕ → ℕ → ℕ → ℕ → Process → Bool
process_in n holders q here gates elsewhere p =
    eqb (here + gates + elsewhere + bit p.ended) 1
    && list_in holders q p.held p.holds
    && class_for p.holds p.class
    && limits_in here gates p.holds p.ended p.regs.in_job
    && marks_ok n p
    && job_ok n p.regs

-- what is tested after the numbers and before the processes, and the processes
unfoldable pub parts_ok : Machine → Bool
parts_ok m =
    all_to (class_ok m) 3 && queue_ok m m.clock && queue_ok m m.bell && all_to (device_ok m) 5 && all_to (gate_ok m) 25

unfoldable pub processes_ok : Machine → Bool
processes_ok m = all_to (λ q. leb m.created q || process_ok m q) 10
