-- What an instruction sees and does, and the words that document 01's "Instructions" are told in
use Rattle.std.specs.Prelude.{Bool, ◌&&◌, ◌||◌, not, List, ◌++◌, ℕ, ◌+◌, ◌-◌, ltb, leb, length, get_or, set, take, drop, replicate}
use Rattle.notation.specs.If.{if}
use Rattle.word.specs.Word.{Reckoned, word, fault}
use Rattle.machine.specs.declared.Regs.{Regs}
use Rattle.machine.specs.Store.{Place, in_common, in_own, nowhere, place_of}

-- ---- what an instruction sees: the code, its process's floor L, whether it holds a gate, its registers, the common store, its own part
pub record View : Type 0 where
  pub code : List ℕ
  pub floor : ℕ
  pub holding : Bool
  pub regs : Regs
  pub common : List ℕ
  pub own : List ℕ

-- what it does: the process goes on with its registers; a fault; KTRAP calls the kernel
pub data Out : Type 0 where
  next : Regs → Out
  faults : ℕ → Out
  calls : ℕ → Out

-- with the stores after it
pub record Effect : Type 0 where
  pub out : Out
  pub common : List ℕ
  pub own : List ℕ

abbrev pub effect : Out → List ℕ → List ℕ → Effect
effect o c q = record { out = o; common = c; own = q }

-- ---- the words that the instructions are told in
-- the code length n, the code word, argument j after it, the address k words on
abbrev pub n : View → ℕ
n v = length v.code

abbrev pub op : View → ℕ
op v = get_or v.code v.regs.address 0

abbrev pub arg : View → ℕ → ℕ
arg v j = get_or v.code (v.regs.address + j) 0

abbrev pub past : View → ℕ → ℕ
past v k = v.regs.address + k

-- the process's own word at an address; the stack's top, and the word under it
abbrev pub local : View → ℕ → ℕ
local v a = get_or v.own (a - 2048) 0

abbrev pub top : View → ℕ
top v = local v v.regs.s

abbrev pub under : View → ℕ
under v = local v (v.regs.s + 1)

-- registers at an address, with the line, S and B
abbrev pub marks : Regs → ℕ → ℕ → ℕ → ℕ → Regs
marks r address line s b =
    record { address = address; line = line; s = s; b = b; c = r.c; in_job = r.in_job; saved_s = r.saved_s; saved_b = r.saved_b; saved_address = r.saved_address; p = r.p; reason = r.reason }

-- a faulting instruction does none of its own work
abbrev pub faulted : View → ℕ → Effect
faulted v f = effect (faults f) v.common v.own

-- the process goes on at an address with S; no store changes, or its own word at a does
abbrev pub goes : View → ℕ → ℕ → Effect
goes v address s = effect (next (marks v.regs address v.regs.line s v.regs.b)) v.common v.own

abbrev pub goes_with : View → ℕ → ℕ → ℕ → ℕ → Effect
goes_with v address s a w =
    effect (next (marks v.regs address v.regs.line s v.regs.b)) v.common (set v.own (a - 2048) w)

-- the faults that all share, in their order: missing arguments, of an instruction k words long; too few stack words (S to B - 1 count);
-- a taken target at or past n; the stack's limit
abbrev pub needs_code : View → ℕ → Effect → Effect
needs_code v k d = if (leb (past v k) (n v)) d (faulted v 7)

abbrev pub needs_words : View → ℕ → Effect → Effect
needs_words v k d = if (leb (v.regs.s + k) v.regs.b) d (faulted v 7)

abbrev pub to_target : View → ℕ → Effect → Effect
to_target v t d = if (ltb t (n v)) d (faulted v 7)

abbrev pub needs_room : View → ℕ → Effect → Effect
needs_room v k d = if (leb (v.floor + k) v.regs.s) d (faulted v 6)

-- on at an address, with a result that is pushed, or stands at S instead of the words popped, or is only tested; or it is a fault
abbrev pub pushes : View → ℕ → Reckoned → Effect
pushes v a (word w) = needs_room v 1 (goes_with v a (v.regs.s - 1) (v.regs.s - 1) w)
pushes v a (fault f) = faulted v f

abbrev pub replaces : View → ℕ → ℕ → Reckoned → Effect
replaces v a s (word w) = goes_with v a s s w
replaces v a s (fault f) = faulted v f

abbrev pub stays : View → ℕ → Reckoned → Effect
stays v a (word w) = goes v a v.regs.s
stays v a (fault f) = faulted v f

-- ---- addresses: "The job may read and write only addresses L to C + p - 1, else 2"
abbrev pub in_region : View → ℕ → Bool
in_region v a = not v.regs.in_job || (leb v.floor a && ltb a (v.regs.c + v.regs.p))

unfoldable pub located : View → ℕ → Place
located v a = if (in_region v a) (place_of a) nowhere

abbrev pub fetched : View → Place → Reckoned
fetched v (in_common k) = word (get_or v.common k 0)
fetched v (in_own k) = word (get_or v.own k 0)
fetched v nowhere = fault 2

abbrev pub stores : View → Place → ℕ → ℕ → Effect
stores v (in_common k) w s = effect (next (marks v.regs (past v 1) v.regs.line s v.regs.b)) (set v.common k w) v.own
stores v (in_own k) w s = effect (next (marks v.regs (past v 1) v.regs.line s v.regs.b)) v.common (set v.own k w)
stores v nowhere w s = faulted v 2

-- k words from a place on become zero
abbrev pub cleared : List ℕ → ℕ → ℕ → List ℕ
cleared l at k = take at l ++ (replicate k 0 ++ drop (at + k) l)
