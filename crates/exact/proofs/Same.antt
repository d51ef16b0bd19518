-- What is returned can be read off what it says; and there is a machine that has any parts
use mathlib.Core.Path.{◌≡◌, refl, sym, ap, ◌∙◌}
use mathlib.Core.List.{List, [], ◌∷◌}
use Prim.Native.Nat.{ℕ, suc, ◌-◌}
use native.Mathlib.Omega.{arith}
use lib.ListN.{get_or, replicate, set, get_or-replicate}
use Rattle.std.specs.Prelude.{Result, Ok, Err}
use Rattle.word.specs.declared.Fault.{Fault}
use Rattle.word.specs.declared.Fault.TheVariants.{Terminated, Overflow, Pointer, Range, Variant, HeapLimit, StackLimit, Code, Gate as NoGate, Limit}
use Rattle.word.specs.Word.{Reckoned, word, fault, said, number_of as fault_number}
use Rattle.image.specs.declared.table.Refusal.{Refusal}
use Rattle.image.specs.declared.table.Refusal.TheVariants.{Length, Block, Head, Count, Fill, Lent, Unsound, Stopped, Done, Short}
use Rattle.image.specs.declared.head.Header.{Header}
use Rattle.image.specs.Refusal.{Reply, taken, refused, number_of, named, check_says}
use Rattle.image.specs.Read.{read_says}
use Rattle.image.specs.Write.{write_says}
use Rattle.machine.specs.declared.Queue.{Queue}
use Rattle.machine.specs.declared.Gate.{Gate}
use Rattle.machine.specs.declared.Process.{Process}
use Rattle.machine.specs.declared.Machine.{Machine}
use Rattle.machine.specs.declared.classes.Selection.{Selection}
use Rattle.machine.specs.State.{no_queue, no_process, proc, fresh, parts, counted, with_class}
use Rattle.exact.specs.Same.{SameAnswer, SameCheck, SameRead, SameReading, SameWriting, SameSelected, SameBetter, SameMay, SameStopAnswer}

-- ---- two that say the same are equal, where each can be read off what it says
one_says : {A B : Type 0} (says : A → B) (back : B → A) → ((a : A) → back (says a) ≡ a) → (r r' : A) (o : B) → says r ≡ o → says r' ≡ o → r ≡ r'
one_says says back same r r' o e e' = sym (same r) ∙ ap back (e ∙ sym e') ∙ same r'

-- the fault of number n in document 01
abbrev pub fault_of : ℕ → Fault
fault_of n = get_or (Terminated ∷ Overflow ∷ Pointer ∷ Range ∷ Variant ∷ HeapLimit ∷ StackLimit ∷ Code ∷ NoGate ∷ Limit ∷ []) n Limit

pub fault_said : (f : Fault) → fault_of (fault_number f) ≡ f
fault_said Terminated = refl
fault_said Overflow = refl
fault_said Pointer = refl
fault_said Range = refl
fault_said Variant = refl
fault_said HeapLimit = refl
fault_said StackLimit = refl
fault_said Code = refl
fault_said NoGate = refl
fault_said Limit = refl

abbrev answer_of : Reckoned → Result ℕ Fault
answer_of (word w) = Ok w
answer_of (fault n) = Err (fault_of n)

answer_said : (r : Result ℕ Fault) → answer_of (said r) ≡ r
answer_said (Ok w) = refl
answer_said (Err f) = ap Err (fault_said f)

pub same_answer : SameAnswer
same_answer = one_says said answer_of answer_said

-- the refusal of number n in the table, with what it names
abbrev pub refusal_of : ℕ → List ℕ → Refusal
refusal_of n vs = get_or (Length ∷ Block (get_or vs 0 0) ∷ Head ∷ Count ∷ Fill ∷ Lent ∷ Unsound ∷ Stopped ∷ Done ∷ Short ∷ []) (n - 1) Short

pub refusal_said : (r : Refusal) → refusal_of (number_of r) (named r) ≡ r
refusal_said Length = refl
refusal_said (Block b) = refl
refusal_said Head = refl
refusal_said Count = refl
refusal_said Fill = refl
refusal_said Lent = refl
refusal_said Unsound = refl
refusal_said Stopped = refl
refusal_said Done = refl
refusal_said Short = refl

abbrev check_of : Reply → Result (Unit {0}) Refusal
check_of (taken vs) = Ok tt
check_of (refused n vs) = Err (refusal_of n vs)

check-said : (r : Result (Unit {0}) Refusal) → check_of (check_says r) ≡ r
check-said (Ok u) = refl
check-said (Err r) = ap Err (refusal_said r)

pub same_check : SameCheck
same_check = one_says check_says check_of check-said

-- the header of these fields
abbrev pub header_from : List ℕ → Header
header_from vs = record { edition = get_or vs 0 0; length = get_or vs 1 0; devices = get_or vs 2 0; variables = get_or vs 3 0 }

abbrev read_of : Reply → Result Header Refusal
read_of (taken vs) = Ok (header_from vs)
read_of (refused n vs) = Err (refusal_of n vs)

read_said : (r : Result Header Refusal) → read_of (read_says r) ≡ r
read_said (Ok h) = refl
read_said (Err r) = ap Err (refusal_said r)

pub same_read : SameRead
same_read = one_says read_says read_of read_said

pub same-reading : SameReading
same-reading bytes code r r' after after' (e, a) (e', a') = (same_read r r' _ e e', a ∙ sym a')

abbrev write_of : Reply → Result ℕ Refusal
write_of (taken vs) = Ok (get_or vs 0 0)
write_of (refused n vs) = Err (refusal_of n vs)

write_said : (r : Result ℕ Refusal) → write_of (write_says r) ≡ r
write_said (Ok n) = refl
write_said (Err r) = ap Err (refusal_said r)

pub same-writing : SameWriting
same-writing h code out r r' after after' (e, a) (e', a') = (one_says write_says write_of write_said r r' _ e e', a ∙ sym a')

-- ---- a machine that has these parts; process i is p in a list of as many as need be
abbrev having : List Process → List Gate → List Queue → ℕ → ℕ → ℕ → Machine
having ps gates ready i created made =
    parts (fresh (record { edition = 1; length = 1; devices = 0; variables = 0 })) ps gates ready no_queue no_queue [] i created made

module _ (p : Process) (i : ℕ) where
  abbrev enough : List Process
  enough = replicate (suc i) p

  there : get_or enough i no_process ≡ p
  there = get_or-replicate (suc i) i p no_process (omega arith)

pub same-selected : SameSelected
same-selected ready i class count mark r r' f f' =
    let p : Process = with_class no_process class in
    let m : Machine = counted (having (enough p i) [] ready i 0 0) count mark in
    let c : (proc m i).class ≡ class = ap (λ (x : Process). x.class) (there p i) in
    ap {B = Selection} (λ (x : Machine). record { ready = x.ready; running = x.running; count = x.count; mark = x.mark })
    (f m refl refl (λ l. c) refl refl ∙ sym (f' m refl refl (λ l. c) refl refl))

pub same_better : SameBetter
same_better ready class r r' f f' = let m : Machine = having [] [] ready 0 0 0 in f m refl ∙ sym (f' m refl)

pub same_may : SameMay
same_may p i gates made g c =
    let m : Machine = having (enough p i) gates [] i 0 made in
    let t : proc m i ≡ p = there p i in (
      λ r r' f f'. f m refl t refl refl ∙ sym (f' m refl t refl refl),
      λ r r' f f'. f m t refl ∙ sym (f' m t refl),
      λ r r' f f'. f m t refl ∙ sym (f' m t refl),
      λ r r' f f'. f m t refl refl ∙ sym (f' m t refl refl),
    )

pub same_stop_answer : SameStopAnswer
same_stop_answer processes i p created q reason r r' f f' =
    let m : Machine = having (set processes i p) [] [] 0 created 0 in f m refl refl ∙ sym (f' m refl refl)
