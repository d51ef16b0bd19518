-- Each answer is that of its rows, whose numbers rise
use mathlib.Core.Path.{◌≡◌, refl, sym, ap, ◌∙◌}
use mathlib.Core.Bool.{Bool, true, false, ◌&&◌, ◌||◌, not}
use mathlib.Core.List.{List, [], ◌∷◌}
use Prim.Native.Nat.{ℕ, ◌+◌}
use native.Mathlib.Omega.{arith}
use lib.Dec.{ltb}
use lib.ListN.{length}
use borrow.Author.Tests.{not-false, lt-ltb, le-ltb}
use Rattle.notation.specs.If.{if}
use Rattle.notation.specs.Upto.{all_to, first_to}
use Rattle.notation.proofs.Upto.{split, never, below?, all_at, all_of, first-none, first_past}
use Rattle.image.specs.declared.head.Header.{Header}
use Rattle.image.specs.Refusal.{Reply, taken, refused, ◌then◌}
use Rattle.image.specs.Block.{blocks, block_at, good_block}
use Rattle.image.specs.Header.{fields, header_of}
use Rattle.image.specs.Read.{first_bad, refusal1, refusal2, refusal3, refusal4, refusal5, refusal10, checks, reading}
use Rattle.image.specs.Write.{image_length, write_checks, writing}
use Rattle.machine.specs.Store.{World}
use Rattle.machine.specs.Clock.{tick, bell}
use Rattle.machine.specs.Device.{device_done}
use Rattle.machine.specs.Step.{Stepped, stepped, onward, with_machine, step}
use Rattle.machine.specs.Run.{run}
use Rattle.machine.specs.Load.{loaded, unloaded, loaded_by, loads}
use Rattle.machine.specs.Offer.{refuses, offered, offer_step, offer_run, offer_tick, offer_bell, offer_done, after, a_step, a_tick, a_done, a_bell, offer}
use Rattle.exact.specs.Rows.{Row, names, rise, reply}
use Rattle.exact.specs.Refusals.{Exact, bad_block, load_rows, loaded_from, LoadingExact, read_rows, ReadingExact, write_rows, WritingExact, Asked, one, a_run, answered, offer_rows, RefusalsExact, RefusedChangesNothing, is_taken, ElseTaken}
use Rattle.exact.proofs.Rows.{first-refuses}

-- ---- checks one after the other are rows
then_if : (bad : Bool) (k : ℕ) (vs : List ℕ) (next : Reply) → (if bad (refused k vs) (taken [])) then next ≡ if bad (refused k vs) next
then_if true k vs next = refl
then_if false k vs next = refl

not_both : (p q : Bool) → not (p && q) ≡ not p || not q
not_both true q = refl
not_both false q = refl

-- a search finds a bad one exactly if not all are good
module _ (good : ℕ → Bool) (k : ℕ) where
  abbrev bad : ℕ → Bool
  bad i = not (good i)

  found : ltb (first_to bad k) k ≡ not (all_to good k)
  found =
      split (all_to good k)
      (λ e. rw e (le-ltb _ k (omega (arith, first_past bad 0 k (λ i l. ap not (all_at good k (0 + i) e (omega arith)))))))
      (λ e. rw e (below? (first_to bad k) k (lt-ltb _ k) (λ l. never (sym (all_of good k (λ i m. ap good (omega arith) ∙ not-false (good (0 + i)) (first-none bad 0 k i (omega arith) m))) ∙ e))))

-- ---- an answer made of the rows' reply, which tells a refusal's number and values
exact : {X Unchanged : Type 0} (made : Reply → X) → ((r : Reply) (k : ℕ) (vs : List ℕ) → made r ≡ made (refused k vs) → r ≡ refused k vs)
    → (rows : List Row) (x : X) → rise 0 rows ≡ true → x ≡ made (reply rows)
    → ((k : ℕ) (vs : List ℕ) → x ≡ made (refused k vs) → Unchanged)
    → Exact rows (λ k vs. x ≡ made (refused k vs)) (x ≡ made (taken [])) Unchanged
exact made tells rows x u e unchanged =
    let (law, none) = first-refuses rows u in
    record {
      only_then = λ k vs. (λ r. (law k vs).0 (tells (reply rows) k vs (sym e ∙ r)), λ f. e ∙ ap made ((law k vs).1 f));
      otherwise = λ f. e ∙ ap made (none.1 f);
      nothing = unchanged;
    }

-- ---- loading
good_blocks : (bytes : List ℕ) → ltb (first_bad bytes) (blocks bytes) ≡ bad_block bytes
good_blocks bytes = found (λ i. good_block (block_at bytes i) i) (blocks bytes)

loads_by_rows : (bytes common private code : List ℕ) → loads bytes common private code ≡ loaded_by (reply (load_rows bytes common private code)) (loaded_from bytes code)
unfolding loads checks refusal1 refusal2 refusal3 refusal4 refusal5 refusal10
loads_by_rows bytes common private code = simp (then_if, not_both, good_blocks bytes)

load_tells : (w : World) (c : List ℕ) (r : Reply) (k : ℕ) (vs : List ℕ) → loaded_by r (loaded w c) ≡ unloaded k vs → r ≡ refused k vs
load_tells w c (taken us) k vs e = cc
load_tells w c (refused j us) k vs e = cc

pub loading_exact : LoadingExact
loading_exact bytes common private code =
    exact (λ r. loaded_by r (loaded_from bytes code)) (load_tells _ _)
    (load_rows bytes common private code)
    (loads bytes common private code)
    refl
    (loads_by_rows bytes common private code)
    (λ k vs e. (rw e, rw e, rw e))

-- ---- reading and writing
reads_by_rows : (bytes code : List ℕ) → reading bytes (length code) ≡ reply (read_rows bytes code) then taken (fields (header_of bytes))
unfolding checks refusal1 refusal2 refusal3 refusal4 refusal5 refusal10
reads_by_rows bytes code = simp (then_if, not_both, good_blocks bytes)

writes_by_rows : (h : Header) (code out : List ℕ) → writing h (length code) (length out) ≡ reply (write_rows h code out) then taken (image_length h.length ∷ [])
unfolding write_checks refusal10
writes_by_rows h code out = simp then_if

then_tells : (us : List ℕ) (r : Reply) (k : ℕ) (vs : List ℕ) → r then taken us ≡ refused k vs → r ≡ refused k vs
then_tells us (taken ws) k vs e = cc
then_tells us (refused j ws) k vs e = e

module _ {Unchanged : Type 0} (us : List ℕ) where
  exact_then : (rows : List Row) (x : Reply) → rise 0 rows ≡ true → x ≡ reply rows then taken us
      → ((k : ℕ) (vs : List ℕ) → x ≡ refused k vs → Unchanged)
      → Exact rows (λ k vs. x ≡ refused k vs) (x ≡ taken us) Unchanged
  exact_then = exact (λ r. r then taken us) (then_tells us)

pub reading_exact : ReadingExact
reading_exact bytes code =
    exact_then (fields (header_of bytes)) (read_rows bytes code) (reading bytes (length code)) refl (reads_by_rows bytes code) (λ k vs e. rw e)

pub writing_exact : WritingExact
writing_exact h code out =
    exact_then (image_length h.length ∷ []) (write_rows h code out) (writing h (length code) (length out)) refl (writes_by_rows h code out) (λ k vs e. rw e)

-- ---- offers: what each does where it is taken
abbrev work : List ℕ → World → Asked → Stepped
work code w (one a_step) = step code w
work code w (one a_tick) = stepped (with_machine w (tick w.machine)) onward 0
work code w (one (a_done d status arg)) = stepped (device_done w d status arg) onward 0
work code w (one a_bell) = stepped (with_machine w (bell w.machine)) onward 0
work code w (a_run budget) = run code budget w

module _ (code : List ℕ) (w : World) where
  offers_by_rows : (x : Asked) → answered code w x ≡ offered (reply (offer_rows code w x)) (work code w x)
  unfolding offer offer_step offer_tick offer_bell offer_done offer_run
  offers_by_rows (one a_step) = simp (then_if, not_both)
  offers_by_rows (one a_tick) = simp then_if
  offers_by_rows (one (a_done d status arg)) = simp then_if
  offers_by_rows (one a_bell) = simp then_if
  offers_by_rows (a_run budget) = simp (then_if, not_both)

offer_tells : (r : Reply) (s : Stepped) (k : ℕ) → offered r s ≡ refuses k → (vs : List ℕ) × (r ≡ refused k vs)
offer_tells (taken vs) s k e = (vs, cc)
offer_tells (refused j vs) s k e = (vs, cc)

pub refusals_exact : RefusalsExact
refusals_exact code w x k =
    let rows : List Row = offer_rows code w x in
    let law = (first-refuses rows refl).0 in
    let e = offers_by_rows code w x in (
      λ r. let (vs, z) = offer_tells (reply rows) (work code w x) k (sym e ∙ r) in ((law k vs).0 z).0,
      λ f. e ∙ ap (λ r. offered r (work code w x)) ((law k (names rows k)).1 (f, refl)),
    )

pub refused_changes_nothing : RefusedChangesNothing
refused_changes_nothing code w x k e = ap (after w) e

pub else_taken : ElseTaken
else_taken code w x f =
    ap is_taken (offers_by_rows code w x) ∙ ap (λ r. is_taken (offered r (work code w x))) ((first-refuses (offer_rows code w x) refl).1.1 f)
