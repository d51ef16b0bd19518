-- Loading: the table's checks one after the other, and what is left where they pass
use mathlib.Core.Path.{◌≡◌, refl, sym, ◌∙◌, ap}
use mathlib.Core.Bool.{not}
use mathlib.Core.List.{List, []}
use Prim.Native.Nat.{ℕ}
use lib.Dec.{eqb}
use lib.ListN.{length}
use borrow.Author.Tests.{eqb-true, not-false}
use Rattle.notation.proofs.Upto.{both}
use Rattle.image.specs.declared.head.Header.{Header}
use Rattle.image.specs.declared.table.Refusal.{Refusal}
use Rattle.std.specs.Prelude.{Result, Ok, Err, IsErrAnd}
use Rattle.image.specs.Refusal.{Reply, taken, refused, number_of, named, ◌then◌, refused_by}
use Rattle.image.specs.Block.{word_at}
use Rattle.image.specs.Header.{fields, header_of}
use Rattle.image.specs.Read.{refuse, refusal10, examined, checks, read_says}
use Rattle.image.proofs.Laws.{passed, over_all, through_all, header_from, examined-refuses, examined_accepts, checked-fits, copied-fits, out-read, err_is}
use Rattle.machine.specs.Offer.{stores_fit}
use Rattle.machine.specs.Load.{Loading, unloaded, loaded_by, loads}
use Rattle.run.specs.declared.loading.Loaded.{Loaded}
use Rattle.run.specs.Loaded.{SetUp, load_gives, after_set_up, load_outcome}

-- ---- rows 1 to 5, then 6, then 10; out is what a refusal comes out as
abbrev pub asked : List ℕ → Reply → ℕ → Reply
asked bytes lent room = checks bytes lent room then taken (fields (header_of bytes))

pub unread :
    (bytes : List ℕ) (lent : Reply) (room : ℕ) (out : Result Header Refusal) (r : Refusal) →
    refused_by r ≡ examined bytes → IsErrAnd out (λ y. y ≡ r) →
    read_says out ≡ asked bytes lent room
unfolding checks
unread bytes lent room out r e o = rw (examined-refuses bytes (Err r) e r (lent then refusal10 room (word_at bytes 2)) refl, out-read out r o)

module _ (bytes : List ℕ) (h : Header) (e : taken (fields h) ≡ examined bytes) (lent : Reply) (room : ℕ) where
  once_read : asked bytes lent room ≡ (lent then refusal10 room h.length) then taken (fields h)
  unfolding checks
  once_read =
      let p = examined_accepts bytes (Ok h) e h (lent then refusal10 room (word_at bytes 2)) refl in
      let n : word_at bytes 2 ≡ h.length = ap (λ (z : Header). z.length) p.1 in
      ap (λ (r : Reply). r then taken (fields (header_of bytes))) (p.0 ∙ ap (λ (k : ℕ). lent then refusal10 room k) n)
      ∙ ap (λ (l : List ℕ). (lent then refusal10 room h.length) then taken l) (ap fields p.1)

pub lent_wrong_lem :
    (bytes : List ℕ) (lent : Reply) (room : ℕ) (out : Result Header Refusal) (h : Header) (y : Refusal) →
    taken (fields h) ≡ examined bytes → refused_by y ≡ lent → IsErrAnd out (λ z. z ≡ y) →
    read_says out ≡ asked bytes lent room
lent_wrong_lem bytes lent room out h y e f o = rw (once_read bytes h e lent room, ← f, out-read out y o)

pub short_lem :
    (bytes : List ℕ) (lent : Reply) (room : ℕ) (out : Result Header Refusal) (h : Header) (y : Refusal) →
    taken (fields h) ≡ examined bytes → taken [] ≡ lent → refused_by y ≡ refusal10 room h.length → IsErrAnd out (λ z. z ≡ y) →
    read_says out ≡ asked bytes lent room
short_lem bytes lent room out h y e f g o = rw (once_read bytes h e lent room, ← f, ← g, out-read out y o)

pub long_enough :
    (bytes : List ℕ) (lent : Reply) (room : ℕ) (h : Header) →
    taken (fields h) ≡ examined bytes → taken [] ≡ lent → taken [] ≡ refusal10 room h.length →
    taken (fields h) ≡ asked bytes lent room
long_enough bytes lent room h e f g = rw (once_read bytes h e lent room, ← f, ← g)

pub ruleset loading = (unread, lent_wrong_lem, short_lem, long_enough)

-- ---- what is left
loaded_by_lem : (x : Reply) (vs : List ℕ) (l : Loading) → taken vs ≡ x → loaded_by x l ≡ l
loaded_by_lem x vs l e = rw (← e)

unloaded_by : (x : Reply) (vs : List ℕ) (k : ℕ) (ws : List ℕ) (l : Loading) → x then taken vs ≡ refused k ws → loaded_by x l ≡ unloaded k ws
unloaded_by (taken us) vs k ws l e = ap (λ r. loaded_by r l) (over_all (taken us) vs k ws (taken us) e)
unloaded_by (refused j us) vs k ws l e = ap (λ r. loaded_by r l) e

module _ (bytes c q b : List ℕ) (x : Result Header Refusal) (e : read_says x ≡ (checks bytes (refuse 6 (not (stores_fit c q))) (length b) then taken (fields (header_of bytes)))) where
  abbrev asks : Reply
  asks = checks bytes (refuse 6 (not (stores_fit c q))) (length b)

  pub load_refused : (r : Refusal) (out : Result Loaded Refusal) → x ≡ Err r → IsErrAnd out (λ y. y ≡ r) → load_gives out b c q ≡ load_outcome bytes b c q
  unfolding loads
  load_refused r out t o = rw (err_is out r o, unloaded_by asks (fields (header_of bytes)) (number_of r) (named r) _ (rw t at (sym e)))

  pub load_taken : (h : Header) → x ≡ Ok h → record { reply = taken (fields h); after = after_set_up bytes h b c q } ≡ load_outcome bytes b c q
  unfolding loads
  load_taken h t =
      let p = through_all asks (fields (header_of bytes)) (fields h) (taken []) (rw t at (sym e)) in
      let g : header_of bytes ≡ h = ap header_from p.2 in
      let f = checked-fits bytes (refuse 6 (not (stores_fit c q))) (length b) p.0.0 p.0.1 in
      let s = both (eqb (length c) 2048) (eqb (length q) 20480) (not-false (stores_fit c q) (passed 6 (not (stores_fit c q)) f.0.0 f.0.1)) in
      rw (
        ← g,
        loaded_by_lem asks p.0.0 _ p.0.1,
        copied-fits bytes (word_at bytes 2) b f.2 f.1,
        eqb-true (length c) 2048 s.0,
        eqb-true (length q) 20480 s.1,
      )

  pub load_left_lem : (h : Header) → x ≡ Ok h → (s : SetUp) → s ≡ after_set_up bytes h b c q → record { reply = taken (fields h); after = s } ≡ load_outcome bytes b c q
  load_left_lem h t s e' = rw e' (load_taken h t)
