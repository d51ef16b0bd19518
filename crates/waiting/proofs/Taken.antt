-- What an offer does to the classes and the count: nobody leaves his place, or one selection is made
use mathlib.Core.Path.{◌≡◌, refl, sym, ◌∙◌}
use mathlib.Core.Bool.{Bool, true, false, ◌&&◌}
use mathlib.Core.List.{List}
use mathlib.Core.Logic.{◌⊎◌, inl, inr}
use Prim.Native.Nat.{ℕ, suc, ◌<◌, ◌≤◌}
use native.Mathlib.Omega.{arith}
use lib.Dec.{ltb, leb, eqb}
use lib.ListN.{length-set}
use lib.Seq.{get_or-set_same, get_or-set_other}
use borrow.Author.Tests.{eqb-true, eqb-false, ltb-true}
use Rattle.notation.proofs.Upto.{split}
use Rattle.image.specs.Refusal.{Reply, taken, refused}
use Rattle.machine.specs.declared.Queue.{Queue}
use Rattle.machine.specs.declared.Machine.{Machine}
use Rattle.machine.specs.State.{nobody, no_queue, ready}
use Rattle.machine.specs.Store.{World}
use Rattle.machine.specs.Queue.{rest}
use Rattle.machine.specs.Classes.{set_running, pull, some_ready, start, source, count_from, selection, aside, selects, select}
use Rattle.machine.specs.Offer.{offered, Offer, offer, after}
use Rattle.waiting.specs.Count.{accepted}
use Rattle.waiting.specs.Selection.{Ending, ends, takes, takes_from, selects_at, selects_from, Chosen}
use Rattle.waiting.proofs.Places.{Stands, stands-rest}
use Rattle.waiting.proofs.Replies.{reply_to, doing, offer_is}
use Rattle.waiting.proofs.Selection.{doing_chosen}
use Rattle.waiting.proofs.Ready.{line, Tidy, Grown, alike, also, wakes, Grows, grows, nothing, ends_grown}

rest-few : (q : Queue) → q.len ≤ 10 → (rest q).len ≤ 10
unfolding rest
rest-few q b = omega arith

counts_low : (u : Machine) (c : ℕ) → u.count ≤ 8 → count_from u c ≤ 8
unfolding count_from
counts_low u c b =
    split (eqb c 2) (λ t. rw t (omega arith))
    (λ t. split (some_ready u 2)
    (λ s. split (ltb u.count 8) (λ p. rw (t, s, p) (omega (arith, ltb-true u.count 8 p))) (λ p. rw (t, s, p) b))
    (λ s. rw (t, s) b))

-- ---- a selection: the first of its class runs, the others there move up, and the other classes stay
pub selection-runs : (u : Machine) (c i : ℕ) → source u ≡ c → Stands (ready u c) 0 i → (selection u).running ≡ i
unfolding selection start set_running
selection-runs u c i e s = rw e s.there

pub selection-count : (u : Machine) → (selection u).count ≡ count_from u (source u)
unfolding selection
selection-count u = refl

module _ (u : Machine) (t : Tidy (line u)) (c : ℕ) (b : c < 3) where
  pub selection_moves : (k i : ℕ) → source u ≡ c → Stands (ready u c) (suc k) i → Stands (ready (selection u) c) k i
  unfolding selection start set_running pull
  selection_moves k i e s =
      rw (e, get_or-set_same u.ready c (rest (ready u c)) no_queue (omega (arith, t.three))) (stands-rest (t.few c b) s)

  pub selection_keeps : (k i : ℕ) → (source u ≡ c → ⊥) → Stands (ready u c) k i → Stands (ready (selection u) c) k i
  unfolding selection start set_running pull
  selection_keeps k i n s =
      rw (get_or-set_other u.ready (source u) c (rest (ready u (source u))) no_queue (λ e. n (sym e))) s

pub selection_tidy : (u : Machine) → Tidy (line u) → Tidy (line (selection u))
unfolding selection start set_running pull
selection_tidy u t =
    record {
      three = length-set u.ready _ _ ∙ t.three;
      few = λ c b.
          split (eqb c (source u))
          (λ p.
          let e = eqb-true c (source u) p in
          rw (← e, get_or-set_same u.ready c (rest (ready u c)) no_queue (omega (arith, t.three))) (rest-few (ready u c) (t.few c b)))
          (λ p. rw (get_or-set_other u.ready (source u) c (rest (ready u (source u))) no_queue (eqb-false c (source u) p)) (t.few c b));
      low = counts_low u (source u) t.low;
    }

-- the running process goes to the tail of its class
aside_grown : (m : Machine) → Grown (line m) (line (aside m))
unfolding aside set_running
aside_grown m = split (leb nobody m.running) (λ t. rw t alike) (λ t. rw t (wakes (set_running m nobody) m.running))

-- ---- what an offer does, where s says that a process is taken, and f from which class
pub record Rested (m v : Machine) (s : Bool) (f : ℕ → Bool) : Type 0 where
  pub grown : Grown (line m) (line v)
  pub none : s ≡ false
  pub nowhere : (c : ℕ) → f c ≡ false

pub record Selected (m v : Machine) (s : Bool) (f : ℕ → Bool) : Type 0 where
  pub from : Machine
  pub grown : Grown (line m) (line from)
  pub is : v ≡ selection from
  pub some : s ≡ true
  pub there : (c : ℕ) → f c ≡ eqb (source from) c

abbrev pub Turn : Machine → Machine → Bool → (ℕ → Bool) → Type 0
Turn m v s f = Rested m v s f ⊎ Selected m v s f

same_line : (m v : Machine) → v.ready ≡ m.ready → v.count ≡ m.count → Grown (line m) (line v)
same_line m v e d = let p : line v ≡ line m = cc in rw p alike

chosen : (m : Machine) (e : Ending) (v : Machine) → Grows (line m) e → Chosen m e v → Turn m v (takes e) (λ c. takes_from c e)
unfolding select
chosen m _ v (grows {v = u} g) c =
    split (selects u)
    (λ b. inr (record { from = aside u; grown = also g (aside_grown u); is = rw b at c; some = b; there = λ d. rw b }))
    (λ b. let e : v ≡ u = rw b at c in inl (record { grown = rw e g; none = b; nowhere = λ d. rw b }))
chosen m _ v nothing c = inl (record { grown = same_line m v c.1 c.2; none = refl; nowhere = λ d. refl })

module _ (w : World) (code : List ℕ) (x : Offer) where
  reply_turns : (y : Reply)
      → Turn w.machine (after w (offered y (doing code w x))).machine (accepted (offered y (doing code w x)) && takes (ends code w x))
      (λ c. accepted (offered y (doing code w x)) && takes_from c (ends code w x))
  reply_turns (taken vs) = chosen w.machine (ends code w x) _ (ends_grown w code x) (doing_chosen w code x)
  reply_turns (refused k vs) = inl (record { grown = alike; none = refl; nowhere = λ c. refl })

  pub turn : Turn w.machine (after w (offer code w x)).machine (selects_at code w x) (λ c. selects_from code c w x)
  turn = rw (offer_is code w x) (reply_turns (reply_to code w x))
