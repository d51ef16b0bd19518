-- Laws of the words that are put into a line
use mathlib.Core.Path.{◌≡◌, refl, sym}
use mathlib.Core.List.{List, [], ◌∷◌, ◌++◌}
use Prim.Native.Nat.{ℕ, ◌+◌, ◌^◌, ◌<◌}
use native.Mathlib.Omega.{arith}
use native.Mathlib.Numerals.{add-one}
use borrow.Author.Rules.{rules}
use borrow.Author.Tests.{lt-ltb, le-ltb, le-leb, lt-leb}
use lib.ListN.{length, get_or, take}
use lib.Seq.{take-suc}
use Rattle.std.specs.Fmt.{decimal}
use Rattle.std.proofs.Common.{lit<}
use Rattle.std.proofs.lemmas.Fmt.{AppendsLastDigit, decimal_from_appends, length-decimal-le}
use Rattle.std.proofs.Math.Seq.{take-length}
use Rattle.shown.specs.declared.line.Line.{Line}
use Rattle.shown.specs.Line.{pushed, put_all, digits_in}

pub ruleset cases = (rules, lt-ltb, le-ltb, le-leb, lt-leb)

-- words put in two parts are put at once
pub put_both : (l : Line) (first then : List ℕ) → put_all (put_all l first) then ≡ put_all l (first ++ then)
unfolding put_all
put_both l [] then = refl
put_both l (b ∷ first) then = put_both (pushed l b) first then

pub put_three : (l : Line) (first then last : List ℕ) → put_all (put_all (put_all l first) then) last ≡ put_all l (first ++ then ++ last)
put_three l first then last = rw (put_both l first then) (put_both l (first ++ then) last)

-- one more of the words is put
pub put_more : (l : Line) (words : List ℕ) (i : ℕ) → i < length words → pushed (put_all l (take i words)) (get_or words i 0) ≡ put_all l (take (i + 1) words)
unfolding put_all
put_more l words i h = rw (add-one i, take-suc words i 0 h) (put_both l (take i words) (get_or words i 0 ∷ []))

-- the digits' last is put behind the others, as std's lemma asks
last_behind : AppendsLastDigit digits_in
unfolding digits_in
last_behind = record {
  one = λ k n h. rw (lt-ltb n 10 h);
  more = λ k n h. rw (le-ltb n 10 h);
}

-- the digits that std writes of a number, and that all of them are all
pub spelled : (n : ℕ) → n < 2 ^ 64 → decimal n ≡ digits_in 20 n
spelled n h = sym (decimal_from_appends digits_in last_behind 20 n h (length-decimal-le 20 n (lit< tt) (omega arith) h))

pub all_taken : (l : List ℕ) → take (length l) l ≡ l
all_taken l = take-length l

pub ruleset digits = (spelled, all_taken)
