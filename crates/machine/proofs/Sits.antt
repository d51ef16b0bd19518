-- Who sits on a seat, as a number
use mathlib.Core.Path.{◌≡◌, refl, sym}
use Prim.Native.Nat.{ℕ}
use borrow.Author.Tests.{eq-eqb, ne_eqb}
use Rattle.machine.specs.Sound.{sits}

pub sits_self : (q : ℕ) → sits q q ≡ 1
sits_self q = rw (eq-eqb q q refl)

pub sits_other : (q x : ℕ) → (q ≡ x → ⊥) → sits q x ≡ 0
sits_other q x n = rw (ne_eqb x q (λ e. n (sym e)))
