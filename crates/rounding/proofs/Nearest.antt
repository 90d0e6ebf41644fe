-- The quotient that the code takes is the nearest whole number, and a test on the machine tells whether it is x / n. Assumes nothing.
use Rattle.std.proofs.Common.{◌≡◌, refl, sym, ap, ◌∙◌, ◌≤◌, ◌<◌, ◌^◌, ◌+◌, ◌*◌, T, cond, eqb, eq-eqb, eqb-true, ℕ, ℤ, pos, negsuc, nat_abs, ◌+ℤ◌, ◌*ℤ◌, FitsSigned, of_z, to_z, to_z-of_z, arith, le_trans}
use Rattle.std.proofs.lemmas.Bool.{eqb-false}
use Rattle.std.specs.Int.{w64}
use Rattle.std.specs.Int.Signed.{non_neg, shr_z}
use Rattle.integers.specs.Rounding.{nearest}
use Rattle.integers.specs.Whole.{rest, rest_told, back_size}
use Rattle.integers.specs.Signed.{fits64}

pub nearest_is : (x n q : ℤ) → T (non_neg n) → q ≡ shr_z (pos 2 *ℤ x +ℤ n) (nat_abs (pos 2 *ℤ n)) → q ≡ nearest x (nat_abs n)
nearest_is x (pos n) q t e = e
nearest_is x (negsuc n) q t e = absurd t

module _ (x : ℤ) (n : ℕ) (h : 0 < n) (a : nat_abs x ≤ 3900000000000000000) (b : n ≤ 8589934592) where
  fits : FitsSigned w64 (nearest x n *ℤ pos n)
  fits = fits64 {B = 3900000008589934592} (le_trans (back_size x n h) (omega arith)) tt

  -- a test on the machine's numbers tells whether a quotient is whole
  told : (p : ℤ) → p ≡ nearest x n *ℤ pos n → rest x n ≡ cond (eqb (of_z w64 p) (of_z w64 x)) 0 1
  told p e =
      rest_told x n (eqb (of_z w64 p) (of_z w64 x)) h
      (λ i. sym (to_z-of_z fits) ∙ ap (λ (z : ℤ). to_z w64 (of_z w64 z)) (sym e) ∙ ap (to_z w64) (eqb-true (of_z w64 p) (of_z w64 x) i) ∙ to_z-of_z (fits64 a tt))
      (λ i j. eqb-false (of_z w64 p) (of_z w64 x) i (rw (e, j) refl))

pub whole_is : (x n q : ℤ) → T (non_neg n) → 0 < nat_abs n → nat_abs x ≤ 3900000000000000000 → nat_abs n ≤ 8589934592 → q ≡ nearest x (nat_abs n) → rest x (nat_abs n) ≡ cond (eqb (of_z w64 (q *ℤ n)) (of_z w64 x)) 0 1
whole_is x (pos n) q t h a b e = told x n h a b (q *ℤ pos n) (rw e refl)
whole_is x (negsuc n) q t h a b e = absurd t

pub ruleset quotients = (to_z-of_z, nearest_is)
