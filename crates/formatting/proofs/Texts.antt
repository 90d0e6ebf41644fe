-- The needs of the writer of numbers: a number's text, by its sign. Assumes nothing.
use Rattle.std.specs.Prelude.{◌≡◌, true, false, List, [], ◌∷◌, ℕ, ◌<◌, ℤ, pos, negsuc, nat_abs}
use Rattle.std.proofs.Common.{sym, ap, ◌∙◌, subst, arith, ltb-true, FitsSigned, w32, to_z, of_z}
use Rattle.std.specs.Int.Signed.{lt_z}
use Rattle.std.proofs.lemmas.Int.{to_z-of_z}
use Rattle.model.specs.Numbers.{decimal, text}
use Rattle.sheet_text.specs.Numbers.{Small}
use Rattle.sheet_text.specs.Tests.{no_way}
use Rattle.formatting.specs.Puts.{Put}
use Rattle.formatting.specs.Texts.{put_then}

module _ (v : ℤ) (f : FitsSigned w32 v) where
  as_given : to_z w32 (of_z w32 v) ≡ v
  as_given = to_z-of_z w32 v f

  pub small_digits : (n : ℕ) → n ≡ nat_abs (to_z w32 (of_z w32 v)) → Small v → n < 10000000
  unfolding Small
  small_digits n e s = omega (arith, e ∙ ap nat_abs as_given)

  -- a minus, and the digits
  pub minus_text : (a b c : List ℕ) (i k m n : ℕ) → Put a b i k (45 ∷ []) → Put b c k m (decimal 7 n) → lt_z (to_z w32 (of_z w32 v)) (pos 0) ≡ true → n ≡ nat_abs (to_z w32 (of_z w32 v)) → Put a c i m (text v)
  unfolding text
  minus_text a b c i k m n p q h e = go v (ap (λ u. lt_z u (pos 0)) (sym as_given) ∙ h) (e ∙ ap nat_abs as_given)
    where
      go : (v : ℤ) → lt_z v (pos 0) ≡ true → n ≡ nat_abs v → Put a c i m (text v)
      go (pos x) h e = absurd (let z = ltb-true x 0 h in omega arith)
      go (negsuc x) h e = put_then a b c i k m (45 ∷ []) _ p (subst (λ u. Put b c k m (decimal 7 u)) e q)

  pub plus_text : (a c : List ℕ) (i m n : ℕ) → Put a c i m (decimal 7 n) → lt_z (to_z w32 (of_z w32 v)) (pos 0) ≡ false → n ≡ nat_abs (to_z w32 (of_z w32 v)) → Put a c i m (text v)
  unfolding text
  plus_text a c i m n p h e = go v (ap (λ u. lt_z u (pos 0)) (sym as_given) ∙ h) (e ∙ ap nat_abs as_given)
    where
      go : (v : ℤ) → lt_z v (pos 0) ≡ false → n ≡ nat_abs v → Put a c i m (text v)
      go (pos x) h e = subst (λ u. Put a c i m (decimal 7 u)) e p
      go (negsuc x) h e = no_way (sym h)
