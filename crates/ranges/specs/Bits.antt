-- The tests for 0 and for 1 of a number, as code makes them of its bits. Assumes nothing.
use Rattle.std.specs.Prelude.{◌≡◌, refl, Bool, true, false, ℕ, T, eqb, ℤ, pos, negsuc}
use Rattle.std.proofs.Common.{sym, ◌∙◌, ap, subst, SFits, to_z, of_z, eq-eqb, ne_eqb, eqb-true}
use Rattle.std.specs.Int.{Width, w32, w64}
use Rattle.std.proofs.lemmas.Int.{to_z-of_z}
use Rattle.std.specs.Int.Signed.{non_neg}
use Rattle.std.proofs.lemmas.Bool.{eqb-false}
use Rattle.model.specs.Jobs.{is_zero, is_one}

-- a test for being k, whichever of the two stands first
abbrev is_number : ℕ → ℤ → Bool
is_number k (pos n) = eqb n k
is_number k (negsuc n) = false

turned : (k n : ℕ) → eqb k n ≡ eqb n k
turned k n = go (eqb k n) refl
  where
    go : (t : Bool) → eqb k n ≡ t → t ≡ eqb n k
    go true e = sym (eq-eqb n k (sym (eqb-true k n e)))
    go false e = sym (ne_eqb n k (λ h. eqb-false k n e (sym h)))

-- in bits of any width w, where k is not the bits of a number below 0
module _ (w : Width) (k : ℕ) (h : to_z w k ≡ pos k) where
  one_way : (z : ℤ) → SFits w z → eqb (of_z w z) k ≡ is_number k z
  one_way (pos n) f = refl
  one_way (negsuc n) f = ne_eqb (of_z w (negsuc n)) k (λ e. below (sym (to_z-of_z w (negsuc n) f) ∙ ap (to_z w) e ∙ h))
    where
      below : {n k : ℕ} → negsuc n ≡ pos k → ⊥
      below e = absurd (subst (λ z. T (non_neg z)) (sym e) tt)

  is_number_is : (z : ℤ) → SFits w z → (eqb (of_z w z) k ≡ is_number k z) × (eqb k (of_z w z) ≡ is_number k z)
  is_number_is z f = let e = one_way z f in (e, turned k (of_z w z) ∙ e)

pub is_zero_is : (z : ℤ) → SFits w32 z → (eqb (of_z w32 z) 0 ≡ is_zero z) × (eqb 0 (of_z w32 z) ≡ is_zero z)
unfolding is_zero
is_zero_is (pos n) f = is_number_is w32 0 refl (pos n) f
is_zero_is (negsuc n) f = is_number_is w32 0 refl (negsuc n) f

pub is_zero64 : (z : ℤ) → SFits w64 z → (eqb (of_z w64 z) 0 ≡ is_zero z) × (eqb 0 (of_z w64 z) ≡ is_zero z)
unfolding is_zero
is_zero64 (pos n) f = is_number_is w64 0 refl (pos n) f
is_zero64 (negsuc n) f = is_number_is w64 0 refl (negsuc n) f

pub is_one_is : (z : ℤ) → SFits w32 z → (eqb (of_z w32 z) 1 ≡ is_one z) × (eqb 1 (of_z w32 z) ≡ is_one z)
unfolding is_one
is_one_is (pos n) f = is_number_is w32 1 refl (pos n) f
is_one_is (negsuc n) f = is_number_is w32 1 refl (negsuc n) f
