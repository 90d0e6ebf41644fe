-- A number that is told to be 0, and one that is not. Assumes nothing.
use Rattle.std.specs.Prelude.{◌≡◌, refl, true, false, T, ℤ, pos, negsuc}
use Rattle.std.proofs.Common.{ap, sym, subst, eqb-true, ne_eqb}
use Rattle.std.specs.Int.Signed.{<ℤ_irrefl}
use Rattle.integers.specs.Order.{◌≺◌}
use Rattle.model.specs.Jobs.{is_zero}

pub zero_is : (z : ℤ) → is_zero z ≡ true → z ≡ pos 0
unfolding is_zero
zero_is (pos n) e = ap pos (eqb-true n 0 e)
zero_is (negsuc n) e = absurd (subst T (sym e) tt)

pub above_is_not : (z : ℤ) → pos 0 ≺ z → is_zero z ≡ false
unfolding is_zero
above_is_not (pos n) h = ne_eqb n 0 (λ e. <ℤ_irrefl (subst (λ m. pos 0 ≺ pos m) e h))
above_is_not (negsuc n) h = refl
