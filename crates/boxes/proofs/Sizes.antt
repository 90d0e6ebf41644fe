-- A point's differences from a sized box fit 32 bits, and so do its ranges. Assumes nothing.
use Rattle.std.proofs.Common.{◌≡◌, refl, ap₂, ◌∙◌, ℕ, ◌+◌, ◌≤◌, ℤ, pos, negsuc, nat_abs, neg_ℤ, ◌-ℤ◌, to_z, of_z, to_z-of_z, FitsSigned, arith, le_refl, le_trans}
use Rattle.std.proofs.lemmas.Int.{ints}
use Rattle.std.specs.Int.{w32, int_max}
use Rattle.std.specs.Int.Signed.{lt_z}
use Rattle.integers.specs.Signed.{nat_abs_neg, nat_abs_add, fits32}
use Rattle.model.specs.Boxes.{Span, greater}
use Rattle.model.specs.Explore.{at_least0}
use Rattle.model.specs.Distance.{near, far}
use Rattle.ranges.specs.Sizes.{SpanSized}
use Rattle.ranges.specs.Boxes.{one_of}

abbrev range_most : ℕ
range_most = 1223959552

apart : (x y : ℤ) → nat_abs (x -ℤ y) ≤ nat_abs x + nat_abs y
apart x y = omega (arith, nat_abs_add x (neg_ℤ y), nat_abs_neg y)

-- ---- what std's `max` gives, in the model's words
pub greater_is : (a b : ℤ) → int_max a b ≡ greater a b
greater_is a b = grind (arith, ints)

pub clamped_is : (z : ℤ) → int_max z (pos 0) ≡ at_least0 z
clamped_is (pos n) = grind arith
clamped_is (negsuc n) = refl

-- ---- a difference of numbers whose sizes come to no more than a range's, as the machine makes it
module _ (x y : ℤ) (h : nat_abs x + nat_abs y ≤ range_most) where
  bare : to_z w32 (of_z w32 x) -ℤ to_z w32 (of_z w32 y) ≡ x -ℤ y
  bare =
      let a : FitsSigned w32 x = fits32 {B = range_most} (omega arith) tt in
      let b : FitsSigned w32 y = fits32 {B = range_most} (omega arith) tt in
      ap₂ ◌-ℤ◌ (to_z-of_z a) (to_z-of_z b)

  pub difference_fits : FitsSigned w32 (to_z w32 (of_z w32 x) -ℤ to_z w32 (of_z w32 y))
  difference_fits = rw bare (fits32 {B = range_most} (le_trans (apart x y) h) tt)

  pub difference : to_z w32 (of_z w32 (to_z w32 (of_z w32 x) -ℤ to_z w32 (of_z w32 y))) ≡ x -ℤ y
  difference = to_z-of_z difference_fits ∙ bare

-- ---- a point's ranges
module _ (c : ℤ) (b : Span) (h : nat_abs c ≤ 16000000) (k : SpanSized b) where
  pub least_sum : nat_abs b.least + nat_abs c ≤ range_most
  least_sum = omega (arith, k.least_size)

  pub greatest_sum : nat_abs b.greatest + nat_abs c ≤ range_most
  greatest_sum = omega (arith, k.greatest_size)

  either : (x y : ℤ) → nat_abs x ≤ range_most → nat_abs y ≤ range_most → nat_abs (greater x y) ≤ range_most
  either x y p q = one_of (lt_z x y) y x q p

  clamp_size : (z : ℤ) → nat_abs (at_least0 z) ≤ nat_abs z
  clamp_size (pos n) = le_refl n
  clamp_size (negsuc n) = omega arith

  pub near_small : nat_abs (near c b) ≤ range_most
  near_small = le_trans (clamp_size (greater (b.least -ℤ c) (c -ℤ b.greatest))) (either (b.least -ℤ c) (c -ℤ b.greatest) (omega (arith, apart b.least c, least_sum)) (omega (arith, apart c b.greatest, greatest_sum)))

  pub far_small : nat_abs (far c b) ≤ range_most
  far_small = either (c -ℤ b.least) (b.greatest -ℤ c) (omega (arith, apart c b.least, least_sum)) (omega (arith, apart b.greatest c, greatest_sum))
