-- One strip and one cell, x and y from the strip's centre to the cell's: where it is not away by both tests, and how far along one axis that can be. Assumes nothing.
use Rattle.std.specs.Prelude.{◌≡◌, refl, Bool, true, false, not, ◌&&◌, ◌||◌, T, ℤ, pos, ◌+ℤ◌, ◌-ℤ◌}
use Rattle.std.specs.Int.Signed.{le_z}
use Rattle.integers.specs.Order.{◌≼◌}
use Rattle.integers.specs.Inequalities.{weak}
use Rattle.integers.specs.Absolute.{absℤ}
use Rattle.integers.specs.Tests.{is_true, negated, or_false}
use Rattle.model.specs.Jobs.{is_zero}
use Rattle.ranges.specs.Zeros.{zero_is}
use Rattle.strip_tests.specs.PlainTests.{inside_by, apart_by, slanted_by}
use Rattle.row_laws.specs.Clips.{near_x, near_y, inside_close_x, inside_close_y}
use Rattle.row_laws.specs.Slanted.{along_x_apart, along_y_apart}

-- where the first of two tests follows from the second, it says all
first_says : (a b : Bool) → (b ≡ true → a ≡ true) → not (a || b) ≡ not a
first_says true b f = refl
first_says false true f = f refl
first_says false false f = refl

neither : (a b : Bool) → not (a || b) ≡ (not b && not a)
neither true true = refl
neither true false = refl
neither false true = refl
neither false false = refl

module _ (x y p q a b r : ℤ) (hr : pos 0 ≼ r) where
  abbrev is_apart : Bool
  is_apart = apart_by (absℤ x) (absℤ y) (absℤ p +ℤ a) (absℤ q +ℤ b) r

  abbrev is_slanted : Bool
  is_slanted = slanted_by x y p q a b r

  -- an axis along x or y needs no slanted test
  pub not_away : not (is_apart || is_slanted) ≡ ((is_zero p || (is_zero q || not is_slanted)) && not is_apart)
  not_away = go (is_zero p) (is_zero q) refl refl
    where
      go : (s t : Bool) → is_zero p ≡ s → is_zero q ≡ t → not (is_apart || is_slanted) ≡ ((s || (t || not is_slanted)) && not is_apart)
      go true t e f = first_says is_apart is_slanted (λ k. along_y_apart x y p q a b r hr k (zero_is p e))
      go false true e f = first_says is_apart is_slanted (λ k. along_x_apart x y p q a b r hr k (zero_is q f))
      go false false e f = neither is_apart is_slanted

  not_apart : T (not (is_apart || is_slanted)) → is_apart ≡ false
  not_apart t = (or_false is_apart is_slanted (negated (is_apart || is_slanted) (is_true (not (is_apart || is_slanted)) t))).0

  -- a cell that the strip is not away from is within the half side and the reach
  pub reached_x : T (not (is_apart || is_slanted)) → T (le_z (absℤ x) (absℤ p +ℤ a +ℤ r))
  reached_x t = (weak (near_x (absℤ x) (absℤ y) (absℤ p +ℤ a) (absℤ q +ℤ b) r hr (not_apart t))).le

  pub reached_y : T (not (is_apart || is_slanted)) → T (le_z (absℤ y) (absℤ q +ℤ b +ℤ r))
  reached_y t = (weak (near_y (absℤ x) (absℤ y) (absℤ p +ℤ a) (absℤ q +ℤ b) r hr (not_apart t))).le

-- one that it is inside of is within the reach less the half side
module _ (x y ex ey r : ℤ) (hr : pos 0 ≼ r) (t : T (inside_by (absℤ x) (absℤ y) ex ey r)) where
  pub deep_x : T (le_z (absℤ x) (r -ℤ ex))
  deep_x = (inside_close_x (absℤ x) (absℤ y) ex ey r hr (is_true (inside_by (absℤ x) (absℤ y) ex ey r) t)).le

  pub deep_y : T (le_z (absℤ y) (r -ℤ ey))
  deep_y = (inside_close_y (absℤ x) (absℤ y) ex ey r hr (is_true (inside_by (absℤ x) (absℤ y) ex ey r) t)).le
