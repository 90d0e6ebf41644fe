-- What the three tests mean for a point in the strip and a point in the cell: passed, and failed. Assumes nothing.
use Rattle.std.specs.Prelude.{◌≡◌, refl, true, false, ℕ, zero, suc, ◌⊎◌, ℤ, negsuc, nat_abs, ◌+ℤ◌, ◌-ℤ◌, ◌*ℤ◌}
use Rattle.std.proofs.Common.{sym, subst}
use Rattle.std.proofs.Math.Logic.{inl, inr, ⊎_elim}
use Rattle.std.proofs.Math.IntN.{pos, zero-*ℤ}
use Rattle.std.specs.Int.Signed.{le_z, le_z_yes, pos-nat_abs, yes_non_neg}
use Rattle.integers.specs.RingSolver.{◌^ℤ◌, name₂, reify}
use Rattle.integers.specs.Order.{◌≼◌, ◌≺◌, num, num⁺, ◌⊞◌, sq, pos_≼, ≼_refl}
use Rattle.integers.specs.Omega.{zarith}
use Rattle.integers.specs.Inequalities.{weak, split≼, ◌⊠⁺◌, ◌⊞⁺◌, ≺_≼_trans}
use Rattle.integers.specs.Absolute.{absℤ, abs_nonneg}
use Rattle.model.specs.Fractions.{Frac, Point, dist², Closer, AtMost, AtLeast}
use Rattle.model.specs.Exact.{Points}
use Rattle.model.specs.Jobs.{is_zero}
use Rattle.model.specs.Strips.{Strip, fits, short}
use Rattle.model.specs.Roots.{root}
use Rattle.model.specs.Explore.{Cell, farthest, at_least0, room, closest, farthest², closest², is_inside, is_away₁, is_away₂, length_of, has_axis}
use Rattle.integers.specs.Within.{Within}
use Rattle.enclosure.specs.Covers.{In}
use Rattle.integers.specs.Tests.{lt_true, lt_false, le_true, le_false, both, not_both}
use Rattle.verdicts.specs.AnswerCases.{clash}
use Rattle.verdicts.specs.Apart.{InCell, apart_x, apart_y, apart_d, apart_up, apart_is, spread_x, spread_y}
use Rattle.verdicts.specs.Distances.{reach_bound, gap_bound, most_squared, least_squared, below, across_far, band_upper, band_lower, grown_reach, grown_gap}
use Rattle.verdicts.specs.Roots.{root_reaches}

-- lengths in fine units, and in halves of them
abbrev pub fine : ℤ → Frac
fine n = record { top = n; low = pos 16; up = num⁺ 15 }

abbrev pub half_fine : ℤ → Frac
half_fine n = record { top = n; low = pos 32; up = num⁺ 31 }

-- for a cell of half side s and a grain T, both coordinates of a short strip and of the cell spread over u = 2 s + 32 T; three halves of it are 16 E
abbrev pub spill : ℤ → ℤ → ℤ
spill s T = pos 2 *ℤ s +ℤ pos 32 *ℤ T

-- 0 if negative
pub at0_nonneg : (z : ℤ) → pos 0 ≼ at_least0 z
at0_nonneg (pos n) = num n
at0_nonneg (negsuc n) = num 0

pub at0_least : (z : ℤ) → z ≼ at_least0 z
at0_least (pos n) = ≼_refl refl
at0_least (negsuc n) = le_z_yes tt

-- the positive part times D stays below what is not negative
at0_times : (z D m : ℤ) → pos 0 ≼ m → z *ℤ D ≼ m → at_least0 z *ℤ D ≼ m
at0_times (pos n) D m hm h = h
at0_times (negsuc n) D m hm h = subst (λ t. t ≼ m) (sym (zero-*ℤ D)) hm

-- the root
pub length_reaches : (S : Strip) → S.x.axis *ℤ S.x.axis +ℤ S.y.axis *ℤ S.y.axis ≼ length_of S *ℤ length_of S
length_reaches S =
    let n : ℤ = S.x.axis *ℤ S.x.axis +ℤ S.y.axis *ℤ S.y.axis in
    subst (λ t. t ≼ length_of S *ℤ length_of S) (pos-nat_abs n (yes_non_neg (sq S.x.axis ⊞ sq S.y.axis))) (pos_≼ (root_reaches (nat_abs n)))

-- it is above 0 where the axis is not (0, 0): what is not 0 has a square above 0
square_above : (p : ℤ) → is_zero p ≡ false → pos 0 ≺ p *ℤ p
unfolding is_zero
square_above (pos zero) e = clash (cc)
square_above (pos (suc n)) e = num⁺ n ⊠⁺ num⁺ n
square_above (negsuc n) e = num⁺ n ⊠⁺ num⁺ n

pub squares_above : (p q : ℤ) → (is_zero p ≡ false) ⊎ (is_zero q ≡ false) → pos 0 ≺ p *ℤ p +ℤ q *ℤ q
squares_above p q (inl e) = square_above p e ⊞⁺ sq q
squares_above p q (inr e) = swap p q (square_above q e ⊞⁺ sq p)
  where
    swap : (p q : ℤ) → pos 0 ≺ q *ℤ q +ℤ p *ℤ p → pos 0 ≺ p *ℤ p +ℤ q *ℤ q
    swap p q = name₂ p q λ σ a b. simp (a, b, reify, σ) (omega zarith)

pub length_above : (S : Strip) → has_axis S ≡ true → pos 0 ≺ length_of S
length_above S e =
    positive (root (nat_abs (S.x.axis *ℤ S.x.axis +ℤ S.y.axis *ℤ S.y.axis)))
    (≺_≼_trans (squares_above S.x.axis S.y.axis (not_both (is_zero S.x.axis) (is_zero S.y.axis) e)) (length_reaches S))
  where
    positive : (n : ℕ) → pos 0 ≺ pos n *ℤ pos n → pos 0 ≺ pos n
    positive zero h = h
    positive (suc n) h = num⁺ n

module _ (r : ℤ) (c : Cell) (S : Strip) (P Q : Point) (i : In S P) (j : InCell c Q) where
  -- 16 |x| is at most the farthest, and at least the room, times D
  reach_x : Within (pos 16 *ℤ apart_x P Q) (farthest c.cx c.s S.x *ℤ apart_d P Q)
  reach_x = reach_bound (apart_x P Q) (apart_d P Q) i.e.low i.e.top (c.cx -ℤ S.x.centre) S.x.axis (S.x.box +ℤ c.s) (apart_up P Q) i.e.up i.unit (spread_x S c P Q i j)

  reach_y : Within (pos 16 *ℤ apart_y P Q) (farthest c.cy c.s S.y *ℤ apart_d P Q)
  reach_y = reach_bound (apart_y P Q) (apart_d P Q) i.e.low i.e.top (c.cy -ℤ S.y.centre) S.y.axis (S.y.box +ℤ c.s) (apart_up P Q) i.e.up i.unit (spread_y S c P Q i j)

  least_x : room c.cx c.s S.x *ℤ apart_d P Q ≼ pos 16 *ℤ absℤ (apart_x P Q)
  least_x = gap_bound (apart_x P Q) (apart_d P Q) i.e.low i.e.top (c.cx -ℤ S.x.centre) S.x.axis (S.x.box +ℤ c.s) (apart_up P Q) i.e.up i.unit (spread_x S c P Q i j)

  least_y : room c.cy c.s S.y *ℤ apart_d P Q ≼ pos 16 *ℤ absℤ (apart_y P Q)
  least_y = gap_bound (apart_y P Q) (apart_d P Q) i.e.low i.e.top (c.cy -ℤ S.y.centre) S.y.axis (S.y.box +ℤ c.s) (apart_up P Q) i.e.up i.unit (spread_y S c P Q i j)

  nonneg16 : (x : ℤ) → pos 0 ≼ pos 16 *ℤ absℤ x
  nonneg16 x = go (absℤ x) (abs_nonneg x)
    where
      go : (a : ℤ) → pos 0 ≼ a → pos 0 ≼ pos 16 *ℤ a
      go a = name₂ a a λ σ p q. simp (p, reify, σ) (omega zarith)

  -- ---- the squared distance is between the strip's least and greatest, in fine units squared
  pub at_most_farthest : (dist² P Q).top *ℤ pos 256 ≼ farthest² c S *ℤ (dist² P Q).low
  at_most_farthest = apart_is P Q (farthest² c S) (pos 256) ◌≼◌
      (most_squared (apart_x P Q) (apart_y P Q) (apart_d P Q) (farthest c.cx c.s S.x) (farthest c.cy c.s S.y) reach_x reach_y)

  pub at_least_closest : closest² c S *ℤ (dist² P Q).low ≼ (dist² P Q).top *ℤ pos 256
  at_least_closest = apart_is P Q (closest² c S) (pos 256) (λ a b. b ≼ a)
      (least_squared (apart_x P Q) (apart_y P Q) (apart_d P Q) (closest c.cx c.s S.x) (closest c.cy c.s S.y) (apart_up P Q) (at0_nonneg (room c.cx c.s S.x)) (at0_nonneg (room c.cy c.s S.y))
      (at0_times (room c.cx c.s S.x) (apart_d P Q) (pos 16 *ℤ absℤ (apart_x P Q)) (nonneg16 (apart_x P Q)) least_x)
      (at0_times (room c.cy c.s S.y) (apart_d P Q) (pos 16 *ℤ absℤ (apart_y P Q)) (nonneg16 (apart_y P Q)) least_y))

  -- ---- passed
  pub inside_means : is_inside r c S ≡ true → Closer P Q (fine r)
  unfolding is_inside
  inside_means e = record { closer = below (dist² P Q).top (farthest² c S) (dist² P Q).low r (dist² P Q).up at_most_farthest (lt_true e) }

  pub away₂_means : pos 0 ≼ r → is_away₂ r c S ≡ true → AtLeast P Q (fine r)
  unfolding is_away₂
  away₂_means hr e = let k = both (has_axis S) (le_z (r *ℤ length_of S) _) e in record {
    least = apart_is P Q (r *ℤ r) (pos 256) (λ a b. b ≼ a)
        (across_far (apart_x P Q) (apart_y P Q) (apart_d P Q) i.e.low i.e.top (c.cx -ℤ S.x.centre) (c.cy -ℤ S.y.centre) S.x.axis S.y.axis (S.x.box +ℤ c.s) (S.y.box +ℤ c.s) r (length_of S)
        (apart_up P Q) i.e.up hr (length_above S k.0) (length_reaches S) (spread_x S c P Q i j) (spread_y S c P Q i j) (le_true k.1));
  }

  -- ---- failed, where the strip is short
  module _ (T : ℤ) (sh : short T S ≡ true) where
    fit_x : absℤ S.x.axis +ℤ S.x.box ≼ pos 16 *ℤ T
    fit_x = le_true (both (fits T S.x) (fits T S.y) sh).0

    fit_y : absℤ S.y.axis +ℤ S.y.box ≼ pos 16 *ℤ T
    fit_y = le_true (both (fits T S.x) (fits T S.y) sh).1

    pub not_inside_means : pos 0 ≼ spill c.s T → is_inside r c S ≡ false → (pos 2 *ℤ r ≺ pos 3 *ℤ spill c.s T) ⊎ AtLeast P Q (half_fine (pos 2 *ℤ r -ℤ pos 3 *ℤ spill c.s T))
    unfolding is_inside
    not_inside_means hu e = ⊎_elim
        (λ (l : pos 3 *ℤ spill c.s T ≼ pos 2 *ℤ r). inr (record {
          least = apart_is P Q ((pos 2 *ℤ r -ℤ pos 3 *ℤ spill c.s T) ^ℤ 2) (pos 1024) (λ a b. b ≼ a)
              (band_lower (apart_x P Q) (apart_y P Q) (apart_d P Q) (farthest c.cx c.s S.x) (farthest c.cy c.s S.y) r (spill c.s T) (apart_up P Q) hu reach_x reach_y
              (grown_reach (absℤ (c.cx -ℤ S.x.centre)) (absℤ S.x.axis) S.x.box c.s T (apart_d P Q) (pos 16 *ℤ absℤ (apart_x P Q)) (weak (apart_up P Q)) fit_x least_x)
              (grown_reach (absℤ (c.cy -ℤ S.y.centre)) (absℤ S.y.axis) S.y.box c.s T (apart_d P Q) (pos 16 *ℤ absℤ (apart_y P Q)) (weak (apart_up P Q)) fit_y least_y)
              (lt_false e) l);
        }))
        (λ (l : pos 2 *ℤ r ≺ pos 3 *ℤ spill c.s T). inl l)
        (split≼ (pos 3 *ℤ spill c.s T) (pos 2 *ℤ r))

    pub not_away_means : pos 0 ≼ r → pos 0 ≼ spill c.s T → is_away₁ r c S ≡ false → AtMost P Q (half_fine (pos 2 *ℤ r +ℤ pos 3 *ℤ spill c.s T))
    unfolding is_away₁
    not_away_means hr hu e = record {
      most = apart_is P Q ((pos 2 *ℤ r +ℤ pos 3 *ℤ spill c.s T) ^ℤ 2) (pos 1024) ◌≼◌
          (band_upper (apart_x P Q) (apart_y P Q) (apart_d P Q) (closest c.cx c.s S.x) (closest c.cy c.s S.y) r (spill c.s T) hr hu
          (grown_gap (pos 16 *ℤ apart_x P Q) (absℤ (c.cx -ℤ S.x.centre)) (absℤ S.x.axis) S.x.box c.s T (apart_d P Q) (closest c.cx c.s S.x) (weak (apart_up P Q)) fit_x (at0_least (room c.cx c.s S.x)) reach_x)
          (grown_gap (pos 16 *ℤ apart_y P Q) (absℤ (c.cy -ℤ S.y.centre)) (absℤ S.y.axis) S.y.box c.s T (apart_d P Q) (closest c.cy c.s S.y) (weak (apart_up P Q)) fit_y (at0_least (room c.cy c.s S.y)) reach_y)
          (weak (le_false e)));
    }

-- ---- a strip's answer, of all points of the cell at once
abbrev pub AllCloser : ℤ → Cell → Points
AllCloser r c P = (Q : Point) → InCell c Q → Closer P Q (fine r)

abbrev pub AllClear : ℤ → Cell → Points
AllClear r c P = (Q : Point) → InCell c Q → AtLeast P Q (fine r)

abbrev pub AllAtLeast : ℤ → ℤ → Cell → Points
AllAtLeast r T c P = (Q : Point) → InCell c Q → (pos 2 *ℤ r ≺ pos 3 *ℤ spill c.s T) ⊎ AtLeast P Q (half_fine (pos 2 *ℤ r -ℤ pos 3 *ℤ spill c.s T))

abbrev pub AllAtMost : ℤ → ℤ → Cell → Points
AllAtMost r T c P = (Q : Point) → InCell c Q → AtMost P Q (half_fine (pos 2 *ℤ r +ℤ pos 3 *ℤ spill c.s T))
