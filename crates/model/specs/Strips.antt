-- RULES, "Strips": the strip of a piece of an edge, by affine arithmetic in whole numbers. Assumes nothing.
use Rattle.std.specs.Prelude.{Bool, ◌&&◌, ℕ, ◌+◌, ◌*◌, ◌/◌, ◌^◌, ℤ, pos, ◌+ℤ◌, ◌-ℤ◌, ◌*ℤ◌}
use Rattle.std.specs.Int.Signed.{le_z}
use Rattle.basics.specs.Numbers.{◌^ℤ◌, absℤ, nearest, rest}
use Rattle.model.specs.Jobs.{Component, cubic, line, Edge}

-- ---- the power form of a cubic: a coordinate is c0 + c1·t + c2·t² + c3·t³
pub record PowerForm : Type 0 where
  pub c0 : ℤ
  pub c1 : ℤ
  pub c2 : ℤ
  pub c3 : ℤ

abbrev pub power_of : ℤ → ℤ → ℤ → ℤ → PowerForm
power_of b0 b1 b2 b3 = record {
  c0 = b0;
  c1 = pos 3 *ℤ (b1 -ℤ b0);
  c2 = pos 3 *ℤ (b0 -ℤ pos 2 *ℤ b1 +ℤ b2);
  c3 = b3 -ℤ pos 3 *ℤ b2 +ℤ pos 3 *ℤ b1 -ℤ b0;
}

-- ---- pieces: at depth d an edge has 2^d of them, and piece k is where t = (m + e)/N with N and m as here and the noise symbol e from −1 to 1
abbrev pub denominator : ℕ → ℕ
denominator d = 2 ^ (d + 1)

abbrev pub middle : ℕ → ℕ
middle k = 2 * k + 1

-- N³ times the coordinate is a0 + a1·e + a2·e² + a3·e³
abbrev pub a0 : PowerForm → ℤ → ℤ → ℤ
a0 c N m = c.c0 *ℤ N ^ℤ 3 +ℤ c.c1 *ℤ N ^ℤ 2 *ℤ m +ℤ c.c2 *ℤ N *ℤ m ^ℤ 2 +ℤ c.c3 *ℤ m ^ℤ 3

abbrev pub a1 : PowerForm → ℤ → ℤ → ℤ
a1 c N m = c.c1 *ℤ N ^ℤ 2 +ℤ pos 2 *ℤ c.c2 *ℤ N *ℤ m +ℤ pos 3 *ℤ c.c3 *ℤ m ^ℤ 2

abbrev pub a2 : PowerForm → ℤ → ℤ → ℤ
a2 c N m = c.c2 *ℤ N +ℤ pos 3 *ℤ c.c3 *ℤ m

abbrev pub a3 : PowerForm → ℤ
a3 c = c.c3

-- ---- how a quotient is rounded: up where it lies midway between two whole numbers, whatever its sign
abbrev pub quotient : ℤ → ℕ → ℤ
quotient x n = nearest x n

-- ---- strips: a slanted segment about the centre, the axis laid off both ways, thickened by the box; in one coordinate, in fine units
pub record Side : Type 0 where
  pub centre : ℤ
  pub axis : ℤ
  pub box : ℤ

pub record Strip : Type 0 where
  pub x : Side
  pub y : Side

-- ---- of a cubic
-- With e² = 1/2 + (a new symbol)/2 and e³ = (3/4)·e + (another)/4, sixteen times the coordinate has four coefficients: by itself, of e, and of
-- the two new symbols. These are their numerators over N³.
pub record Numerators : Type 0 where
  pub centre : ℤ
  pub axis : ℤ
  pub second : ℤ
  pub third : ℤ

abbrev pub numerators : PowerForm → ℤ → ℤ → Numerators
numerators c N m = record {
  centre = pos 16 *ℤ a0 c N m +ℤ pos 8 *ℤ a2 c N m;
  axis = pos 16 *ℤ a1 c N m +ℤ pos 12 *ℤ a3 c;
  second = pos 8 *ℤ a2 c N m;
  third = pos 4 *ℤ a3 c;
}

-- how many of the four are no multiples of k, so that their quotients by k are not whole
abbrev pub remainders : Numerators → ℕ → ℕ
remainders a k = rest a.centre k + rest a.axis k + rest a.second k + rest a.third k

-- A whole quotient is exact, and any other is rounded by at most 1/2: a half for each of them, rounded up, covers all roundings.
abbrev pub pad_of : ℕ → ℕ
pad_of r = (r + 1) / 2

abbrev pub side_over : Numerators → ℕ → Side
side_over a k = record {
  centre = quotient a.centre k;
  axis = quotient a.axis k;
  box = absℤ (quotient a.second k) +ℤ absℤ (quotient a.third k) +ℤ pos (pad_of (remainders a k));
}

unfoldable pub curved : PowerForm → ℕ → ℕ → Side
curved c n m = side_over (numerators c (pos n) (pos m)) (n * n * n)

-- ---- of a line, from a by g to its second end: N times the coordinate is a·N + g·m + g·e. Sixteen times it has two coefficients over N.
-- Where one of them is whole it is exact; where it is not, its rounding adds 1 to the box.
abbrev pub centre_top : ℤ → ℤ → ℤ → ℤ → ℤ
centre_top a g N m = pos 16 *ℤ (a *ℤ N +ℤ g *ℤ m)

abbrev pub axis_top : ℤ → ℤ
axis_top g = pos 16 *ℤ g

unfoldable pub straight : ℤ → ℤ → ℕ → ℕ → Side
straight a g n m = record {
  centre = quotient (centre_top a g (pos n) (pos m)) n;
  axis = quotient (axis_top g) n;
  box = pos (rest (centre_top a g (pos n) (pos m)) n + rest (axis_top g) n);
}

-- ---- of an edge
unfoldable pub side_at : Component → ℕ → ℕ → Side
side_at (cubic b0 b1 b2 b3) n m = curved (power_of b0 b1 b2 b3) n m
side_at (line a b) n m = straight a (b -ℤ a) n m

-- the strip of piece k of depth d. Both coordinates have the same e: that keeps the slant
unfoldable pub strip : Edge → ℕ → ℕ → Strip
strip e d k = record { x = side_at e.x (denominator d) (middle k); y = side_at e.y (denominator d) (middle k) }

-- a strip is short where its upright box reaches at most a grain T from its centre, either way
abbrev pub fits : ℤ → Side → Bool
fits T s = le_z (absℤ s.axis +ℤ s.box) (pos 16 *ℤ T)

abbrev pub short : ℤ → Strip → Bool
short T s = fits T s.x && fits T s.y
