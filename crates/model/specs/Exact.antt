-- RULES, "Exact": the points of a cell and of the outline, the exact verdict and the doubtful band. Nothing here is
-- read from a store. Lengths are in hundredths of a millimetre. Assumes nothing.
use Rattle.std.specs.Prelude.{◌≡◌, List, [], ◌∷◌, ◌⊎◌, ◌↔◌, ℕ, ◌+◌, ◌*◌, ◌^◌, ℤ, pos, ◌+ℤ◌, ◌-ℤ◌, ◌*ℤ◌}
use Rattle.basics.specs.Orders.{num⁺, ◌⊠⁺◌}
use Rattle.basics.specs.Numbers.{◌^ℤ◌}
use Rattle.model.specs.Jobs.{Component, cubic, line, Edge}
use Rattle.model.specs.Fractions.{Frac, ◌≤ᶠ◌, ◌<ᶠ◌, whole, Point, Closer, AtMost, AtLeast}
use Rattle.model.specs.Plates.{Verdict, clear, within, doubtful, mixed}

abbrev pub Points : Type 1
Points = Point → Type 0

-- ---- the outline's points: each edge at each fraction from 0 to 1
-- a cubic in the Bernstein form at t = u/d, with w = d − u, over d³
abbrev pub bernstein : ℤ → ℤ → ℤ → ℤ → ℤ → ℤ → ℤ
bernstein b0 b1 b2 b3 u w = b0 *ℤ w ^ℤ 3 +ℤ pos 3 *ℤ b1 *ℤ u *ℤ w ^ℤ 2 +ℤ pos 3 *ℤ b2 *ℤ u ^ℤ 2 *ℤ w +ℤ b3 *ℤ u ^ℤ 3

-- a line there: so much of its first end, and so much of its second, over d
abbrev pub linear : ℤ → ℤ → ℤ → ℤ → ℤ
linear a b u w = a *ℤ w +ℤ b *ℤ u

abbrev pub coordinate_at : Component → Frac → Frac
coordinate_at (cubic b0 b1 b2 b3) t = record { top = bernstein b0 b1 b2 b3 t.top (t.low -ℤ t.top); low = t.low ^ℤ 3; up = t.up ⊠⁺ t.up ⊠⁺ t.up }
coordinate_at (line a b) t = record { top = linear a b t.top (t.low -ℤ t.top); low = t.low; up = t.up }

abbrev pub point_at : Edge → Frac → Point
point_at e t = record { x = coordinate_at e.x t; y = coordinate_at e.y t }

pub record Curve (e : Edge) (P : Point) : Type 0 where
  pub t : Frac
  pub from0 : whole (pos 0) ≤ᶠ t
  pub to1 : t ≤ᶠ whole (pos 1)
  pub here : P ≡ point_at e t

abbrev pub Outline : List Edge → Points
Outline [] P = ⊥
Outline (e ∷ es) P = Curve e P ⊎ Outline es P

-- ---- the points of smallest cell (i, j), column before row, its border included, of side 2^M from the plate's corner (X, Y)
pub record Along (X : ℤ) (i n : ℕ) (a : Frac) : Type 0 where
  pub first : whole (X +ℤ pos (i * n)) ≤ᶠ a
  pub last : a ≤ᶠ whole (X +ℤ pos ((i + 1) * n))

pub record CellPoint (M : ℕ) (X Y : ℤ) (i j : ℕ) (Q : Point) : Type 0 where
  pub column : Along X i (2 ^ M) Q.x
  pub row : Along Y j (2 ^ M) Q.y

-- ---- the exact verdict on any cell C with any outline O
-- clear: every point of the cell is at least the reach away from every point of the outline
unfoldable pub Clear : Points → Points → ℤ → Type 0
Clear O C R = (Q : Point) → C Q → (P : Point) → O P → AtLeast P Q (whole R)

-- inside: every point of the cell has a point of the outline closer than the reach
unfoldable pub Inside : Points → Points → ℤ → Type 0
Inside O C R = (Q : Point) → C Q → (P : Point) × O P × Closer P Q (whole R)

-- mixed: neither
abbrev pub Exact : Points → Points → ℤ → Verdict → Type 0
Exact O C R clear = Clear O C R
Exact O C R within = Inside O C R
Exact O C R doubtful = ⊥
Exact O C R mixed = (Clear O C R → ⊥) × (Inside O C R → ⊥)

-- ---- the doubtful band, from R − E to R + E with E = 3·T + (3/2)·2^M; all three have the denominator 2
abbrev pub halves : ℤ → Frac
halves n = record { top = n; low = pos 2; up = num⁺ 1 }

abbrev pub twice_e : ℤ → ℕ → ℤ
twice_e T M = pos 6 *ℤ T +ℤ pos (3 * 2 ^ M)

abbrev pub r_minus_e : ℤ → ℤ → ℕ → Frac
r_minus_e R T M = halves (pos 2 *ℤ R -ℤ twice_e T M)

abbrev pub r_plus_e : ℤ → ℤ → ℕ → Frac
r_plus_e R T M = halves (pos 2 *ℤ R +ℤ twice_e T M)

-- no point of the outline is closer than l to a point of the cell; a length below 0 asks nothing
unfoldable pub NoCloser : Points → Points → Frac → Type 0
NoCloser O C l = (Q : Point) → C Q → (P : Point) → O P → (l <ᶠ whole (pos 0)) ⊎ AtLeast P Q l

-- every point of the cell has a point of the outline at l or closer
unfoldable pub SomeNear : Points → Points → Frac → Type 0
SomeNear O C l = (Q : Point) → C Q → (P : Point) × O P × AtMost P Q l

-- ---- demand 3, of the verdict x that a map has for a cell
pub record Demand3 (O C : Points) (R T : ℤ) (M : ℕ) (x : Verdict) : Type 0 where
  -- a map says clear, inside or doubtful, and never that a cell is mixed
  pub not_mixed : x ≡ mixed → ⊥
  -- clear and inside are exact
  pub if_clear : x ≡ clear → Clear O C R
  pub if_inside : x ≡ within → Inside O C R
  -- a doubtful cell lies in the band, both ways
  pub if_doubtful : x ≡ doubtful → NoCloser O C (r_minus_e R T M) × SomeNear O C (r_plus_e R T M)
  -- the verdict is the exact one exactly where it is not doubtful
  pub agrees : (v : Verdict) → Exact O C R v → (x ≡ v) ↔ (x ≡ doubtful → ⊥)
