-- RULES, "Fractions": fractions, and points whose coordinates are fractions. Assumes nothing.
use Rattle.std.specs.Prelude.{ℤ, pos, ◌+ℤ◌, ◌-ℤ◌, ◌*ℤ◌}
use Rattle.basics.specs.Orders.{◌≼◌, ◌≺◌, num⁺, ◌⊠⁺◌}

-- a whole number on top, and one above 0 below
pub record Frac : Type 0 where
  pub top : ℤ
  pub low : ℤ
  pub up : pos 0 ≺ low

-- compared multiplied out
infix 4 ◌≤ᶠ◌ ◌<ᶠ◌
abbrev pub ◌≤ᶠ◌ : Frac → Frac → Type 0
a ≤ᶠ b = a.top *ℤ b.low ≼ b.top *ℤ a.low

abbrev pub ◌<ᶠ◌ : Frac → Frac → Type 0
a <ᶠ b = a.top *ℤ b.low ≺ b.top *ℤ a.low

abbrev pub whole : ℤ → Frac
whole z = record { top = z; low = pos 1; up = num⁺ 0 }

infixl 6 ◌+ᶠ◌ ◌-ᶠ◌
abbrev pub ◌+ᶠ◌ : Frac → Frac → Frac
a +ᶠ b = record { top = a.top *ℤ b.low +ℤ b.top *ℤ a.low; low = a.low *ℤ b.low; up = a.up ⊠⁺ b.up }

abbrev pub ◌-ᶠ◌ : Frac → Frac → Frac
a -ᶠ b = record { top = a.top *ℤ b.low -ℤ b.top *ℤ a.low; low = a.low *ℤ b.low; up = a.up ⊠⁺ b.up }

abbrev pub sqᶠ : Frac → Frac
sqᶠ a = record { top = a.top *ℤ a.top; low = a.low *ℤ a.low; up = a.up ⊠⁺ a.up }

-- ---- points of the plane, and their squared distance along the straight line
pub record Point : Type 0 where
  pub x : Frac
  pub y : Frac

abbrev pub dist² : Point → Point → Frac
dist² P Q = sqᶠ (P.x -ᶠ Q.x) +ᶠ sqᶠ (P.y -ᶠ Q.y)

-- a distance and a length are compared by their squares
pub record Closer (P Q : Point) (l : Frac) : Type 0 where
  pub closer : dist² P Q <ᶠ sqᶠ l

pub record AtMost (P Q : Point) (l : Frac) : Type 0 where
  pub most : dist² P Q ≤ᶠ sqᶠ l

pub record AtLeast (P Q : Point) (l : Frac) : Type 0 where
  pub least : sqᶠ l ≤ᶠ dist² P Q
