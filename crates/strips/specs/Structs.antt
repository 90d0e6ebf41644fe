-- What the code's structs stand for in the model. Assumes nothing.
use Rattle.std.specs.Prelude.{◌≡◌, cond, ℕ, ◌+◌, ◌≤◌, ℤ, pos, nat_abs, ◌+ℤ◌}
use Rattle.integers.specs.Absolute.{absℤ}
use Rattle.integers.specs.Whole.{rest}
use Rattle.model.specs.Strips as model
use Rattle.model.specs.Strips.{PowerForm, Side, Strip, denominator, middle, quotient, curved, straight}
use Rattle.ranges.specs.PowerForm.{FormSized}
use Rattle.rounding.specs.declared.Quotient.{Quotient}
use Rattle.strips.specs.declared.Power.{Power}
use Rattle.strips.specs.declared.Linear.{Linear}
use Rattle.strips.specs.declared.Coefficients.{Coefficients}
use Rattle.strips.specs.declared.Shape.{Shape}
use Rattle.strips.specs.declared.Shape.TheVariants.{Line, Cubic}

abbrev pub form : Power → PowerForm
form c = record { c0 = c.c0; c1 = c.c1; c2 = c.c2; c3 = c.c3 }

abbrev pub linear : Linear → PowerForm
linear c = record { c0 = c.c0; c1 = c.c1; c2 = pos 0; c3 = pos 0 }

-- ---- a cubic's four numerators, none so large that rounding it leaves 64 bits
abbrev pub tops : Coefficients ℤ → model.Numerators
tops t = record { centre = t.centre; axis = t.axis; second = t.second; third = t.third }

-- what `rounded` takes: twice as much and N³ stay below 2^63
abbrev pub top_most : ℕ
top_most = 3900000000000000000

pub record TopsSized (a : model.Numerators) : Type 0 where
  pub centre_size : nat_abs a.centre ≤ top_most
  pub axis_size : nat_abs a.axis ≤ top_most
  pub second_size : nat_abs a.second ≤ top_most
  pub third_size : nat_abs a.third ≤ top_most

-- a number of the code: what an axis has of a3
abbrev pub share : ℕ
share = 12

-- ---- their quotients. 1 where one was rounded, and 0 where it was whole
abbrev pub left : Quotient → ℕ
left q = cond q.whole 0 1

abbrev pub left_all : Coefficients Quotient → ℕ
left_all q = left q.centre + left q.axis + left q.second + left q.third

pub record Rounded (q : Quotient) (x : ℤ) (k : ℕ) : Type 0 where
  pub nearest_is : q.nearest ≡ quotient x k
  pub rest_is : rest x k ≡ left q

pub record RoundedAll (q : Coefficients Quotient) (a : model.Numerators) (k : ℕ) : Type 0 where
  pub centre : Rounded q.centre a.centre k
  pub axis : Rounded q.axis a.axis k
  pub second : Rounded q.second a.second k
  pub third : Rounded q.third a.third k

-- the strip that they make with a pad
abbrev pub padded : Coefficients Quotient → ℕ → Side
padded q p = record { centre = q.centre.nearest; axis = q.axis.nearest; box = absℤ q.second.nearest +ℤ absℤ q.third.nearest +ℤ pos p }

-- a cubic's strip in both coordinates, for each N and m
abbrev pub curved_both : Power → Power → ℕ → ℕ → Strip
curved_both p q n m = record { x = curved (form p) n m; y = curved (form q) n m }

-- ---- a shape's strips, piece k of depth d for each d and k, and the sizes for which none of their numbers leaves 64 bits
unfoldable pub strips_of : Shape → ℕ → ℕ → Strip
strips_of (Line x y) d k = record { x = straight x.c0 x.c1 (denominator d) (middle k); y = straight y.c0 y.c1 (denominator d) (middle k) }
strips_of (Cubic x y) d k = curved_both x y (denominator d) (middle k)

abbrev pub ShapeSized : Shape → Type 0
ShapeSized (Line x y) = FormSized (linear x) × FormSized (linear y)
ShapeSized (Cubic x y) = FormSized (form x) × FormSized (form y)
