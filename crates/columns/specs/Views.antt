-- A strip as a frame's first cell sees it, and what it says of the cells. Assumes nothing.
use Rattle.std.specs.Prelude.{◌≡◌, Bool, not, ◌||◌, ℕ, ℤ, pos, ◌+ℤ◌, ◌-ℤ◌, ◌*ℤ◌}
use Rattle.std.proofs.Common.{sym, ap, ap₂, ◌∙◌}
use Rattle.integers.specs.RingSolver.{name₁, reify, close, ok}
use Rattle.integers.specs.Absolute.{absℤ}
use Rattle.model.specs.Jobs.{is_zero}
use Rattle.model.specs.Strips.{Strip}
use Rattle.model.specs.Explore.{Answer, by_tests, judged}
use Rattle.inheritance.specs.Blocks.{block, middle}
use Rattle.strip_tests.specs.PlainTests.{inside_by, apart_by, slanted_by, judge_by, judge_is}
use Rattle.row_laws.specs.Columns.{off, smallest_off, is_near, is_in}
use Rattle.columns.specs.declared.Frame.{Frame}
use Rattle.columns.specs.declared.View.{View}

abbrev pub view_of : Frame → Strip → View
view_of f S = record {
  x = S.x.centre -ℤ (f.x +ℤ f.q);
  y = S.y.centre -ℤ (f.y +ℤ f.q);
  p = S.x.axis;
  q = S.y.axis;
  a = S.x.box +ℤ f.q;
  b = S.y.box +ℤ f.q;
  ex = absℤ S.x.axis +ℤ (S.x.box +ℤ f.q);
  ey = absℤ S.y.axis +ℤ (S.y.box +ℤ f.q);
}

-- ---- in column i of a row that is w from the strip
-- not apart by the upright boxes
abbrev pub near_at : Frame → View → ℤ → ℕ → Bool
near_at f v w i = is_near f.q v.x w v.ex v.ey f.reach (pos i)

-- inside
abbrev pub inside_at : Frame → View → ℤ → ℕ → Bool
inside_at f v w i = is_in f.q v.x w v.ex v.ey f.reach (pos i)

-- not away across the axis, or the axis lies along x or y
abbrev pub across_at : Frame → View → ℤ → ℕ → Bool
across_at f v w i = is_zero v.p || (is_zero v.q || not (slanted_by (off f.q v.x (pos i)) w v.p v.q v.a v.b f.reach))

-- ---- in the cell of column i and row j
abbrev pub away_in : Frame → View → ℕ → ℕ → Bool
away_in f v i j =
    let x : ℤ = off f.q v.x (pos i) in
    let y : ℤ = off f.q v.y (pos j) in
    apart_by (absℤ x) (absℤ y) v.ex v.ey f.reach || slanted_by x y v.p v.q v.a v.b f.reach

abbrev pub inside_in : Frame → View → ℕ → ℕ → Bool
inside_in f v i j = inside_by (absℤ (off f.q v.x (pos i))) (absℤ (off f.q v.y (pos j))) v.ex v.ey f.reach

-- how the frame judges a strip for that cell
abbrev pub asked₁ : Frame → ℕ → ℕ → Strip → Answer
asked₁ f i j = judged f.reach (block f.x f.y f.q i j 1)

once : (s : ℤ) → pos 1 *ℤ s ≡ s
once s = name₁ s λ σ p. simp (p, reify, σ) (close σ _ _ ok)

pub cell_answer : (f : Frame) (S : Strip) (i j : ℕ) → by_tests (inside_in f (view_of f S) i j) (away_in f (view_of f S) i j) ≡ asked₁ f i j S
cell_answer f S i j =
    ap₂ (λ x y. judge_by x y S.x.axis S.y.axis (S.x.box +ℤ f.q) (S.y.box +ℤ f.q) f.reach) (sym (smallest_off f.x f.q S.x.centre i)) (sym (smallest_off f.y f.q S.y.centre j))
    ∙ ap (λ t. judge_by (middle f.x f.q i 1 -ℤ S.x.centre) (middle f.y f.q j 1 -ℤ S.y.centre) S.x.axis S.y.axis (S.x.box +ℤ t) (S.y.box +ℤ t) f.reach) (sym (once f.q))
    ∙ judge_is f.reach (block f.x f.y f.q i j 1) S
