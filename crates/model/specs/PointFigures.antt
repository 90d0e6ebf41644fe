-- Figures on either side of each comparison that a result shows, of fractions, of two points' distance, and of the points of an edge and of a
-- cell. Assumes nothing.
use Rattle.std.specs.Prelude.{◌≡◌, refl, Bool, true, false, List, [], ◌∷◌, ℕ, suc, ℤ, pos, negsuc, ◌+ℤ◌, ◌-ℤ◌, ◌*ℤ◌}
use Rattle.std.proofs.Common.{sym, ap, ◌∙◌, inl, inr}
use Rattle.integers.specs.RingSolver.{◌^ℤ◌, name₁, name₂, name₄, reify, close, ok}
use Rattle.integers.specs.Order.{◌≼◌, num⁺, ◌⊠◌}
use Rattle.integers.specs.Omega.{zarith}
use Rattle.integers.specs.Inequalities.{≼_*}
use Rattle.model.specs.Jobs.{Component, Edge}
use Rattle.model.specs.Fractions.{Frac, ◌≤ᶠ◌, ◌<ᶠ◌, whole, ◌+ᶠ◌, ◌-ᶠ◌, sqᶠ, Point, dist², Closer, AtMost, AtLeast}
use Rattle.model.specs.Exact.{bernstein, coordinate_at, Curve, Outline, CellPoint}
use Rattle.model.specs.FigureTables.{AllHold, ◌and◌, unequal, cubic, line, edge}

-- ---- shorthands
-- n over d + 1
abbrev pub over : ℤ → ℕ → Frac
over n d = record { top = n; low = pos (suc d); up = num⁺ d }

abbrev pub point : Frac → Frac → Point
point x y = record { x = x; y = y }

abbrev pub spot : ℤ → ℤ → Point
spot x y = point (whole x) (whole y)

-- a statement that holds, or that does not
abbrev pub Is : Bool → Type 0 → Type 0
Is true A = A
Is false A = A → ⊥

pub data Figure : Type 0 where
  -- a fraction's two numbers
  fraction : Frac → ℤ → ℤ → Figure
  less : Frac → Frac → Bool → Figure
  no_more : Frac → Frac → Bool → Figure
  -- two points and a length: closer, at most, at least
  apart : Point → Point → Frac → Bool → Bool → Bool → Figure
  -- a point of the outline, and one that is not
  on : List Edge → Point → Figure
  off : List Edge → Point → Figure
  -- whether a point is one of the cell's
  in_cell : ℕ → ℤ → ℤ → ℕ → ℕ → Point → Bool → Figure

abbrev pub Holds : Figure → Type 0
Holds (fraction f n d) = (f.top ≡ n) × (f.low ≡ d)
Holds (less a b t) = Is t (a <ᶠ b)
Holds (no_more a b t) = Is t (a ≤ᶠ b)
Holds (apart P Q l c m n) = Is c (Closer P Q l) × Is m (AtMost P Q l) × Is n (AtLeast P Q l)
Holds (on es P) = Outline es P
Holds (off es P) = Outline es P → ⊥
Holds (in_cell M X Y i j Q t) = Is t (CellPoint M X Y i j Q)

-- ---- the table
abbrev pub uneven : Component
uneven = cubic (pos 17) (pos 1000) (negsuc 2999) (pos 5001)

-- lines
abbrev pub falling : Component
falling = line (pos 17) (negsuc 2999)

abbrev pub level : Component
level = line (pos 7) (pos 7)

abbrev pub rising : Component
rising = cubic (pos 0) (pos 0) (pos 0) (pos 8)

abbrev pub point_figures : List Figure
point_figures =
    fraction (over (pos 2) 2 +ᶠ over (negsuc 0) 4) (pos 7) (pos 15)
    ∷ fraction (over (pos 2) 2 -ᶠ over (negsuc 0) 4) (pos 13) (pos 15)
    ∷ fraction (sqᶠ (over (negsuc 1) 2)) (pos 4) (pos 9)
    ∷ fraction (whole (negsuc 4)) (negsuc 4) (pos 1)
    -- (1/2, 5) and (3, 1/3)
    ∷ fraction (dist² (point (over (pos 1) 1) (whole (pos 5))) (point (whole (pos 3)) (over (pos 1) 2))) (pos 1009) (pos 36)
    -- 2/3 against 2/3, 5/8 and 5/7
    ∷ less (over (pos 2) 2) (over (pos 4) 5) false
    ∷ no_more (over (pos 2) 2) (over (pos 4) 5) true
    ∷ less (over (pos 2) 2) (over (pos 5) 6) true
    ∷ no_more (over (pos 2) 2) (over (pos 5) 6) true
    ∷ less (over (pos 2) 2) (over (pos 5) 7) false
    ∷ no_more (over (pos 2) 2) (over (pos 5) 7) false
    -- a distance of 5 against a little less, 5 and a little more
    ∷ apart (spot (pos 1) (negsuc 1)) (spot (pos 4) (pos 2)) (over (pos 4999) 999) false false true
    ∷ apart (spot (pos 1) (negsuc 1)) (spot (pos 4) (pos 2)) (whole (pos 5)) false true true
    ∷ apart (spot (pos 1) (negsuc 1)) (spot (pos 4) (pos 2)) (over (pos 5001) 999) true true false
    -- an edge at 0, 2/5 and 1: the second of two, and its point at 2/5
    ∷ fraction (coordinate_at uneven (over (pos 2) 4)) (negsuc 13532) (pos 125)
    ∷ on (edge rising rising ∷ edge uneven rising ∷ []) (spot (pos 17) (pos 0))
    ∷ on (edge rising rising ∷ edge uneven rising ∷ []) (point (over (negsuc 13532) 124) (over (pos 64) 124))
    ∷ on (edge rising rising ∷ edge uneven rising ∷ []) (spot (pos 5001) (pos 8))
    ∷ on (edge rising uneven ∷ []) (spot (pos 0) (pos 17))
    -- a line at 0, 2/5 and 1: from 17 to −3,000
    ∷ on (edge falling rising ∷ []) (spot (pos 17) (pos 0))
    ∷ on (edge falling level ∷ []) (point (over (negsuc 5948) 4) (over (pos 35) 4))
    ∷ on (edge falling level ∷ []) (spot (negsuc 2999) (pos 7))
    -- where the same edge would be at 2 and at −1
    ∷ off (edge rising rising ∷ []) (spot (pos 64) (pos 64))
    ∷ off (edge rising rising ∷ []) (spot (negsuc 7) (negsuc 7))
    -- its x at 0 with its y at 1
    ∷ off (edge rising rising ∷ []) (spot (pos 0) (pos 8))
    ∷ off [] (spot (pos 0) (pos 0))
    -- a cell of side 4 in column 2 and row 1, from (−3, 5): x from 5 to 9, y from 9 to 13. Its corners, and a little beyond each side
    ∷ in_cell 2 (negsuc 2) (pos 5) 2 1 (spot (pos 5) (pos 9)) true
    ∷ in_cell 2 (negsuc 2) (pos 5) 2 1 (spot (pos 9) (pos 9)) true
    ∷ in_cell 2 (negsuc 2) (pos 5) 2 1 (spot (pos 5) (pos 13)) true
    ∷ in_cell 2 (negsuc 2) (pos 5) 2 1 (spot (pos 9) (pos 13)) true
    ∷ in_cell 2 (negsuc 2) (pos 5) 2 1 (point (over (pos 13) 1) (over (pos 21) 1)) true
    ∷ in_cell 2 (negsuc 2) (pos 5) 2 1 (point (over (pos 4999) 999) (whole (pos 10))) false
    ∷ in_cell 2 (negsuc 2) (pos 5) 2 1 (point (over (pos 9001) 999) (whole (pos 10))) false
    ∷ in_cell 2 (negsuc 2) (pos 5) 2 1 (point (whole (pos 7)) (over (pos 8999) 999)) false
    ∷ in_cell 2 (negsuc 2) (pos 5) 2 1 (point (whole (pos 7)) (over (pos 13001) 999)) false
    -- a cell of side 8 there: x from 13 to 21, y from 13 to 21
    ∷ in_cell 3 (negsuc 2) (pos 5) 2 1 (spot (pos 13) (pos 13)) true
    ∷ in_cell 3 (negsuc 2) (pos 5) 2 1 (spot (pos 21) (pos 21)) true
    ∷ []

-- ---- the statement
-- an edge goes no farther than its ends: 8·t³ with t = u/d from 0 to 1
apart_from_last : (z b u w : ℤ) → z *ℤ w ^ℤ 3 +ℤ pos 3 *ℤ z *ℤ u *ℤ w ^ℤ 2 +ℤ pos 3 *ℤ z *ℤ u ^ℤ 2 *ℤ w +ℤ b *ℤ u ^ℤ 3 ≡ z *ℤ (w ^ℤ 3 +ℤ pos 3 *ℤ u *ℤ w ^ℤ 2 +ℤ pos 3 *ℤ u ^ℤ 2 *ℤ w) +ℤ b *ℤ (u *ℤ u *ℤ u)
apart_from_last z b u w = name₄ z b u w λ σ p q r s. simp (p, q, r, s, reify, σ) (close σ _ _ ok)

no_more_than : (k c : ℤ) → pos 0 *ℤ k +ℤ pos 8 *ℤ c ≡ pos 8 *ℤ c
no_more_than k c = name₂ k c λ σ p q. simp (p, q, reify, σ) (close σ _ _ ok)

eight : (u w : ℤ) → bernstein (pos 0) (pos 0) (pos 0) (pos 8) u w ≡ pos 8 *ℤ (u *ℤ u *ℤ u)
eight u w = apart_from_last (pos 0) (pos 8) u w ∙ no_more_than (w ^ℤ 3 +ℤ pos 3 *ℤ u *ℤ w ^ℤ 2 +ℤ pos 3 *ℤ u ^ℤ 2 *ℤ w) (u *ℤ u *ℤ u)

from_0 : (u d : ℤ) → pos 0 *ℤ d ≼ u *ℤ pos 1 → pos 0 ≼ u
from_0 u d = name₂ u d λ σ p q. simp (p, q, reify, σ) (omega zarith)

to_1 : (u d : ℤ) → u *ℤ pos 1 ≼ pos 1 *ℤ d → u ≼ d
to_1 u d = name₂ u d λ σ p q. simp (p, q, reify, σ) (omega zarith)

too_far : (c k : ℤ) → pos 64 ≡ pos 8 *ℤ c → pos 1 ≡ k → c ≼ k → ⊥
too_far c k = name₂ c k λ σ p q. simp (p, q, reify, σ) (omega zarith)

too_near : (c : ℤ) → negsuc 7 ≡ pos 8 *ℤ c → pos 0 ≼ c → ⊥
too_near c = name₁ c λ σ p. simp (p, reify, σ) (omega zarith)

past : Curve (edge rising rising) (spot (pos 64) (pos 64)) → ⊥
past c =
    let u : ℤ = c.t.top in
    let d : ℤ = c.t.low in
    let h : pos 0 ≼ u = from_0 u d c.from0 in
    let k : u ≼ d = to_1 u d c.to1 in
    too_far (u *ℤ u *ℤ u) (d *ℤ d *ℤ d) (ap (λ P. P.x.top) c.here ∙ eight u (d -ℤ u)) (ap (λ P. P.x.low) c.here) (≼_* (h ⊠ h) (≼_* h k h k) h k)

before : Curve (edge rising rising) (spot (negsuc 7) (negsuc 7)) → ⊥
before c =
    let u : ℤ = c.t.top in
    let d : ℤ = c.t.low in
    let h : pos 0 ≼ u = from_0 u d c.from0 in
    too_near (u *ℤ u *ℤ u) (ap (λ P. P.x.top) c.here ∙ eight u (d -ℤ u)) (h ⊠ h ⊠ h)

-- both coordinates are the same
aside : Curve (edge rising rising) (spot (pos 0) (pos 8)) → ⊥
aside c = unequal (pos 8) (pos 0) tt (ap (λ P. P.y.top) c.here ∙ sym (ap (λ P. P.x.top) c.here))

pub points_hold : AllHold Holds point_figures
points_hold =
    (refl, refl) and (refl, refl) and (refl, refl) and (refl, refl) and (refl, refl)
    and (λ h. h.lt) and record { le = tt } and record { lt = tt } and record { le = tt } and (λ h. h.lt) and (λ h. h.le)
    and ((λ h. h.closer.lt), (λ h. h.most.le), record { least = record { le = tt } })
    and ((λ h. h.closer.lt), record { most = record { le = tt } }, record { least = record { le = tt } })
    and (record { closer = record { lt = tt } }, record { most = record { le = tt } }, (λ h. h.least.le))
    and (refl, refl)
    and inr (inl (record { t = whole (pos 0); from0 = record { le = tt }; to1 = record { le = tt }; here = refl }))
    and inr (inl (record { t = over (pos 2) 4; from0 = record { le = tt }; to1 = record { le = tt }; here = refl }))
    and inr (inl (record { t = whole (pos 1); from0 = record { le = tt }; to1 = record { le = tt }; here = refl }))
    and inl (record { t = whole (pos 0); from0 = record { le = tt }; to1 = record { le = tt }; here = refl })
    and inl (record { t = whole (pos 0); from0 = record { le = tt }; to1 = record { le = tt }; here = refl })
    and inl (record { t = over (pos 2) 4; from0 = record { le = tt }; to1 = record { le = tt }; here = refl })
    and inl (record { t = whole (pos 1); from0 = record { le = tt }; to1 = record { le = tt }; here = refl })
    and (λ h. elim h [ inl c ↦ past c | inr n ↦ n ])
    and (λ h. elim h [ inl c ↦ before c | inr n ↦ n ])
    and (λ h. elim h [ inl c ↦ aside c | inr n ↦ n ])
    and (λ h. h)
    and record { column = record { first = record { le = tt }; last = record { le = tt } }; row = record { first = record { le = tt }; last = record { le = tt } } }
    and record { column = record { first = record { le = tt }; last = record { le = tt } }; row = record { first = record { le = tt }; last = record { le = tt } } }
    and record { column = record { first = record { le = tt }; last = record { le = tt } }; row = record { first = record { le = tt }; last = record { le = tt } } }
    and record { column = record { first = record { le = tt }; last = record { le = tt } }; row = record { first = record { le = tt }; last = record { le = tt } } }
    and record { column = record { first = record { le = tt }; last = record { le = tt } }; row = record { first = record { le = tt }; last = record { le = tt } } }
    and (λ h. h.column.first.le) and (λ h. h.column.last.le) and (λ h. h.row.first.le) and (λ h. h.row.last.le)
    and record { column = record { first = record { le = tt }; last = record { le = tt } }; row = record { first = record { le = tt }; last = record { le = tt } } }
    and record { column = record { first = record { le = tt }; last = record { le = tt } }; row = record { first = record { le = tt }; last = record { le = tt } } }
    and tt
