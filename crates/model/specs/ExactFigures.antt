-- Figures on either side of each comparison and each number that a result shows, of what a map is judged by: the exact verdict and the
-- doubtful band. Assumes nothing.
use Rattle.std.specs.Prelude.{◌≡◌, refl, Bool, true, false, not, ◌⊎◌, ◌↔◌, List, [], ◌∷◌, ℕ, T, eqb, ℤ, pos, negsuc}
use Rattle.std.proofs.Common.{sym, subst, inl, inr, T_not}
use Rattle.std.proofs.Math.Dec.{eqb_refl}
use Rattle.model.specs.Fractions.{Frac, ◌<ᶠ◌, whole, Point, Closer, AtMost, AtLeast}
use Rattle.model.specs.Plates.{Verdict, clear, within, doubtful, mixed, letter}
use Rattle.model.specs.Exact.{Points, Clear, Inside, Exact, r_minus_e, r_plus_e, NoCloser, SomeNear, Demand3}
use Rattle.model.specs.FigureTables.{AllHold, ◌and◌}
use Rattle.model.specs.PointFigures.{over, point, spot, Is}

-- one point and no other; one of two
abbrev pub only : Point → Points
only p P = P ≡ p

abbrev pub pair : Point → Point → Points
pair p q P = (P ≡ p) ⊎ (P ≡ q)

pub data Figure : Type 0 where
  -- the band's ends at reach R, grain T and cells of side 2^M, in halves
  band : ℤ → ℤ → ℕ → ℤ → ℤ → Figure
  -- whether the verdict is exact, where the outline is the first point, the cell the two others and R the reach
  exact : Point → Point → Point → ℤ → Verdict → Bool → Figure
  -- the same, where the outline is the first two points
  between : Point → Point → Point → Point → ℤ → Verdict → Bool → Figure
  -- whether the cell, one point here, is no closer than l, and whether it has a point at l
  no_closer : Point → Point → Frac → Bool → Figure
  some_near : Point → Point → Frac → Bool → Figure
  -- both, where the outline is the first two points and the cell the two others
  bands : Point → Point → Point → Point → Frac → Bool → Bool → Figure
  -- whether a map may have the verdict x where the outline is the first point and the cell the two others, at grain T and cells of side 2^M
  allowed : Point → Point → Point → ℤ → ℤ → ℕ → Verdict → Bool → Figure

abbrev pub Holds : Figure → Type 0
Holds (band R T M a b) = ((r_minus_e R T M).top ≡ a) × ((r_minus_e R T M).low ≡ pos 2) × ((r_plus_e R T M).top ≡ b) × ((r_plus_e R T M).low ≡ pos 2)
Holds (exact p q q' R v t) = Is t (Exact (only p) (pair q q') R v)
Holds (between p p' q q' R v t) = Is t (Exact (pair p p') (pair q q') R v)
Holds (no_closer p q l t) = Is t (NoCloser (only p) (pair q q) l)
Holds (some_near p q l t) = Is t (SomeNear (only p) (pair q q) l)
Holds (bands p p' q q' l a b) = Is a (NoCloser (pair p p') (pair q q') l) × Is b (SomeNear (pair p p') (pair q q') l)
Holds (allowed p q q' R T M x t) = Is t (Demand3 (only p) (pair q q') R T M x)

-- ---- the doubtful band
abbrev pub band_figures : List Figure
band_figures =
    -- of the sample E = 3 · 1 + 3/2 · 2 = 6, from −2 to 10
    band (pos 4) (pos 1) 1 (negsuc 3) (pos 20)
    -- E = 3 · 7 + 3/2 · 8 = 33, from 17 to 83
    ∷ band (pos 50) (pos 7) 3 (pos 34) (pos 166)
    ∷ []

pub band_holds : AllHold Holds band_figures
band_holds = (refl, refl, refl, refl) and (refl, refl, refl, refl) and tt

-- ---- verdicts: outline and cell are points on one line through (0, 0), each named for its distance from there, and one beside it
abbrev pub O : Point
O = spot (pos 0) (pos 0)

abbrev pub five : Point
five = spot (pos 3) (pos 4)

abbrev pub ten : Point
ten = spot (pos 6) (pos 8)

-- at a distance just below 5
abbrev pub below : Point
below = point (whole (pos 3)) (over (pos 3999) 999)

-- two more on the same line, 5 apart
abbrev pub fifteen : Point
fifteen = spot (pos 9) (pos 12)

abbrev pub twenty : Point
twenty = spot (pos 12) (pos 16)

abbrev pub exact_figures : List Figure
exact_figures =
    -- a cell with a point on either side of the reach
    exact O five ten (pos 6) mixed true
    ∷ exact O five ten (pos 6) clear false
    ∷ exact O five ten (pos 6) within false
    ∷ exact O five ten (pos 6) doubtful false
    -- a reach below the distance, at it and above it: at the reach exactly a cell is clear
    ∷ exact O five five (pos 4) clear true
    ∷ exact O five five (pos 4) within false
    ∷ exact O five five (pos 4) mixed false
    ∷ exact O five five (pos 5) clear true
    ∷ exact O five five (pos 5) within false
    ∷ exact O five five (pos 5) mixed false
    ∷ exact O five five (pos 6) clear false
    ∷ exact O five five (pos 6) within true
    ∷ exact O five five (pos 6) mixed false
    ∷ exact O below below (pos 5) clear false
    ∷ exact O below below (pos 5) within true
    -- each point of the cell has a point of the outline of its own closer than the reach, and another that is not
    ∷ between O twenty five fifteen (pos 6) clear false
    ∷ between O twenty five fifteen (pos 6) within true
    -- at 5 and on either side; a length below 0 asks nothing, and 0 asks what is so
    ∷ no_closer O five (whole (pos 5)) true
    ∷ no_closer O five (over (pos 5001) 999) false
    ∷ no_closer O five (whole (negsuc 5)) true
    ∷ no_closer O O (whole (pos 0)) true
    ∷ no_closer O O (over (pos 1) 999) false
    ∷ no_closer O O (over (negsuc 0) 999) true
    ∷ some_near O five (whole (pos 5)) true
    ∷ some_near O five (over (pos 4999) 999) false
    ∷ bands O twenty five fifteen (whole (pos 6)) false true
    ∷ []

-- ---- what a map may say
abbrev pub allowed_figures : List Figure
allowed_figures =
    -- grain 1 and cells of side 1: E = 9/2
    allowed O five five (pos 5) (pos 1) 0 doubtful true
    ∷ allowed O five five (pos 10) (pos 1) 0 doubtful false
    ∷ allowed O five ten (pos 5) (pos 1) 0 doubtful false
    ∷ allowed O five ten (pos 6) (pos 1) 0 mixed false
    -- grain 2 and cells of side 2: E = 9
    ∷ allowed O five five (pos 14) (pos 2) 1 doubtful true
    ∷ allowed O ten ten (pos 1) (pos 2) 1 doubtful true
    ∷ allowed O five five (pos 5) (pos 2) 1 clear true
    ∷ allowed O five five (pos 5) (pos 2) 1 within false
    ∷ allowed O five five (pos 6) (pos 2) 1 clear false
    ∷ allowed O five five (pos 6) (pos 2) 1 within true
    ∷ []

-- ---- the statements
-- what is asked of all points is asked of these, the outline's one and the cell's two. The lengths are left to the definitions
each : (q q' : Point) (B : Points) → B q → B q' → (Q : Point) → pair q q' Q → B Q
each q q' B h k Q (inl e) = subst B (sym e) h
each q q' B h k Q (inr e) = subst B (sym e) k

for_all : (p q q' : Point) (B : Point → Points) → B p q → B p q' → (Q : Point) → pair q q' Q → (P : Point) → only p P → B P Q
for_all p q q' B h k Q e P f = subst (λ X. B X Q) (sym f) (each q q' (B p) h k Q e)

far : (p q q' : Point) (l : Frac) → AtLeast p q l → AtLeast p q' l → (Q : Point) → pair q q' Q → (P : Point) → only p P → AtLeast P Q l
far p q q' l = for_all p q q' (λ P Q. AtLeast P Q l)

off : (p q : Point) (l : Frac) → (l <ᶠ whole (pos 0)) ⊎ AtLeast p q l → (Q : Point) → pair q q Q → (P : Point) → only p P → (l <ᶠ whole (pos 0)) ⊎ AtLeast P Q l
off p q l h = for_all p q q (λ P Q. (l <ᶠ whole (pos 0)) ⊎ AtLeast P Q l) h h

near : (p q q' : Point) (l : Frac) → Closer p q l → Closer p q' l → (Q : Point) → pair q q' Q → (P : Point) × only p P × Closer P Q l
near p q q' l h k = each q q' (λ Q. (P : Point) × only p P × Closer P Q l) (p, refl, h) (p, refl, k)

by : (p q : Point) (l : Frac) → AtMost p q l → (Q : Point) → pair q q Q → (P : Point) × only p P × AtMost P Q l
by p q l h = each q q (λ Q. (P : Point) × only p P × AtMost P Q l) (p, refl, h) (p, refl, h)

nearer : (p q : Point) (l : Frac) → (P : Point) × only p P × Closer P q l → Closer p q l
nearer p q l g = subst (λ P. Closer P q l) g.1 g.2

within_most : (p q : Point) (l : Frac) → (P : Point) × only p P × AtMost P q l → AtMost p q l
within_most p q l g = subst (λ P. AtMost P q l) g.1 g.2

unlike : (v w : Verdict) → T (not (eqb (letter v) (letter w))) → v ≡ w → ⊥
unlike v w t e = T_not (eqb (letter v) (letter w)) t (subst (λ x. T (eqb (letter v) (letter x))) e (eqb_refl (letter v)))

pub exact_holds : AllHold Holds exact_figures
unfolding Clear Inside NoCloser SomeNear
exact_holds =
    ((λ h. (h five (inl refl) O refl).least.le), (λ h. (nearer O ten _ (h ten (inr refl))).closer.lt))
    and (λ h. (h five (inl refl) O refl).least.le)
    and (λ h. (nearer O ten _ (h ten (inr refl))).closer.lt)
    and (λ h. h)
    and far O five five _ (record { least = record { le = tt } }) (record { least = record { le = tt } })
    and (λ h. (nearer O five _ (h five (inr refl))).closer.lt)
    and (λ h. h.0 (far O five five _ (record { least = record { le = tt } }) (record { least = record { le = tt } })))
    and far O five five _ (record { least = record { le = tt } }) (record { least = record { le = tt } })
    and (λ h. (nearer O five _ (h five (inr refl))).closer.lt)
    and (λ h. h.0 (far O five five _ (record { least = record { le = tt } }) (record { least = record { le = tt } })))
    and (λ h. (h five (inl refl) O refl).least.le)
    and near O five five _ (record { closer = record { lt = tt } }) (record { closer = record { lt = tt } })
    and (λ h. h.1 (near O five five _ (record { closer = record { lt = tt } }) (record { closer = record { lt = tt } })))
    and (λ h. (h below (inl refl) O refl).least.le)
    and near O below below _ (record { closer = record { lt = tt } }) (record { closer = record { lt = tt } })
    and (λ h. (h five (inl refl) O (inl refl)).least.le)
    and each five fifteen (λ Q. (P : Point) × pair O twenty P × Closer P Q (whole (pos 6))) (O, inl refl, record { closer = record { lt = tt } }) (twenty, inr refl, record { closer = record { lt = tt } })
    and off O five _ (inr (record { least = record { le = tt } }))
    and (λ h. elim (h five (inl refl) O refl) [ inl b ↦ b.lt | inr b ↦ b.least.le ])
    and off O five _ (inl (record { lt = tt }))
    and off O O _ (inr (record { least = record { le = tt } }))
    and (λ h. elim (h O (inl refl) O refl) [ inl b ↦ b.lt | inr b ↦ b.least.le ])
    and off O O _ (inl (record { lt = tt }))
    and by O five _ (record { most = record { le = tt } })
    and (λ h. (within_most O five _ (h five (inl refl))).most.le)
    and ((λ h. elim (h five (inl refl) O (inl refl)) [ inl b ↦ b.lt | inr b ↦ b.least.le ]), each five fifteen (λ Q. (P : Point) × pair O twenty P × AtMost P Q (whole (pos 6))) (O, inl refl, record { most = record { le = tt } }) (twenty, inr refl, record { most = record { le = tt } }))
    and tt

-- in the band a map may doubt, whatever the exact verdict is
doubted : (p q : Point) (R G : ℤ) (M : ℕ) → NoCloser (only p) (pair q q) (r_minus_e R G M) → SomeNear (only p) (pair q q) (r_plus_e R G M) → Demand3 (only p) (pair q q) R G M doubtful
doubted p q R G M f n = record {
  not_mixed = unlike doubtful mixed tt;
  if_clear = λ e. absurd (unlike doubtful clear tt e);
  if_inside = λ e. absurd (unlike doubtful within tt e);
  if_doubtful = λ e. (f, n);
  agrees = agreed;
}
  where
    agreed : (v : Verdict) → Exact (only p) (pair q q) R v → (doubtful ≡ v) ↔ (doubtful ≡ doubtful → ⊥)
    agreed clear h = ((λ e. absurd (unlike doubtful clear tt e)), (λ f. absurd (f refl)))
    agreed within h = ((λ e. absurd (unlike doubtful within tt e)), (λ f. absurd (f refl)))
    agreed doubtful h = absurd h
    agreed mixed h = ((λ e. absurd (unlike doubtful mixed tt e)), (λ f. absurd (f refl)))

pub allowed_holds : AllHold Holds allowed_figures
unfolding Clear Inside NoCloser SomeNear
allowed_holds =
    doubted O five (pos 5) (pos 1) 0 (off O five _ (inr (record { least = record { le = tt } }))) (by O five _ (record { most = record { le = tt } }))
    and (λ h. elim ((h.if_doubtful refl).0 five (inl refl) O refl) [ inl b ↦ b.lt | inr b ↦ b.least.le ])
    and (λ h. (within_most O ten _ ((h.if_doubtful refl).1 ten (inr refl))).most.le)
    and (λ h. h.not_mixed refl)
    and doubted O five (pos 14) (pos 2) 1 (off O five _ (inr (record { least = record { le = tt } }))) (by O five _ (record { most = record { le = tt } }))
    and doubted O ten (pos 1) (pos 2) 1 (off O ten _ (inl (record { lt = tt }))) (by O ten _ (record { most = record { le = tt } }))
    and cleared
    and (λ h. (nearer O five _ (h.if_inside refl five (inr refl))).closer.lt)
    and (λ h. (h.if_clear refl five (inl refl) O refl).least.le)
    and entered
    and tt
  where
    -- where the exact verdict is clear it may say so
    cleared_agreed : (v : Verdict) → Exact (only O) (pair five five) (pos 5) v → (clear ≡ v) ↔ (clear ≡ doubtful → ⊥)
    cleared_agreed clear h = ((λ e. unlike clear doubtful tt), (λ f. refl))
    cleared_agreed within h = absurd (nearer O five _ (h five (inr refl))).closer.lt
    cleared_agreed doubtful h = absurd h
    cleared_agreed mixed h = absurd (h.0 (far O five five _ (record { least = record { le = tt } }) (record { least = record { le = tt } })))

    cleared : Demand3 (only O) (pair five five) (pos 5) (pos 2) 1 clear
    cleared = record {
      not_mixed = unlike clear mixed tt;
      if_clear = λ e. far O five five _ (record { least = record { le = tt } }) (record { least = record { le = tt } });
      if_inside = λ e. absurd (unlike clear within tt e);
      if_doubtful = λ e. absurd (unlike clear doubtful tt e);
      agrees = cleared_agreed;
    }

    -- and so of inside
    entered_agreed : (v : Verdict) → Exact (only O) (pair five five) (pos 6) v → (within ≡ v) ↔ (within ≡ doubtful → ⊥)
    entered_agreed clear h = absurd (h five (inl refl) O refl).least.le
    entered_agreed within h = ((λ e. unlike within doubtful tt), (λ f. refl))
    entered_agreed doubtful h = absurd h
    entered_agreed mixed h = absurd (h.1 (near O five five _ (record { closer = record { lt = tt } }) (record { closer = record { lt = tt } })))

    entered : Demand3 (only O) (pair five five) (pos 6) (pos 2) 1 within
    entered = record {
      not_mixed = unlike within mixed tt;
      if_clear = λ e. absurd (unlike within clear tt e);
      if_inside = λ e. near O five five _ (record { closer = record { lt = tt } }) (record { closer = record { lt = tt } });
      if_doubtful = λ e. absurd (unlike within doubtful tt e);
      agrees = entered_agreed;
    }
