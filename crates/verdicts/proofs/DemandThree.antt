-- Demand 3 of the defined map: clear and inside are exact, doubtful lies in the band, and a verdict is the exact one exactly where it is not
-- doubtful. Assumes nothing.
use Rattle.std.specs.Prelude.{◌≡◌, refl, false, List, ◌⊎◌, ℕ, ◌+◌, ◌-◌, ◌*◌, ◌^◌, ◌<◌, ℤ, ◌+ℤ◌, ◌-ℤ◌, ◌*ℤ◌}
use Rattle.std.proofs.Common.{sym, ◌∙◌, arith}
use Rattle.std.proofs.Math.Path.{subst}
use Rattle.std.proofs.Math.Logic.{inl, inr, ⊎_elim}
use Rattle.std.proofs.Math.IntN.{pos}
use Rattle.integers.specs.RingSolver.{name₃, name₅, reify}
use Rattle.integers.specs.Order.{◌≼◌, ◌≺◌, num, pos_≼, ≼_refl, ◌⊠◌}
use Rattle.integers.specs.Omega.{zarith}
use Rattle.integers.specs.Inequalities.{≼_trans}
use Rattle.model.specs.Fractions.{whole, Point, dist², AtMost, AtLeast}
use Rattle.model.specs.declared.Job.{Job}
use Rattle.model.specs.Jobs.{outline, plate_log, cell_log}
use Rattle.model.specs.Trees.{Tree, any_long}
use Rattle.model.specs.Store.{forest}
use Rattle.model.specs.Explore.{judged, explore_all}
use Rattle.model.specs.Plates.{Verdict, clear, within, doubtful, mixed, letter, drawn, columns, mapped, map_of}
use Rattle.model.specs.Exact.{Points, Outline, Along, CellPoint, Clear, Inside, Exact, r_minus_e, r_plus_e, NoCloser, SomeNear, Demand3}
use Rattle.model.specs.Promises.{DemandThree}
use Rattle.sequences.specs.RowMajor.{get_or_row_major}
use Rattle.enclosure.specs.Covers.{CoversAll}
use Rattle.verdicts.specs.AnswerCases.{settled_clear, settled_within, settled_doubtful, settled_mixed}
use Rattle.verdicts.specs.Tests.{half_fine, spill}
use Rattle.verdicts.specs.Trees.{AllShorts}
use Rattle.verdicts.proofs.Cells.{cell_inside, cell_away, cell_lower, cell_upper}
use Rattle.ranges.specs.Legal.{legal}
use Rattle.verdicts.specs.Quartering.{DrawnBy, drawn_by}
use Rattle.verdicts.specs.DemandThree.{trees_short, exact_unique, forest_covers}

-- ---- fine units and hundredths: t over d is the squared distance, s is 2^M
module _ (t d R T s : ℤ) where
  close_fine : t *ℤ (pos 16 *ℤ pos 16) ≺ pos 16 *ℤ R *ℤ (pos 16 *ℤ R) *ℤ d → t *ℤ (pos 1 *ℤ pos 1) ≺ R *ℤ R *ℤ d
  close_fine = name₃ t d R λ σ p q r. simp (p, q, r, reify, σ) (omega zarith)

  far_fine : pos 16 *ℤ R *ℤ (pos 16 *ℤ R) *ℤ d ≼ t *ℤ (pos 16 *ℤ pos 16) → R *ℤ R *ℤ d ≼ t *ℤ (pos 1 *ℤ pos 1)
  far_fine = name₃ t d R λ σ p q r. simp (p, q, r, reify, σ) (omega zarith)

  most_fine : t *ℤ (pos 32 *ℤ pos 32) ≼ (pos 2 *ℤ (pos 16 *ℤ R) +ℤ pos 3 *ℤ (pos 2 *ℤ (pos 8 *ℤ s) +ℤ pos 32 *ℤ T)) *ℤ (pos 2 *ℤ (pos 16 *ℤ R) +ℤ pos 3 *ℤ (pos 2 *ℤ (pos 8 *ℤ s) +ℤ pos 32 *ℤ T)) *ℤ d → t *ℤ (pos 2 *ℤ pos 2) ≼ (pos 2 *ℤ R +ℤ (pos 6 *ℤ T +ℤ pos 3 *ℤ s)) *ℤ (pos 2 *ℤ R +ℤ (pos 6 *ℤ T +ℤ pos 3 *ℤ s)) *ℤ d
  most_fine = name₅ t d R T s λ σ p q r u v. simp (p, q, r, u, v, reify, σ) (omega zarith)

  least_fine : (pos 2 *ℤ (pos 16 *ℤ R) -ℤ pos 3 *ℤ (pos 2 *ℤ (pos 8 *ℤ s) +ℤ pos 32 *ℤ T)) *ℤ (pos 2 *ℤ (pos 16 *ℤ R) -ℤ pos 3 *ℤ (pos 2 *ℤ (pos 8 *ℤ s) +ℤ pos 32 *ℤ T)) *ℤ d ≼ t *ℤ (pos 32 *ℤ pos 32) → (pos 2 *ℤ R -ℤ (pos 6 *ℤ T +ℤ pos 3 *ℤ s)) *ℤ (pos 2 *ℤ R -ℤ (pos 6 *ℤ T +ℤ pos 3 *ℤ s)) *ℤ d ≼ t *ℤ (pos 2 *ℤ pos 2)
  least_fine = name₅ t d R T s λ σ p q r u v. simp (p, q, r, u, v, reify, σ) (omega zarith)

  below_fine : pos 2 *ℤ (pos 16 *ℤ R) ≺ pos 3 *ℤ (pos 2 *ℤ (pos 8 *ℤ s) +ℤ pos 32 *ℤ T) → (pos 2 *ℤ R -ℤ (pos 6 *ℤ T +ℤ pos 3 *ℤ s)) *ℤ pos 1 ≺ pos 0
  below_fine = name₃ R T s λ σ r u v. simp (r, u, v, reify, σ) (omega zarith)

-- the cell's corner is one
corner : ℕ → ℤ → ℤ → ℕ → ℕ → Point
corner M X Y i j = record { x = whole (X +ℤ pos (i * 2 ^ M)); y = whole (Y +ℤ pos (j * 2 ^ M)) }

corner_along : (X : ℤ) (i w : ℕ) → Along X i w (whole (X +ℤ pos (i * w)))
corner_along X i w = record { first = ≼_refl refl; last = go X (pos (i * w)) (pos ((i + 1) * w)) (pos_≼ (omega arith)) }
  where
    go : (X I J : ℤ) → I ≼ J → (X +ℤ I) *ℤ pos 1 ≼ (X +ℤ J) *ℤ pos 1
    go X I J = name₃ X I J λ σ p q r. simp (p, q, r, reify, σ) (omega zarith)

corner_in : (M : ℕ) (X Y : ℤ) (i j : ℕ) → CellPoint M X Y i j (corner M X Y i j)
unfolding corner
corner_in M X Y i j = record { column = corner_along X i (2 ^ M); row = corner_along Y j (2 ^ M) }

-- ---- a verdict, for any outline and any list of trees that covers it
module _ (O : Points) (ts : List Tree) (cov : CoversAll O ts) (R T : ℤ) (hR : pos 0 ≼ R) (hT : pos 0 ≼ T) (M : ℕ) (X Y : ℤ) (i j : ℕ) where
  abbrev r : ℤ
  r = pos 16 *ℤ R

  hr : pos 0 ≼ pos 16 *ℤ R
  hr = num 16 ⊠ hR

  is_clear : DrawnBy (judged r) ts M X Y i j clear → Clear O (CellPoint M X Y i j) R
  unfolding Clear
  is_clear z Q q P a =
      let h = cell_away O ts cov r T hr hT z.cell z.side (settled_clear (explore_all (judged r z.cell) ts) z.said) P a Q (z.holds Q q) in
      record { least = far_fine (dist² P Q).top (dist² P Q).low R T (pos 0) h.least }

  is_inside : DrawnBy (judged r) ts M X Y i j within → Inside O (CellPoint M X Y i j) R
  unfolding Inside
  is_inside z Q q =
      let x = cell_inside O ts cov r T hr hT z.cell z.side (settled_within (explore_all (judged r z.cell) ts) z.said) in
      (x.0, x.1, record { closer = close_fine (dist² x.0 Q).top (dist² x.0 Q).low R T (pos 0) (x.2 Q (z.holds Q q)).closer })

  -- where D stands the square is a smallest one, so 3/2 of `spill` is 16 E
  no_closer : AllShorts T ts → DrawnBy (judged r) ts M X Y i j doubtful → NoCloser O (CellPoint M X Y i j) (r_minus_e R T M)
  unfolding NoCloser
  no_closer sh z Q q P a =
      let e = settled_doubtful (explore_all (judged r z.cell) ts) z.said in
      ⊎_elim
      (λ (l : pos 2 *ℤ r ≺ pos 3 *ℤ spill (pos (8 * 2 ^ M)) T). inl (below_fine (pos 0) (pos 0) R T (pos (2 ^ M)) l))
      (λ (l : AtLeast P Q (half_fine (pos 2 *ℤ r -ℤ pos 3 *ℤ spill (pos (8 * 2 ^ M)) T))). inr (record { least = least_fine (dist² P Q).top (dist² P Q).low R T (pos (2 ^ M)) l.least }))
      (subst (λ s. (pos 2 *ℤ r ≺ pos 3 *ℤ spill s T) ⊎ AtLeast P Q (half_fine (pos 2 *ℤ r -ℤ pos 3 *ℤ spill s T))) (z.last e) (cell_lower O ts cov r T hr hT z.cell z.side sh e P a Q (z.holds Q q)))

  some_near : AllShorts T ts → DrawnBy (judged r) ts M X Y i j doubtful → SomeNear O (CellPoint M X Y i j) (r_plus_e R T M)
  unfolding SomeNear
  some_near sh z Q q =
      let e = settled_doubtful (explore_all (judged r z.cell) ts) z.said in
      let x = cell_upper O ts cov r T hr hT z.cell z.side sh e in
      let h : AtMost x.0 Q (half_fine (pos 2 *ℤ r +ℤ pos 3 *ℤ spill (pos (8 * 2 ^ M)) T)) = subst (λ s. AtMost x.0 Q (half_fine (pos 2 *ℤ r +ℤ pos 3 *ℤ spill s T))) (z.last e) (x.2 Q (z.holds Q q)) in
      (x.0, x.1, record { most = most_fine (dist² x.0 Q).top (dist² x.0 Q).low R T (pos (2 ^ M)) h.most })

  agree : (x : Verdict) → DrawnBy (judged r) ts M X Y i j x → (v : Verdict) → Exact O (CellPoint M X Y i j) R v → (x ≡ doubtful → ⊥) → x ≡ v
  agree clear z v k f = exact_unique O (CellPoint M X Y i j) R (corner M X Y i j) (corner_in M X Y i j) clear v (is_clear z) k
  agree within z v k f = exact_unique O (CellPoint M X Y i j) R (corner M X Y i j) (corner_in M X Y i j) within v (is_inside z) k
  agree doubtful z v k f = absurd (f refl)
  agree mixed z v k f = absurd (settled_mixed (explore_all (judged r z.cell) ts) z.said)

  pub drawn_by_demand_3 : AllShorts T ts → (x : Verdict) → DrawnBy (judged r) ts M X Y i j x → Demand3 O (CellPoint M X Y i j) R T M x
  drawn_by_demand_3 sh x z = record {
    not_mixed = λ e. let d = subst (λ v. DrawnBy (judged r) ts M X Y i j v) e z in settled_mixed (explore_all (judged r d.cell) ts) d.said;
    if_clear = λ e. is_clear (subst (λ v. DrawnBy (judged r) ts M X Y i j v) e z);
    if_inside = λ e. is_inside (subst (λ v. DrawnBy (judged r) ts M X Y i j v) e z);
    if_doubtful = λ e. let d = subst (λ v. DrawnBy (judged r) ts M X Y i j v) e z in (no_closer sh d, some_near sh d);
    agrees = λ v k. ((λ e d. subst (λ v. Exact O (CellPoint M X Y i j) R v) (sym e ∙ d) k), agree x z v k);
  }

  pub drawn_demand_3 : AllShorts T ts → (n : ℕ) → i < 2 ^ n → j < 2 ^ n → Demand3 O (CellPoint M X Y i j) R T M (drawn (judged (pos 16 *ℤ R)) ts M n X Y i j)
  drawn_demand_3 sh n hi hj = drawn_by_demand_3 sh (drawn (judged r) ts M n X Y i j) (drawn_by (judged r) ts M n X Y i j hi hj)

-- ---- of every job that is accepted
forest_short : (j : Job) → any_long (forest j) ≡ false → AllShorts j.grain (forest j)
unfolding forest
forest_short j h = trees_short j.grain (outline j) h

pub demand_three : DemandThree
unfolding map_of mapped
demand_three j ok fit = record {
  verdict = mapped j;
  letters = λ i k hi hk. get_or_row_major (columns j) (columns j) (λ i k. letter (mapped j i k)) i k 0 hi hk;
  demand3 = λ i k hi hk.
      let l = (legal j ok).in_range in
      drawn_demand_3 (Outline (outline j)) (forest j) (forest_covers j) j.reach j.grain (≼_trans (num 1) l.reach_in.from) (≼_trans (num 1) l.grain_in.from) (cell_log j) j.x j.y i k (forest_short j fit) (plate_log j - cell_log j) hi hk;
}
