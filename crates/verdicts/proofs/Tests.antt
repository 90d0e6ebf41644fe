-- What it means that a strip's box is far away, and what a strip's answer means of all points of a cell at once. They stand here, and not in specs/, so
-- that an edit of the law of distances that they rest on is refused for that law. Assumes nothing.
use Rattle.std.specs.Prelude.{◌≡◌, true, ◌||◌, ℤ, ◌+ℤ◌, ◌-ℤ◌, ◌*ℤ◌}
use Rattle.std.proofs.Math.Logic.{inl, inr, ⊎_elim}
use Rattle.std.proofs.Math.IntN.{pos}
use Rattle.integers.specs.RingSolver.{name₄, reify}
use Rattle.integers.specs.Order.{◌≼◌, ◌≺◌, ◌⊠◌, gap}
use Rattle.integers.specs.Omega.{zarith}
use Rattle.integers.specs.Inequalities.{from, ◌&◌, weak, split≼}
use Rattle.model.specs.Fractions.{Point, dist², AtLeast}
use Rattle.model.specs.Strips.{Strip}
use Rattle.model.specs.Explore.{Cell, closest², is_inside, is_away₁, is_away₂, judged}
use Rattle.enclosure.specs.Covers.{In}
use Rattle.integers.specs.Tests.{le_true, or_true, or_false}
use Rattle.verdicts.specs.AnswerCases.{tests_inside, tests_away, tests_maybe}
use Rattle.verdicts.specs.Apart.{InCell}
use Rattle.verdicts.specs.Distances.{above}
use Rattle.verdicts.specs.Trees.{Sound}
use Rattle.verdicts.specs.Tests.{fine, spill, at_least_closest, inside_means, away₂_means, not_inside_means, not_away_means, AllCloser, AllClear, AllAtLeast, AllAtMost}

module _ (r : ℤ) (c : Cell) (S : Strip) (P Q : Point) (i : In S P) (j : InCell c Q) where
  pub away₁_means : is_away₁ r c S ≡ true → AtLeast P Q (fine r)
  unfolding is_away₁
  away₁_means e = record { least = above (dist² P Q).top (closest² c S) (dist² P Q).low r (dist² P Q).up (at_least_closest r c S P Q i j) (le_true e) }

  pub away_means : pos 0 ≼ r → (is_away₁ r c S || is_away₂ r c S) ≡ true → AtLeast P Q (fine r)
  away_means hr e = ⊎_elim away₁_means (away₂_means r c S P Q i j hr) (or_true (is_away₁ r c S) (is_away₂ r c S) e)

-- what is not closer than r is not closer than r − 3u/2; what is closer than r is at most r + 3u/2 away. t over d is the squared distance
weaken_far : (r u t d : ℤ) → pos 0 ≼ r → pos 0 ≼ u → pos 0 ≺ d → pos 3 *ℤ u ≼ pos 2 *ℤ r → r *ℤ r *ℤ d ≼ t *ℤ (pos 16 *ℤ pos 16) → (pos 2 *ℤ r -ℤ pos 3 *ℤ u) *ℤ (pos 2 *ℤ r -ℤ pos 3 *ℤ u) *ℤ d ≼ t *ℤ (pos 32 *ℤ pos 32)
weaken_far r u t d hr hu hd k h =
    from (h & hu ⊠ gap k ⊠ weak hd & hu ⊠ hr ⊠ weak hd) (name₄ r u t d λ σ p q s v. simp (p, q, s, v, reify, σ) (omega zarith))

weaken_close : (r u t d : ℤ) → pos 0 ≼ r → pos 0 ≼ u → pos 0 ≺ d → t *ℤ (pos 16 *ℤ pos 16) ≺ r *ℤ r *ℤ d → t *ℤ (pos 32 *ℤ pos 32) ≼ (pos 2 *ℤ r +ℤ pos 3 *ℤ u) *ℤ (pos 2 *ℤ r +ℤ pos 3 *ℤ u) *ℤ d
weaken_close r u t d hr hu hd h =
    from (h & hu ⊠ hr ⊠ weak hd & hu ⊠ hu ⊠ weak hd) (name₄ r u t d λ σ p q s v. simp (p, q, s, v, reify, σ) (omega zarith))

module _ (r T : ℤ) (c : Cell) (hr : pos 0 ≼ r) (hu : pos 0 ≼ spill c.s T) where
  far_is_lower : (P : Point) → AllClear r c P → AllAtLeast r T c P
  far_is_lower P f Q j = ⊎_elim
      (λ (l : pos 3 *ℤ spill c.s T ≼ pos 2 *ℤ r). inr (record { least = weaken_far r (spill c.s T) (dist² P Q).top (dist² P Q).low hr hu (dist² P Q).up l (f Q j).least }))
      (λ (l : pos 2 *ℤ r ≺ pos 3 *ℤ spill c.s T). inl l)
      (split≼ (pos 3 *ℤ spill c.s T) (pos 2 *ℤ r))

  close_is_upper : (P : Point) → AllCloser r c P → AllAtMost r T c P
  close_is_upper P f Q j = record { most = weaken_close r (spill c.s T) (dist² P Q).top (dist² P Q).low hr hu (dist² P Q).up (f Q j).closer }

  pub reach_sound : Sound T (judged r c) (AllCloser r c) (AllClear r c) (AllAtLeast r T c) (AllAtMost r T c)
  reach_sound = record {
    if_inside = λ S P i e Q j. inside_means r c S P Q i j (tests_inside (is_inside r c S) (is_away₁ r c S || is_away₂ r c S) e);
    if_away = λ S P i e Q j. away_means r c S P Q i j hr (tests_away (is_inside r c S) (is_away₁ r c S || is_away₂ r c S) e);
    if_maybe_lower = λ S P i sh e Q j. not_inside_means r c S P Q i j T sh hu (tests_maybe (is_inside r c S) (is_away₁ r c S || is_away₂ r c S) e).0;
    if_maybe_upper = λ S P i sh e Q j. not_away_means r c S P Q i j T sh hr hu (or_false (is_away₁ r c S) (is_away₂ r c S) (tests_maybe (is_inside r c S) (is_away₁ r c S || is_away₂ r c S) e).1).0;
    far_lower = far_is_lower;
    near_upper = close_is_upper;
  }
