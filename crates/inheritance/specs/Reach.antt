-- The tests by the reach are a way to judge that parts of a cell inherit. Assumes nothing.
use Rattle.std.specs.Prelude.{◌≡◌, refl, Bool, true, false, ◌||◌, ℤ, pos, ◌-ℤ◌, ◌*ℤ◌}
use Rattle.std.specs.Int.Signed.{clash_ℤ}
use Rattle.integers.specs.RingSolver.{name₂, reify}
use Rattle.integers.specs.Order.{◌≼◌, ◌≺◌, num, num⁺, ◌⊞◌, ◌⊠◌}
use Rattle.integers.specs.Omega.{zarith}
use Rattle.integers.specs.Inequalities.{from, ◌⊠⁺◌, ≼_*l_off}
use Rattle.integers.specs.Within.{Within, bound_nonneg}
use Rattle.model.specs.Fractions.{Point}
use Rattle.model.specs.Strips.{Strip}
use Rattle.model.specs.Explore.{Cell, inside, away, is_inside, is_away₁, is_away₂, by_tests, judged}
use Rattle.enclosure.specs.Covers.{In}
use Rattle.verdicts.specs.AnswerCases.{clash, tests_inside, tests_away}
use Rattle.verdicts.specs.Apart.{InCell}
use Rattle.verdicts.specs.Tests.{AllCloser, AllClear, AllAtLeast, AllAtMost}
use Rattle.verdicts.proofs.Tests.{reach_sound, away_means}
use Rattle.verdicts.specs.Trees.{Sound}
use Rattle.inheritance.specs.Parts.{PartOf, inside_part, away₁_part, away₂_part}
use Rattle.inheritance.specs.Trees.{Judges}

-- ---- a strip that has a point in it has a box that is not negative
off : (k b : ℤ) → pos 0 ≺ k → pos 0 ≼ b *ℤ k → pos 0 ≼ b
off k b hk h = ≼_*l_off hk (from h (name₂ k b λ σ p q. simp (p, q, reify, σ) (omega zarith)))

box_x : {S : Strip} {P : Point} → In S P → pos 0 ≼ S.x.box
box_x {S} {P} i = off (P.x.low *ℤ i.e.low) S.x.box (P.x.up ⊠⁺ i.e.up) (bound_nonneg _ _ i.beside_x)

box_y : {S : Strip} {P : Point} → In S P → pos 0 ≼ S.y.box
box_y {S} {P} i = off (P.y.low *ℤ i.e.low) S.y.box (P.y.up ⊠⁺ i.e.up) (bound_nonneg _ _ i.beside_y)

-- ---- a cell has a point, so nothing is both nearer than the reach and not nearer
abbrev centre : Cell → Point
centre c = record { x = record { top = c.cx; low = pos 16; up = num⁺ 15 }; y = record { top = c.cy; low = pos 16; up = num⁺ 15 } }

middle : (m s : ℤ) → pos 0 ≼ s → Within (pos 16 *ℤ m -ℤ m *ℤ pos 16) (s *ℤ pos 16)
middle m s h = record {
  low = from h (name₂ m s λ σ p q. simp (p, q, reify, σ) (omega zarith));
  high = from h (name₂ m s λ σ p q. simp (p, q, reify, σ) (omega zarith));
}

meet : (r : ℤ) (d : Cell) → pos 0 ≼ d.s → (P : Point) → AllCloser r d P → AllClear r d P → ⊥
meet r d hs P f g =
    let j : InCell d (centre d) = record { in_x = middle d.cx d.s hs; in_y = middle d.cy d.s hs } in
    clash_ℤ (f (centre d) j).closer (g (centre d) j).least

-- ---- answers, by cases
or_is : (a b a' b' : Bool) → (a ≡ true → a' ≡ true) → (b ≡ true → b' ≡ true) → (a || b) ≡ true → (a' || b') ≡ true
or_is true b a' b' f g e = rw (f refl)
or_is false b true b' f g e = refl
or_is false b false b' f g e = g e

judged_inside : (i w : Bool) → i ≡ true → by_tests i w ≡ inside
judged_inside true w e = refl
judged_inside false w e = clash (cc)

judged_away : (i w : Bool) → (i ≡ true → ⊥) → w ≡ true → by_tests i w ≡ away
judged_away true w f e = absurd (f refl)
judged_away false true f e = refl
judged_away false false f e = clash (cc)

-- ---- the reach r
module _ (r : ℤ) (hr : pos 0 ≼ r) where
  -- what an answer for d means
  sound : (d : Cell) → pos 0 ≼ d.s → Sound (pos 0) (judged r d) (AllCloser r d) (AllClear r d) (AllAtLeast r (pos 0) d) (AllAtMost r (pos 0) d)
  sound d hs = reach_sound r (pos 0) d hr (num 2 ⊠ hs ⊞ num 32 ⊠ num 0)

  exclude : (d : Cell) → pos 0 ≼ d.s → (S T : Strip) (P : Point) → In S P → In T P → judged r d S ≡ inside → judged r d T ≡ away → ⊥
  exclude d hs S T P i k e f = meet r d hs P ((sound d hs).if_inside S P i e) ((sound d hs).if_away T P k f)

  module _ (c d : Cell) (part : PartOf d c) (S : Strip) (P : Point) (i : In S P) where
    strip_inside : judged r c S ≡ inside → judged r d S ≡ inside
    strip_inside e = judged_inside (is_inside r d S) (is_away₁ r d S || is_away₂ r d S)
        (inside_part r c d part S (box_x i) (box_y i) (tests_inside (is_inside r c S) (is_away₁ r c S || is_away₂ r c S) e))

    strip_away : judged r c S ≡ away → judged r d S ≡ away
    strip_away e =
        let w : (is_away₁ r d S || is_away₂ r d S) ≡ true = or_is (is_away₁ r c S) (is_away₂ r c S) (is_away₁ r d S) (is_away₂ r d S) (away₁_part r c d part S) (away₂_part r c d part S) (tests_away (is_inside r c S) (is_away₁ r c S || is_away₂ r c S) e) in
        judged_away (is_inside r d S) (is_away₁ r d S || is_away₂ r d S) (λ k. not_both k w) w
      where
        not_both : is_inside r d S ≡ true → (is_away₁ r d S || is_away₂ r d S) ≡ true → ⊥
        not_both k w =
            meet r d part.half P ((sound d part.half).if_inside S P i (judged_inside (is_inside r d S) (is_away₁ r d S || is_away₂ r d S) k))
            (λ Q j. away_means r d S P Q i j hr w)

  pub reach_judges : Judges (judged r)
  reach_judges = record { inside_part = strip_inside; away_part = strip_away; exclude = exclude }
