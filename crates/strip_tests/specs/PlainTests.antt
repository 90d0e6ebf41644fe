-- The tests of one node over plain numbers, as the code takes them: w from the strip's centre to the cell's, the axis (p, q), the box halves with the cell's half side. Assumes nothing.
use Rattle.std.specs.Prelude.{◌≡◌, refl, Bool, true, false, not, cond, ◌&&◌, ◌||◌, ℕ, ℤ, pos, negsuc, nat_abs, ◌+ℤ◌, ◌-ℤ◌, ◌*ℤ◌, T}
use Rattle.std.proofs.Common.{sym, ◌∙◌, ap, ap₂, subst, inl, inr}
use Rattle.std.specs.Int.Signed.{le_z, lt_z, lt_z_yes, lt_z_no, clash_ℤ}
use Rattle.integers.specs.Order.{◌≼◌, ◌≺◌, num, gap}
use Rattle.integers.specs.Omega.{zarith}
use Rattle.integers.specs.Inequalities.{from, ◌&◌}
use Rattle.integers.specs.Absolute.{absℤ}
use Rattle.integers.specs.RingSolver.{name₃, reify, close, ok}
use Rattle.model.specs.Jobs.{is_zero}
use Rattle.model.specs.Strips.{Strip}
use Rattle.model.specs.Roots.{root}
use Rattle.model.specs.Explore.{Cell, squares, at_least0, is_inside, is_away₁, is_away₂, length_of, Answer, inside, away, maybe, by_tests, judged}
use Rattle.ranges.specs.Zeros.{zero_is, above_is_not}
use Rattle.verdicts.specs.Tests.{squares_above}

abbrev pub inside_by : ℤ → ℤ → ℤ → ℤ → ℤ → Bool
inside_by ax ay ex ey r = lt_z (squares (ax +ℤ ex) (ay +ℤ ey)) (r *ℤ r)

abbrev pub excess_by : ℤ → ℤ → ℤ
excess_by a e = cond (lt_z a e) (pos 0) (a -ℤ e)

abbrev pub apart_by : ℤ → ℤ → ℤ → ℤ → ℤ → Bool
apart_by ax ay ex ey r = le_z (r *ℤ r) (squares (excess_by ax ex) (excess_by ay ey))

abbrev pub is_beyond : ℤ → ℤ → ℤ → Bool
is_beyond cross r pp = not (is_zero pp) && le_z (r *ℤ pos (root (nat_abs pp))) cross

abbrev pub slanted_by : ℤ → ℤ → ℤ → ℤ → ℤ → ℤ → ℤ → Bool
slanted_by wx wy p q a b r = is_beyond (absℤ (wx *ℤ q -ℤ wy *ℤ p) -ℤ a *ℤ absℤ q -ℤ b *ℤ absℤ p) r (squares p q)

abbrev pub judge_by : ℤ → ℤ → ℤ → ℤ → ℤ → ℤ → ℤ → Answer
judge_by wx wy p q a b r =
    by_tests (inside_by (absℤ wx) (absℤ wy) (absℤ p +ℤ a) (absℤ q +ℤ b) r)
    (apart_by (absℤ wx) (absℤ wy) (absℤ p +ℤ a) (absℤ q +ℤ b) r || slanted_by wx wy p q a b r)

-- an answer as a number: joined, the larger holds
abbrev pub code : Answer → ℕ
code away = 0
code maybe = 1
code inside = 2

-- ---- these are the model's
sum : (w p a : ℤ) → w +ℤ (p +ℤ a) ≡ w +ℤ p +ℤ a
sum w p a = name₃ w p a λ σ x y z. simp (x, y, z, reify) (close σ _ _ ok)

less : (w p a : ℤ) → w -ℤ (p +ℤ a) ≡ w -ℤ p -ℤ a
less w p a = name₃ w p a λ σ x y z. simp (x, y, z, reify) (close σ _ _ ok)

-- 0 if negative, by a test
pub excess_is : (z : ℤ) (a e : ℤ) → a -ℤ e ≡ z → (t : Bool) → lt_z a e ≡ t → cond t (pos 0) z ≡ at_least0 z
excess_is (pos n) a e h true k = let l : a ≺ e = lt_z_yes (subst T (sym k) tt) in ap pos (zero_of n (from (l & h & num n) (name₃ a e (pos n) λ σ x y z. simp (x, y, z, reify, σ) (omega zarith))))
  where
    zero_of : (n : ℕ) → ⊥ → 0 ≡ n
    zero_of n b = absurd b
excess_is (negsuc n) a e h true k = refl
excess_is (pos n) a e h false k = refl
excess_is (negsuc n) a e h false k =
    let l : e ≼ a = lt_z_no (subst (λ b. T (not b)) (sym k) tt) in absurd (below (a -ℤ e) (gap l) (subst (λ z. z ≺ pos 0) (sym h) (lt_z_yes tt)))
  where
    below : (z : ℤ) → pos 0 ≼ z → z ≺ pos 0 → ⊥
    below z h k = clash_ℤ k h

excess_gap : (w p A : ℤ) → excess_by w (p +ℤ A) ≡ at_least0 (w -ℤ p -ℤ A)
excess_gap w p A = excess_is (w -ℤ (p +ℤ A)) w (p +ℤ A) refl (lt_z w (p +ℤ A)) refl ∙ ap at_least0 (less w p A)

-- both axis numbers are 0 just where the sum of their squares is
squares_zero : (p q : ℤ) → is_zero (squares p q) ≡ (is_zero p && is_zero q)
unfolding is_zero
squares_zero p q = go (is_zero p) (is_zero q) refl refl
  where
    go : (a b : Bool) → is_zero p ≡ a → is_zero q ≡ b → is_zero (squares p q) ≡ (a && b)
    go true true e f = rw (zero_is p e, zero_is q f)
    go true false e f = above_is_not (squares p q) (squares_above p q (inr f))
    go false b e f = above_is_not (squares p q) (squares_above p q (inl e))

-- what the code asks of a node and a cell is the model's answer
pub judge_is : (r : ℤ) (c : Cell) (S : Strip) → judge_by (c.cx -ℤ S.x.centre) (c.cy -ℤ S.y.centre) S.x.axis S.y.axis (S.x.box +ℤ c.s) (S.y.box +ℤ c.s) r ≡ judged r c S
unfolding is_inside is_away₁ is_away₂
judge_is r c S =
    let x : ℤ = absℤ (c.cx -ℤ S.x.centre) in
    let y : ℤ = absℤ (c.cy -ℤ S.y.centre) in
    let p : ℤ = absℤ S.x.axis in
    let q : ℤ = absℤ S.y.axis in
    let A : ℤ = S.x.box +ℤ c.s in
    let B : ℤ = S.y.box +ℤ c.s in
    let cross : ℤ = absℤ ((c.cx -ℤ S.x.centre) *ℤ S.y.axis -ℤ (c.cy -ℤ S.y.centre) *ℤ S.x.axis) -ℤ A *ℤ q -ℤ B *ℤ p in
    ap₂ by_tests (ap₂ (λ a b. lt_z (squares a b) (r *ℤ r)) (sum x p A) (sum y q B))
    (ap₂ ◌||◌ (ap₂ (λ a b. le_z (r *ℤ r) (squares a b)) (excess_gap x p A) (excess_gap y q B))
    (ap (λ t. not t && le_z (r *ℤ length_of S) cross) (squares_zero S.x.axis S.y.axis)))
