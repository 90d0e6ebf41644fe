-- The columns of a row in which the slanted test does not say away: those near a place, by a multiple of the axis. And why an axis that is upright needs none. Assumes nothing.
use Rattle.std.specs.Prelude.{◌≡◌, refl, Bool, true, false, not, ◌&&◌, cond, zero, suc, T, ℤ, pos, negsuc, neg_ℤ, nat_abs, ◌+ℤ◌, ◌-ℤ◌, ◌*ℤ◌}
use Rattle.std.proofs.Common.{sym, ◌∙◌, ap, subst, inr}
use Rattle.std.specs.Int.Signed.{lt_z, le_z, clash_ℤ, pos-nat_abs, yes_non_neg}
use Rattle.integers.specs.RingSolver.{name₂, name₄, name₆, name₉, reify, close, ok}
use Rattle.integers.specs.Order.{◌≼◌, ◌≺◌, num, num⁺, ◌⊞◌, ◌⊠◌, gap, gap⁺, sq, pos_≼}
use Rattle.integers.specs.Omega.{zarith}
use Rattle.integers.specs.Inequalities.{from, ◌&◌, ≼_trans, by_contra, ◌⊠⁺◌}
use Rattle.integers.specs.Signed.{nat_abs_neg}
use Rattle.integers.specs.Absolute.{absℤ, abs_sq, abs_≼}
use Rattle.integers.specs.Within.{Within, own_abs, times}
use Rattle.integers.specs.Tests.{both, le_true, le_false, true_le, lt_true, lt_false}
use Rattle.model.specs.Explore.{squares}
use Rattle.model.specs.Jobs.{is_zero}
use Rattle.model.specs.Roots.{root}
use Rattle.ranges.specs.Zeros.{above_is_not}
use Rattle.verdicts.specs.Roots.{root_reaches}
use Rattle.verdicts.specs.Tests.{squares_above}
use Rattle.strip_tests.specs.PlainTests.{apart_by, slanted_by}
use Rattle.row_laws.specs.Columns.{off}
use Rattle.row_laws.specs.Clips.{within_x, within_y, far_x_apart, far_y_apart}

-- ---- the slanted test: p with the sign that q has not, so that the cross product is |q| times a column's place, less what does not depend on it
abbrev pub along_q : ℤ → ℤ → ℤ
along_q p q = cond (lt_z q (pos 0)) (pos 0 -ℤ p) p

-- the length of the axis, rounded up, and the most that the cross product may be
abbrev pub axis_length : ℤ → ℤ → ℤ
axis_length p q = pos (root (nat_abs (squares p q)))

abbrev pub room_of : ℤ → ℤ → ℤ → ℤ → ℤ → ℤ
room_of p q a b r = a *ℤ absℤ q +ℤ b *ℤ absℤ p +ℤ r *ℤ axis_length p q -ℤ pos 1

-- the part of the cross product that a row's columns share, of a row y from a strip at z
abbrev pub shared : ℤ → ℤ → ℤ → ℤ → ℤ
shared y z p q = y *ℤ along_q p q +ℤ z *ℤ absℤ q

abs_above : (z : ℤ) → pos 0 ≼ z → absℤ z ≡ z
unfolding absℤ
abs_above z h = pos-nat_abs z (yes_non_neg h)

abs_below : (z : ℤ) → z ≺ pos 0 → absℤ z ≡ neg_ℤ z
unfolding absℤ
abs_below (pos n) h = absurd (clash_ℤ h (num n))
abs_below (negsuc n) h = refl

abs_neg : (z : ℤ) → absℤ (neg_ℤ z) ≡ absℤ z
unfolding absℤ
abs_neg z = ap pos (nat_abs_neg z)

-- |w × axis| in column i
module _ (s z y p q i : ℤ) where
  pub cross_is : absℤ (off s z i *ℤ q -ℤ y *ℤ p) ≡ absℤ (pos 2 *ℤ s *ℤ absℤ q *ℤ i -ℤ shared y z p q)
  cross_is = go (lt_z q (pos 0)) refl
    where
      up : (Q : ℤ) → Q ≡ q → off s z i *ℤ q -ℤ y *ℤ p ≡ pos 2 *ℤ s *ℤ Q *ℤ i -ℤ (y *ℤ p +ℤ z *ℤ Q)
      up Q e = rw e (name₆ s z y p q i λ σ p₁ p₂ p₃ p₄ p₅ p₆. simp (p₁, p₂, p₃, p₄, p₅, p₆, reify, σ) (close σ _ _ ok))

      down : (Q : ℤ) → Q ≡ neg_ℤ q → off s z i *ℤ q -ℤ y *ℤ p ≡ neg_ℤ (pos 2 *ℤ s *ℤ Q *ℤ i -ℤ (y *ℤ (pos 0 -ℤ p) +ℤ z *ℤ Q))
      down Q e = rw e (name₆ s z y p q i λ σ p₁ p₂ p₃ p₄ p₅ p₆. simp (p₁, p₂, p₃, p₄, p₅, p₆, reify, σ) (close σ _ _ ok))

      go : (t : Bool) → lt_z q (pos 0) ≡ t → absℤ (off s z i *ℤ q -ℤ y *ℤ p) ≡ absℤ (pos 2 *ℤ s *ℤ absℤ q *ℤ i -ℤ (y *ℤ cond t (pos 0 -ℤ p) p +ℤ z *ℤ absℤ q))
      go true h = ap absℤ (down (absℤ q) (abs_below q (lt_true h))) ∙ abs_neg (pos 2 *ℤ s *ℤ absℤ q *ℤ i -ℤ (y *ℤ (pos 0 -ℤ p) +ℤ z *ℤ absℤ q))
      go false h = ap absℤ (up (absℤ q) (abs_above q (lt_false h)))

-- ---- where the slanted test fails
-- one test is the opposite of another
opposite : (a b c d : ℤ) → (b ≺ a → c ≼ d) → (c ≼ d → b ≺ a) → not (le_z a b) ≡ le_z c d
opposite a b c d f g = go (le_z a b) refl
  where
    shut : a ≼ b → (t : Bool) → le_z c d ≡ t → false ≡ t
    shut h true e = absurd (clash_ℤ (g (le_true e)) h)
    shut h false e = refl

    go : (t : Bool) → le_z a b ≡ t → not t ≡ le_z c d
    go true e = shut (le_true e) (le_z c d) refl
    go false e = sym (true_le (f (le_false e)))

-- a cross product k is within the room just where what is left of it does not reach r times the length
room_is : (k c d e : ℤ) → not (le_z e (k -ℤ c -ℤ d)) ≡ le_z k (c +ℤ d +ℤ e -ℤ pos 1)
room_is k c d e = opposite e (k -ℤ c -ℤ d) k (c +ℤ d +ℤ e -ℤ pos 1)
    (name₄ k c d e λ σ p₁ p₂ p₃ p₄. simp (p₁, p₂, p₃, p₄, reify, σ) (omega zarith))
    (name₄ k c d e λ σ p₁ p₂ p₃ p₄. simp (p₁, p₂, p₃, p₄, reify, σ) (omega zarith))

has_axis : (p q : ℤ) → is_zero q ≡ false → is_zero (squares p q) ≡ false
has_axis p q e = above_is_not (squares p q) (squares_above p q (inr e))

first_holds : (a b : Bool) → a ≡ false → not (not a && b) ≡ not b
first_holds a b e = rw e

-- for q ≠ 0: in column i of the row y, by one test of a multiple of i
pub slanted_is : (s z y p q a b r i : ℤ) → is_zero q ≡ false → not (slanted_by (off s z i) y p q a b r) ≡ le_z (absℤ (pos 2 *ℤ s *ℤ absℤ q *ℤ i -ℤ shared y z p q)) (room_of p q a b r)
slanted_is s z y p q a b r i hq =
    first_holds (is_zero (squares p q)) _ (has_axis p q hq)
    ∙ room_is (absℤ (off s z i *ℤ q -ℤ y *ℤ p)) (a *ℤ absℤ q) (b *ℤ absℤ p) (r *ℤ axis_length p q)
    ∙ ap (λ k. le_z k (room_of p q a b r)) (cross_is s z y p q i)

-- ---- an axis along x or along y: what is slanted away is apart by the upright boxes
-- the length is at least either part of the axis
length_squared : (p q : ℤ) → squares p q ≼ axis_length p q *ℤ axis_length p q
length_squared p q =
    subst (λ t. t ≼ axis_length p q *ℤ axis_length p q) (pos-nat_abs (squares p q) (yes_non_neg (sq p ⊞ sq q))) (pos_≼ (root_reaches (nat_abs (squares p q))))

abs_squares : (p q : ℤ) → squares (absℤ p) (absℤ q) ≡ squares p q
abs_squares p q = ap (λ t. t +ℤ absℤ q *ℤ absℤ q) (abs_sq p) ∙ ap (λ t. p *ℤ p +ℤ t) (abs_sq q)

length_≽ : (p q : ℤ) → (absℤ p ≼ axis_length p q) × (absℤ q ≼ axis_length p q)
length_≽ p q = (within_x L (absℤ p) (absℤ q) (num (root (nat_abs (squares p q)))) h, within_y L (absℤ p) (absℤ q) (num (root (nat_abs (squares p q)))) h)
  where
    L : ℤ
    L = axis_length p q

    h : squares (absℤ p) (absℤ q) ≼ L *ℤ L
    h = subst (λ t. t ≼ L *ℤ L) (sym (abs_squares p q)) (length_squared p q)

-- a cross product is at most the two products
cross_most : (x y p q : ℤ) → absℤ (x *ℤ q -ℤ y *ℤ p) ≼ absℤ x *ℤ absℤ q +ℤ absℤ y *ℤ absℤ p
cross_most x y p q = go (x *ℤ q) (y *ℤ p) (absℤ x *ℤ absℤ q) (absℤ y *ℤ absℤ p) (times (own_abs x) (own_abs q)) (times (own_abs y) (own_abs p))
  where
    go : (X Y A B : ℤ) → Within X A → Within Y B → absℤ (X -ℤ Y) ≼ A +ℤ B
    go X Y A B h k = abs_≼ (X -ℤ Y) (A +ℤ B)
        (from (h.low & k.high) (name₄ X Y A B λ σ p₁ p₂ p₃ p₄. simp (p₁, p₂, p₃, p₄, reify) (omega zarith)))
        (from (h.high & k.low) (name₄ X Y A B λ σ p₁ p₂ p₃ p₄. simp (p₁, p₂, p₃, p₄, reify) (omega zarith)))

-- with the other part 0, the part P of the axis is a factor on both sides
part_off : (r L K W X P Z b c : ℤ) → pos 0 ≼ r → P ≼ L → pos 0 ≺ P → Z ≡ pos 0 → K ≼ X *ℤ Z +ℤ W *ℤ P → r *ℤ L ≼ K -ℤ c *ℤ Z -ℤ b *ℤ P → b +ℤ r ≼ W
part_off r L K W X P Z b c hr hL hP e h k = by_contra (λ (l : W ≺ b +ℤ r). no l (ap (λ t. X *ℤ t) e) (ap (λ t. c *ℤ t) e))
  where
    no : W ≺ b +ℤ r → X *ℤ Z ≡ X *ℤ pos 0 → c *ℤ Z ≡ c *ℤ pos 0 → ⊥
    no l f g = from (gap⁺ l ⊠⁺ hP & hr ⊠ gap hL & f & g & h & k) (name₉ r L K W X P Z b c λ σ p₁ p₂ p₃ p₄ p₅ p₆ p₇ p₈ p₉. simp (p₁, p₂, p₃, p₄, p₅, p₆, p₇, p₈, p₉, reify, σ) (omega zarith))

abs_zero : (z : ℤ) → z ≡ pos 0 → absℤ z ≡ pos 0
unfolding absℤ
abs_zero z e = ap (λ t. pos (nat_abs t)) e

-- an axis with the one part 0 has the other
other_p : (p q : ℤ) → q ≡ pos 0 → not (is_zero (squares p q)) ≡ true → pos 0 ≺ absℤ p
unfolding is_zero absℤ
other_p (pos (suc n)) q z e = num⁺ n
other_p (pos zero) q z e = absurd (subst T (ap (λ t. not (is_zero (squares (pos 0) t))) z ∙ refl) (subst T (sym e) tt))
other_p (negsuc n) q z e = num⁺ n

other_q : (p q : ℤ) → p ≡ pos 0 → not (is_zero (squares p q)) ≡ true → pos 0 ≺ absℤ q
unfolding is_zero absℤ
other_q p (pos (suc n)) z e = num⁺ n
other_q p (pos zero) z e = absurd (subst T (ap (λ t. not (is_zero (squares t (pos 0)))) z ∙ refl) (subst T (sym e) tt))
other_q p (negsuc n) z e = num⁺ n

module _ (x y p q a b r : ℤ) (hr : pos 0 ≼ r) (t : slanted_by x y p q a b r ≡ true) where
  both_hold : (not (is_zero (squares p q)) ≡ true) × (le_z (r *ℤ axis_length p q) (absℤ (x *ℤ q -ℤ y *ℤ p) -ℤ a *ℤ absℤ q -ℤ b *ℤ absℤ p) ≡ true)
  both_hold = both (not (is_zero (squares p q))) (le_z (r *ℤ axis_length p q) (absℤ (x *ℤ q -ℤ y *ℤ p) -ℤ a *ℤ absℤ q -ℤ b *ℤ absℤ p)) t

  beyond_room : r *ℤ axis_length p q ≼ absℤ (x *ℤ q -ℤ y *ℤ p) -ℤ a *ℤ absℤ q -ℤ b *ℤ absℤ p
  beyond_room = le_true both_hold.1

  pub along_x_apart : q ≡ pos 0 → apart_by (absℤ x) (absℤ y) (absℤ p +ℤ a) (absℤ q +ℤ b) r ≡ true
  along_x_apart e = far_y_apart (absℤ x) (absℤ y) (absℤ p +ℤ a) (absℤ q +ℤ b) r hr (far (absℤ q) (absℤ y) (abs_zero q e)
      (part_off r (axis_length p q) (absℤ (x *ℤ q -ℤ y *ℤ p)) (absℤ y) (absℤ x) (absℤ p) (absℤ q) b a hr (length_≽ p q).0 (other_p p q e both_hold.0) (abs_zero q e) (cross_most x y p q) beyond_room))
    where
      far : (Q Y : ℤ) → Q ≡ pos 0 → b +ℤ r ≼ Y → Q +ℤ b +ℤ r ≼ Y
      far Q Y e h = from (e & h) (name₄ Q Y b r λ σ p₁ p₂ p₃ p₄. simp (p₁, p₂, p₃, p₄, reify, σ) (omega zarith))

  pub along_y_apart : p ≡ pos 0 → apart_by (absℤ x) (absℤ y) (absℤ p +ℤ a) (absℤ q +ℤ b) r ≡ true
  along_y_apart e = far_x_apart (absℤ x) (absℤ y) (absℤ p +ℤ a) (absℤ q +ℤ b) r hr (far (absℤ p) (absℤ x) (abs_zero p e)
      (part_off r (axis_length p q) (absℤ (x *ℤ q -ℤ y *ℤ p)) (absℤ x) (absℤ y) (absℤ q) (absℤ p) a b hr (length_≽ p q).1 (other_q p q e both_hold.0) (abs_zero p e)
      (≼_trans (cross_most x y p q) (swap (absℤ x *ℤ absℤ q) (absℤ y *ℤ absℤ p)))
      (less (r *ℤ axis_length p q) (absℤ (x *ℤ q -ℤ y *ℤ p)) (a *ℤ absℤ q) (b *ℤ absℤ p) beyond_room)))
    where
      far : (P X : ℤ) → P ≡ pos 0 → a +ℤ r ≼ X → P +ℤ a +ℤ r ≼ X
      far P X e h = from (e & h) (name₄ P X a r λ σ p₁ p₂ p₃ p₄. simp (p₁, p₂, p₃, p₄, reify, σ) (omega zarith))

      swap : (A B : ℤ) → A +ℤ B ≼ B +ℤ A
      swap A B = name₂ A B λ σ p q. simp (p, q, reify) (omega zarith)

      less : (m k c d : ℤ) → m ≼ k -ℤ c -ℤ d → m ≼ k -ℤ d -ℤ c
      less m k c d = name₄ m k c d λ σ p₁ p₂ p₃ p₄. simp (p₁, p₂, p₃, p₄, reify) (omega zarith)
