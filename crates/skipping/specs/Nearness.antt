-- How near a point is to upright boxes: of a strip's it is what the bounds of a point take of the strip, of a tree's it is no more than that of any of its leaves, and no leaf is
-- nearer than far. Assumes nothing.
use Rattle.std.specs.Prelude.{◌≡◌, ◌≤◌, ℤ, pos, nat_abs, neg_ℤ, ◌+ℤ◌, ◌-ℤ◌}
use Rattle.std.proofs.Math.Path.{refl, subst}
use Rattle.std.proofs.Common.{sym, ap, ap₂, inl, inr, ⊎_elim, arith, lit<}
use Rattle.integers.specs.RingSolver.{name₃, name₅, reify}
use Rattle.integers.specs.Order.{◌≼◌, ◌≺◌, ≼_refl, pos_≼, pos_≺}
use Rattle.integers.specs.Omega.{zarith}
use Rattle.integers.specs.Inequalities.{≼_trans, ≼_≺_trans, ≼_+, ≼_*}
use Rattle.integers.specs.Absolute.{absℤ, abs_size, abs_nonneg, abs_is, ≼_abs, neg≼_abs}
use Rattle.integers.specs.Signed.{nat_abs_neg, nat_abs_add, nonneg}
use Rattle.model.specs.Strips.{Side, Strip}
use Rattle.model.specs.Trees.{Tree, leaf, long, node}
use Rattle.model.specs.Boxes.{Span, Box, span_of, upright, spanning, around, box_of, lesser, greater}
use Rattle.model.specs.Explore.{Cell, farthest, room, closest, at_least0, squares, farthest², closest²}
use Rattle.model.specs.Distance.{leaves, least, near, far, near², far²}
use Rattle.model.specs.Lookup.{none}
use Rattle.ranges.specs.Sizes.{SideSized, Sized, AllSized}
use Rattle.skipping.specs.Extremes.{greater_is, greater_mono, lesser_≼, ≼_greater, ≼_lesser, lesser_mono, clamped_above, clamped_≼, clamped_mono}
use Rattle.skipping.specs.Least.{least_append, leaf_there}

-- ---- in one coordinate. A is the distance of c from the middle m of a span that reaches a + b to either side; the other end is that of the near or of the far side
module _ (c m a b A : ℤ) where
  near_least : neg_ℤ (c -ℤ m) ≼ A → m -ℤ (a +ℤ b) -ℤ c ≼ A -ℤ a -ℤ (b +ℤ pos 0)
  near_least = name₅ c m a b A λ σ p q r s t. simp (p, q, r, s, t, reify, σ) (omega zarith)

  near_greatest : c -ℤ m ≼ A → c -ℤ (m +ℤ (a +ℤ b)) ≼ A -ℤ a -ℤ (b +ℤ pos 0)
  near_greatest = name₅ c m a b A λ σ p q r s t. simp (p, q, r, s, t, reify, σ) (omega zarith)

  near_left : A ≡ neg_ℤ (c -ℤ m) → A -ℤ a -ℤ (b +ℤ pos 0) ≡ m -ℤ (a +ℤ b) -ℤ c
  near_left = name₅ c m a b A λ σ p q r s t. simp (p, q, r, s, t, reify, σ) (omega zarith)

  near_right : A ≡ c -ℤ m → A -ℤ a -ℤ (b +ℤ pos 0) ≡ c -ℤ (m +ℤ (a +ℤ b))
  near_right = name₅ c m a b A λ σ p q r s t. simp (p, q, r, s, t, reify, σ) (omega zarith)

  far_least : c -ℤ m ≼ A → c -ℤ (m -ℤ (a +ℤ b)) ≼ A +ℤ a +ℤ (b +ℤ pos 0)
  far_least = name₅ c m a b A λ σ p q r s t. simp (p, q, r, s, t, reify, σ) (omega zarith)

  far_greatest : neg_ℤ (c -ℤ m) ≼ A → m +ℤ (a +ℤ b) -ℤ c ≼ A +ℤ a +ℤ (b +ℤ pos 0)
  far_greatest = name₅ c m a b A λ σ p q r s t. simp (p, q, r, s, t, reify, σ) (omega zarith)

  far_left : A ≡ c -ℤ m → A +ℤ a +ℤ (b +ℤ pos 0) ≡ c -ℤ (m -ℤ (a +ℤ b))
  far_left = name₅ c m a b A λ σ p q r s t. simp (p, q, r, s, t, reify, σ) (omega zarith)

  far_right : A ≡ neg_ℤ (c -ℤ m) → A +ℤ a +ℤ (b +ℤ pos 0) ≡ m +ℤ (a +ℤ b) -ℤ c
  far_right = name₅ c m a b A λ σ p q r s t. simp (p, q, r, s, t, reify, σ) (omega zarith)

module _ (c : ℤ) (S : Side) where
  abbrev w : ℤ
  w = c -ℤ S.centre

  abbrev a : ℤ
  a = absℤ S.axis

  near_span : near c (span_of S) ≡ closest c (pos 0) S
  near_span = ap at_least0 (greater_is (near_least c S.centre a S.box (absℤ w) (neg≼_abs w)) (near_greatest c S.centre a S.box (absℤ w) (≼_abs w))
      (⊎_elim (λ e. inr (near_right c S.centre a S.box (absℤ w) e)) (λ e. inl (near_left c S.centre a S.box (absℤ w) e)) (abs_is w)))

  far_span : far c (span_of S) ≡ farthest c (pos 0) S
  far_span = greater_is (far_least c S.centre a S.box (absℤ w) (≼_abs w)) (far_greatest c S.centre a S.box (absℤ w) (neg≼_abs w))
      (⊎_elim (λ e. inl (far_left c S.centre a S.box (absℤ w) e)) (λ e. inr (far_right c S.centre a S.box (absℤ w) e)) (abs_is w))

  above : (x y z : ℤ) → pos 0 ≼ x → pos 0 ≼ y → pos 0 ≼ z → (x -ℤ y -ℤ (z +ℤ pos 0) ≼ x +ℤ y +ℤ (z +ℤ pos 0)) × (pos 0 ≼ x +ℤ y +ℤ (z +ℤ pos 0))
  above x y z h k l = (lower x y z h k l, upper x y z h k l)
    where
      lower : (x y z : ℤ) → pos 0 ≼ x → pos 0 ≼ y → pos 0 ≼ z → x -ℤ y -ℤ (z +ℤ pos 0) ≼ x +ℤ y +ℤ (z +ℤ pos 0)
      lower x y z = name₃ x y z λ σ p q r. simp (p, q, r, reify, σ) (omega zarith)

      upper : (x y z : ℤ) → pos 0 ≼ x → pos 0 ≼ y → pos 0 ≼ z → pos 0 ≼ x +ℤ y +ℤ (z +ℤ pos 0)
      upper x y z = name₃ x y z λ σ p q r. simp (p, q, r, reify, σ) (omega zarith)

  no_nearer_than_far : SideSized S → (closest c (pos 0) S ≼ farthest c (pos 0) S) × (pos 0 ≼ farthest c (pos 0) S)
  no_nearer_than_far h =
      let u = above (absℤ w) a S.box (abs_nonneg w) (abs_nonneg S.axis) (nonneg S.box h.box_above) in
      (clamped_≼ (room c (pos 0) S) (farthest c (pos 0) S) u.0 u.1, u.1)

  abs_pos : (z : ℤ) → absℤ z ≡ pos (nat_abs z)
  unfolding absℤ
  abs_pos z = refl

  far_small : nat_abs c ≤ 16000000 → SideSized S → farthest c (pos 0) S ≼ pos 1223959552
  far_small h k =
      let z = farthest c (pos 0) S in
      let n : nat_abs z ≤ 1223959552 = omega (
        arith,
        nat_abs_add (absℤ w +ℤ a) (S.box +ℤ pos 0),
        nat_abs_add (absℤ w) a,
        nat_abs_add S.box (pos 0),
        nat_abs_add c (neg_ℤ S.centre),
        nat_abs_neg S.centre,
        abs_size w,
        abs_size S.axis,
        h,
        k.centre_size,
        k.axis_size,
        k.box_size,
      ) in
      ≼_trans (≼_abs z) (≼_trans (≼_refl (abs_pos z)) (pos_≼ n))

-- a span that holds another is no farther
near_larger : (c : ℤ) (s t : Span) → s.least ≼ t.least → t.greatest ≼ s.greatest → near c s ≼ near c t
near_larger c s t h k = clamped_mono (greater_mono (less s.least t.least c h) (more c t.greatest s.greatest k))
  where
    less : (x y z : ℤ) → x ≼ y → x -ℤ z ≼ y -ℤ z
    less x y z = name₃ x y z λ σ p q r. simp (p, q, r, reify) (omega zarith)

    more : (z x y : ℤ) → x ≼ y → z -ℤ y ≼ z -ℤ x
    more z x y = name₃ z x y λ σ p q r. simp (p, q, r, reify) (omega zarith)

spanning_left : (c : ℤ) (s t : Span) → near c (spanning s t) ≼ near c s
spanning_left c s t = near_larger c (spanning s t) s (lesser_≼ s.least t.least).0 (≼_greater s.greatest t.greatest).0

spanning_right : (c : ℤ) (s t : Span) → near c (spanning s t) ≼ near c t
spanning_right c s t = near_larger c (spanning s t) t (lesser_≼ s.least t.least).1 (≼_greater s.greatest t.greatest).1

near_above : (c : ℤ) (s : Span) → pos 0 ≼ near c s
near_above c s = clamped_above (greater (s.least -ℤ c) (c -ℤ s.greatest))

-- ---- in both
squares_mono : {a b c d : ℤ} → pos 0 ≼ a → a ≼ c → pos 0 ≼ b → b ≼ d → squares a b ≼ squares c d
squares_mono h k l m = ≼_+ (≼_* h k h k) (≼_* l m l m)

module _ (x y : ℤ) where
  -- the point
  abbrev p : Cell
  p = record { cx = x; cy = y; s = pos 0 }

  pub near_upright : (S : Strip) → near² p (upright S) ≡ closest² p S
  near_upright S = ap₂ squares (near_span x S.x) (near_span y S.y)

  pub far_upright : (S : Strip) → far² p (upright S) ≡ farthest² p S
  far_upright S = ap₂ squares (far_span x S.x) (far_span y S.y)

  closest_first : (S : Strip) → Sized S → closest² p S ≼ farthest² p S
  closest_first S h = squares_mono (clamped_above (room x (pos 0) S.x)) (no_nearer_than_far x S.x h.x_sized).0 (clamped_above (room y (pos 0) S.y)) (no_nearer_than_far y S.y h.y_sized).0

  -- ---- of a tree: its box is no farther than any leaf's
  around_left : (a b : Box) → near² p (around a b) ≼ near² p a
  around_left a b = squares_mono (near_above x (spanning a.x b.x)) (spanning_left x a.x b.x) (near_above y (spanning a.y b.y)) (spanning_left y a.y b.y)

  around_right : (a b : Box) → near² p (around a b) ≼ near² p b
  around_right a b = squares_mono (near_above x (spanning a.x b.x)) (spanning_right x a.x b.x) (near_above y (spanning a.y b.y)) (spanning_right y a.y b.y)

  -- the least of the leaves' values, node by node
  pub least_node : (f : Strip → ℤ) (s : Strip) (l r : Tree) → least f (leaves (node s l r)) ≡ lesser (least f (leaves l)) (least f (leaves r))
  unfolding leaves
  least_node f s l r = least_append f (leaves l) (leaves r) (leaf_there l) (leaf_there r)

  pub box_nearer : (t : Tree) → near² p (box_of t) ≼ least (closest² p) (leaves t)
  unfolding leaves least
  box_nearer (leaf s) = ≼_refl (near_upright s)
  box_nearer (long s) = ≼_refl (near_upright s)
  box_nearer (node s l r) =
      subst (λ (z : ℤ). near² p (box_of (node s l r)) ≼ z) (sym (least_node (closest² p) s l r))
      (≼_lesser (≼_trans (around_left (box_of l) (box_of r)) (box_nearer l)) (≼_trans (around_right (box_of l) (box_of r)) (box_nearer r)))

  pub least_first : (t : Tree) → AllSized t → least (closest² p) (leaves t) ≼ least (farthest² p) (leaves t)
  unfolding leaves least
  least_first (leaf s) f = closest_first s f
  least_first (long s) f = closest_first s f
  least_first (node s l r) f = rw (least_node (closest² p) s l r, least_node (farthest² p) s l r) (lesser_mono (least_first l f.1) (least_first r f.2))

  -- ---- no leaf is as far as the number that stands for none
  farthest_below : (S : Strip) → nat_abs x ≤ 16000000 → nat_abs y ≤ 16000000 → Sized S → farthest² p S ≺ none
  farthest_below S h k s =
      ≼_≺_trans (squares_mono (no_nearer_than_far x S.x s.x_sized).1 (far_small x S.x h s.x_sized) (no_nearer_than_far y S.y s.y_sized).1 (far_small y S.y k s.y_sized))
      (pos_≺ (lit< tt))

  pub least_below : (t : Tree) → nat_abs x ≤ 16000000 → nat_abs y ≤ 16000000 → AllSized t → least (farthest² p) (leaves t) ≺ none
  unfolding leaves least
  least_below (leaf s) h k f = farthest_below s h k f
  least_below (long s) h k f = farthest_below s h k f
  least_below (node s l r) h k f = rw (least_node (farthest² p) s l r) (≼_≺_trans (lesser_≼ (least (farthest² p) (leaves l)) (least (farthest² p) (leaves r))).0 (least_below l h k f.1))
