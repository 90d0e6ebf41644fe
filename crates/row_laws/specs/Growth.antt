-- The tests of a strip and the distance: a cell farther away is apart where a nearer one is, and a nearer one is inside where a farther one is. Assumes nothing.
use Rattle.std.specs.Prelude.{◌≡◌, refl, Bool, true, false, cond, ℤ, pos, ◌+ℤ◌, ◌-ℤ◌, ◌*ℤ◌}
use Rattle.std.specs.Int.Signed.{lt_z}
use Rattle.integers.specs.RingSolver.{name₂, name₃, reify}
use Rattle.integers.specs.Order.{◌≼◌, ◌≺◌, ◌⊞◌, gap, ≼_refl}
use Rattle.integers.specs.Omega.{zarith}
use Rattle.integers.specs.Inequalities.{from, ≼_trans, ≼_≺_trans, ≼_*, ≼_+}
use Rattle.integers.specs.Absolute.{absℤ, abs_nonneg}
use Rattle.integers.specs.Tests.{lt_true, lt_false, true_lt, le_true, true_le}
use Rattle.model.specs.Explore.{squares}
use Rattle.strip_tests.specs.PlainTests.{inside_by, excess_by, apart_by}

-- ---- the excess of a over e: the least number that is neither below 0 nor below a − e
excess_by_is : (a e : ℤ) (G : ℤ → Type 0) → (a ≺ e → G (pos 0)) → (e ≼ a → G (a -ℤ e)) → G (excess_by a e)
excess_by_is a e G f g = go (lt_z a e) refl
  where
    go : (t : Bool) → lt_z a e ≡ t → G (cond t (pos 0) (a -ℤ e))
    go true h = f (lt_true h)
    go false h = g (lt_false h)

pub excess_nonneg : (a e : ℤ) → pos 0 ≼ excess_by a e
excess_nonneg a e = excess_by_is a e (λ z. pos 0 ≼ z) (λ h. ≼_refl refl) (λ h. gap h)

pub excess_least : (a e : ℤ) → a -ℤ e ≼ excess_by a e
excess_least a e = excess_by_is a e (λ z. a -ℤ e ≼ z)
    (λ h. from h (name₂ a e λ σ p q. simp (p, q, reify, σ) (omega zarith)))
    (λ h. ≼_refl refl)

pub excess_most : (a e m : ℤ) → pos 0 ≼ m → a -ℤ e ≼ m → excess_by a e ≼ m
excess_most a e m h k = excess_by_is a e (λ z. z ≼ m) (λ l. h) (λ l. k)

pub excess_grows : (a b e : ℤ) → a ≼ b → excess_by a e ≼ excess_by b e
excess_grows a b e h = excess_most a e (excess_by b e) (excess_nonneg b e) (≼_trans (from h (name₃ a b e λ σ p q r. simp (p, q, r, reify) (omega zarith))) (excess_least b e))

-- ---- squares
pub squares_grow : (a b c d : ℤ) → pos 0 ≼ a → a ≼ c → pos 0 ≼ b → b ≼ d → squares a b ≼ squares c d
squares_grow a b c d na h nb k = ≼_+ (≼_* na h na h) (≼_* nb k nb k)

plus_grows : (a b e : ℤ) → a ≼ b → a +ℤ e ≼ b +ℤ e
plus_grows a b e = name₃ a b e λ σ p q r. simp (p, q, r, reify) (omega zarith)

-- ---- the tests, of distances a ≤ c along x and b ≤ d along y
module _ (a b c d ex ey r : ℤ) (h : a ≼ c) (k : b ≼ d) where
  pub apart_grows : apart_by a b ex ey r ≡ true → apart_by c d ex ey r ≡ true
  apart_grows t =
      let l : r *ℤ r ≼ squares (excess_by a ex) (excess_by b ey) = le_true t in
      true_le {a = r *ℤ r} (≼_trans l
      (squares_grow (excess_by a ex) (excess_by b ey) (excess_by c ex) (excess_by d ey) (excess_nonneg a ex) (excess_grows a c ex h) (excess_nonneg b ey) (excess_grows b d ey k)))

  pub inside_shrinks : pos 0 ≼ a +ℤ ex → pos 0 ≼ b +ℤ ey → inside_by c d ex ey r ≡ true → inside_by a b ex ey r ≡ true
  inside_shrinks na nb t =
      let l : squares (c +ℤ ex) (d +ℤ ey) ≺ r *ℤ r = lt_true t in
      true_lt {b = r *ℤ r} (≼_≺_trans (squares_grow (a +ℤ ex) (b +ℤ ey) (c +ℤ ex) (d +ℤ ey) na (plus_grows a c ex h) nb (plus_grows b d ey k)) l)

-- ---- in one row: from w to v along x, with the distance y along y
module _ (w v y ex ey r : ℤ) (h : absℤ w ≼ absℤ v) where
  pub apart_farther : apart_by (absℤ w) (absℤ y) ex ey r ≡ true → apart_by (absℤ v) (absℤ y) ex ey r ≡ true
  apart_farther = apart_grows (absℤ w) (absℤ y) (absℤ v) (absℤ y) ex ey r h (≼_refl refl)

  pub inside_nearer : pos 0 ≼ ex → pos 0 ≼ ey → inside_by (absℤ v) (absℤ y) ex ey r ≡ true → inside_by (absℤ w) (absℤ y) ex ey r ≡ true
  inside_nearer hx hy = inside_shrinks (absℤ w) (absℤ y) (absℤ v) (absℤ y) ex ey r h (≼_refl refl) (abs_nonneg w ⊞ hx) (abs_nonneg y ⊞ hy)
