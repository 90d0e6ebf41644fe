-- Distances along one axis that settle a test: from ex + r on a strip is apart, and beyond r − ex it is not inside. Assumes nothing.
use Rattle.std.specs.Prelude.{◌≡◌, true, false, ℕ, ℤ, pos, ◌+ℤ◌, ◌-ℤ◌, ◌*ℤ◌}
use Rattle.std.proofs.Common.{⊎_elim}
use Rattle.integers.specs.RingSolver.{name₂, name₃, name₄, reify}
use Rattle.integers.specs.Order.{◌≼◌, ◌≺◌, ◌⊠◌, gap}
use Rattle.integers.specs.Omega.{zarith}
use Rattle.integers.specs.Inequalities.{from, ◌&◌, weak, ≼_≺_trans, split≼, sq_≼}
use Rattle.integers.specs.Tests.{lt_true, true_le}
use Rattle.model.specs.Explore.{squares}
use Rattle.strip_tests.specs.PlainTests.{inside_by, excess_by, apart_by}
use Rattle.verdicts.specs.AnswerCases.{clash}
use Rattle.row_laws.specs.Growth.{excess_least, squares_grow}

-- ---- of two numbers whose squares are summed
beyond_x : (r E F : ℤ) → pos 0 ≼ r → r ≼ E → r *ℤ r ≼ squares E F
beyond_x r E F hr h =
    from (gap h ⊠ gap h & hr ⊠ gap h) (name₃ r E F λ σ p₁ p₂ p₃. simp (p₁, p₂, p₃, reify, σ) (omega zarith))

beyond_y : (r E F : ℤ) → pos 0 ≼ r → r ≼ F → r *ℤ r ≼ squares E F
beyond_y r E F hr h =
    from (gap h ⊠ gap h & hr ⊠ gap h) (name₃ r E F λ σ p₁ p₂ p₃. simp (p₁, p₂, p₃, reify, σ) (omega zarith))

pub within_x : (r E F : ℤ) → pos 0 ≼ r → squares E F ≼ r *ℤ r → E ≼ r
within_x r E F hr h = sq_≼ hr (from h (name₃ r E F λ σ p₁ p₂ p₃. simp (p₁, p₂, p₃, reify) (omega zarith)))

pub within_y : (r E F : ℤ) → pos 0 ≼ r → squares E F ≼ r *ℤ r → F ≼ r
within_y r E F hr h = sq_≼ hr (from h (name₃ r E F λ σ p₁ p₂ p₃. simp (p₁, p₂, p₃, reify) (omega zarith)))

-- ---- the excess of a over e is at least r where a is at least e + r
excess_beyond : (a e r : ℤ) → e +ℤ r ≼ a → r ≼ excess_by a e
excess_beyond a e r h = go (excess_by a e) (excess_least a e)
  where
    go : (E : ℤ) → a -ℤ e ≼ E → r ≼ E
    go E k = from (h & k) (name₄ a e r E λ σ p₁ p₂ p₃ p₄. simp (p₁, p₂, p₃, p₄, reify) (omega zarith))

module _ (ax ay ex ey r : ℤ) (hr : pos 0 ≼ r) where
  pub far_x_apart : ex +ℤ r ≼ ax → apart_by ax ay ex ey r ≡ true
  far_x_apart h = true_le {a = r *ℤ r} (beyond_x r (excess_by ax ex) (excess_by ay ey) hr (excess_beyond ax ex r h))

  pub far_y_apart : ey +ℤ r ≼ ay → apart_by ax ay ex ey r ≡ true
  far_y_apart h = true_le {a = r *ℤ r} (beyond_y r (excess_by ax ex) (excess_by ay ey) hr (excess_beyond ay ey r h))

  -- the other way round: where it is not apart it is near along both axes
  pub near_x : apart_by ax ay ex ey r ≡ false → ax ≺ ex +ℤ r
  near_x f = ⊎_elim (λ (h : ex +ℤ r ≼ ax). clash (differ (far_x_apart h) f)) (λ h. h) (split≼ (ex +ℤ r) ax)
    where
      differ : apart_by ax ay ex ey r ≡ true → apart_by ax ay ex ey r ≡ false → ◌≡◌ {A = ℕ} 0 1
      differ e f = cc

  pub near_y : apart_by ax ay ex ey r ≡ false → ay ≺ ey +ℤ r
  near_y f = ⊎_elim (λ (h : ey +ℤ r ≼ ay). clash (differ (far_y_apart h) f)) (λ h. h) (split≼ (ey +ℤ r) ay)
    where
      differ : apart_by ax ay ex ey r ≡ true → apart_by ax ay ex ey r ≡ false → ◌≡◌ {A = ℕ} 0 1
      differ e f = cc

  -- a test that is inside, as an order
  summed : inside_by ax ay ex ey r ≡ true → squares (ax +ℤ ex) (ay +ℤ ey) ≼ r *ℤ r
  summed t = let l : squares (ax +ℤ ex) (ay +ℤ ey) ≺ r *ℤ r = lt_true t in weak l

  pub inside_close_x : inside_by ax ay ex ey r ≡ true → ax ≼ r -ℤ ex
  inside_close_x t = from (within_x r (ax +ℤ ex) (ay +ℤ ey) hr (summed t)) (name₃ ax ex r λ σ p₁ p₂ p₃. simp (p₁, p₂, p₃, reify) (omega zarith))

  pub inside_close_y : inside_by ax ay ex ey r ≡ true → ay ≼ r -ℤ ey
  inside_close_y t = from (within_y r (ax +ℤ ex) (ay +ℤ ey) hr (summed t)) (name₃ ay ey r λ σ p₁ p₂ p₃. simp (p₁, p₂, p₃, reify) (omega zarith))

-- a strip whose upright box does not fit in the reach is inside nowhere
pub box_inside : (ax ay ex ey r : ℤ) → pos 0 ≼ ax → pos 0 ≼ ay → pos 0 ≼ ex → pos 0 ≼ ey → inside_by ax ay ex ey r ≡ true → squares ex ey ≺ r *ℤ r
box_inside ax ay ex ey r nx ny hx hy t =
    let l : squares (ax +ℤ ex) (ay +ℤ ey) ≺ r *ℤ r = lt_true t in
    ≼_≺_trans (squares_grow ex ey (ax +ℤ ex) (ay +ℤ ey) hx (more ax ex nx) hy (more ay ey ny)) l
  where
    more : (a e : ℤ) → pos 0 ≼ a → e ≼ a +ℤ e
    more a e h = from h (name₂ a e λ σ p q. simp (p, q, reify, σ) (omega zarith))
