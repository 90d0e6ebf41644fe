-- Blocks of smallest cells, as drawing counts them: w by w smallest cells from column c and row r, of half side q, from the corner (X, Y) in fine units. Assumes nothing.
use Rattle.std.specs.Prelude.{◌≡◌, ℕ, ◌+◌, ◌*◌, ◌^◌, ◌≤◌, ◌<◌, ℤ, pos, ◌+ℤ◌, ◌-ℤ◌, ◌*ℤ◌}
use Rattle.std.proofs.Common.{arith}
use Rattle.integers.specs.RingSolver.{name₃, name₅, reify, close, ok}
use Rattle.integers.specs.Order.{◌≼◌, pos_≼, ◌⊠◌, gap}
use Rattle.integers.specs.Omega.{zarith}
use Rattle.integers.specs.Inequalities.{from}
use Rattle.integers.specs.Absolute.{absℤ, abs_≼}
use Rattle.model.specs.Explore.{Cell}
use Rattle.inheritance.specs.Parts.{PartOf}
use Rattle.inheritance.specs.Drawn.{smallest}

-- the middle of w columns from column c on
abbrev pub middle : ℤ → ℤ → ℕ → ℕ → ℤ
middle X q c w = X +ℤ (pos 2 *ℤ pos c +ℤ pos w) *ℤ q

abbrev pub block : ℤ → ℤ → ℤ → ℕ → ℕ → ℕ → Cell
block X Y q c r w = record { cx = middle X q c w; cy = middle Y q r w; s = pos w *ℤ q }

-- ---- a smallest cell of the block is a part of it
side' : (X q C W I : ℤ) → pos 0 ≼ q → C ≼ I → I +ℤ pos 1 ≼ C +ℤ W → absℤ (X +ℤ (pos 2 *ℤ I +ℤ pos 1) *ℤ q -ℤ (X +ℤ (pos 2 *ℤ C +ℤ W) *ℤ q)) +ℤ pos 1 *ℤ q ≼ W *ℤ q
side' X q C W I hq h k =
    up (absℤ z) (abs_≼ z (W *ℤ q -ℤ q)
    (from (gap h ⊠ hq) (name₅ X q C W I λ σ p₁ p₂ p₃ p₄ p₅. simp (p₁, p₂, p₃, p₄, p₅, reify, σ) (omega zarith)))
    (from (gap k ⊠ hq) (name₅ X q C W I λ σ p₁ p₂ p₃ p₄ p₅. simp (p₁, p₂, p₃, p₄, p₅, reify, σ) (omega zarith))))
  where
    z : ℤ
    z = X +ℤ (pos 2 *ℤ I +ℤ pos 1) *ℤ q -ℤ (X +ℤ (pos 2 *ℤ C +ℤ W) *ℤ q)

    up : (a : ℤ) → a ≼ W *ℤ q -ℤ q → a +ℤ pos 1 *ℤ q ≼ W *ℤ q
    up a = name₃ a W q λ σ p r s. simp (p, r, s, reify, σ) (omega zarith)

side : (X q : ℤ) (c w i : ℕ) → pos 0 ≼ q → c ≤ i → i < c + w → absℤ (middle X q i 1 -ℤ middle X q c w) +ℤ pos 1 *ℤ q ≼ pos w *ℤ q
side X q c w i hq h k = side' X q (pos c) (pos w) (pos i) hq (pos_≼ h) (pos_≼ (next k))
  where
    next : i < c + w → i + 1 ≤ c + w
    next k = omega arith

one : (q : ℤ) → pos 0 ≼ q → pos 0 ≼ pos 1 *ℤ q
one q h = from h (name₃ q q q λ σ p r s. simp (p, reify, σ) (omega zarith))

pub block_part : (X Y q : ℤ) (c r w i j : ℕ) → pos 0 ≼ q → c ≤ i → i < c + w → r ≤ j → j < r + w → PartOf (block X Y q i j 1) (block X Y q c r w)
block_part X Y q c r w i j hq h k l m = record { half = one q hq; along_x = side X q c w i hq h k; along_y = side Y q r w j hq l m }

-- ---- the map's smallest cells are blocks of one, from the corner in fine units
unit : (X W I : ℤ) → pos 16 *ℤ (X +ℤ I *ℤ W) +ℤ pos 8 *ℤ W ≡ pos 16 *ℤ X +ℤ (pos 2 *ℤ I +ℤ pos 1) *ℤ (pos 8 *ℤ W)
unit X W I = name₃ X W I λ σ p₁ p₂ p₃. simp (p₁, p₂, p₃, reify, σ) (close σ _ _ ok)

once : (W : ℤ) → pos 8 *ℤ W ≡ pos 1 *ℤ (pos 8 *ℤ W)
once W = name₃ W W W λ σ p r s. simp (p, reify, σ) (close σ _ _ ok)

cells : {a b c d e f : ℤ} → a ≡ d → b ≡ e → c ≡ f → ◌≡◌ {A = Cell} (record { cx = a; cy = b; s = c }) (record { cx = d; cy = e; s = f })
cells h k l = cc

pub smallest_is : (M : ℕ) (X Y : ℤ) (i j : ℕ) → smallest M X Y i j ≡ block (pos 16 *ℤ X) (pos 16 *ℤ Y) (pos (8 * 2 ^ M)) i j 1
smallest_is M X Y i j = cells (unit X (pos (2 ^ M)) (pos i)) (unit Y (pos (2 ^ M)) (pos j)) (once (pos (2 ^ M)))
