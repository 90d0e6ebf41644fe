-- The verdict that quartering draws is the smallest cell's own. Assumes nothing.
use Rattle.std.specs.Prelude.{◌≡◌, Bool, true, false, not, List, T, ltb, ℤ, pos, ◌+ℤ◌, ◌-ℤ◌, ◌*ℤ◌}
use Rattle.std.proofs.Math.Path.{refl, sym, ap}
use Rattle.std.proofs.Common.{◌∙◌, ap₂, mul-one, mul_comm, mul-le-mul_right, arith}
use Prim.Native.Nat.{ℕ, zero, suc, ◌+◌, ◌-◌, ◌*◌, ◌^◌, ◌≤◌, ◌<◌}
use Rattle.std.proofs.Math.Nat.{pow-succ'}
use Rattle.std.proofs.Math.Dec.{ltb→lt, nltb→le}
use Rattle.std.proofs.Math.IntN.{+ℤ_assoc, +ℤ_idr}
use Rattle.integers.specs.RingSolver.{name₃, name₄, reify}
use Rattle.integers.specs.Order.{◌≼◌, num, pos_≼}
use Rattle.integers.specs.Omega.{zarith}
use Rattle.integers.specs.Inequalities.{from, ◌&◌}
use Rattle.integers.specs.Absolute.{absℤ, abs_≼}
use Rattle.model.specs.Strips.{Strip}
use Rattle.model.specs.Trees.{Tree}
use Rattle.model.specs.Explore.{Cell, Answer, explore_all}
use Rattle.model.specs.Plates.{Verdict, doubtful, square, half_corner, half_index, settled, drawn}
use Rattle.verdicts.specs.Quartering.{shift, half_fits}
use Rattle.inheritance.specs.Parts.{PartOf}
use Rattle.inheritance.specs.Edges.{EachInherits, part_settled}

-- column i of a square that begins at X, of columns w wide
abbrev pub column : ℤ → ℕ → ℕ → ℤ
column X i w = X +ℤ pos (i * w)

-- smallest cell (i, j), column before row
abbrev pub smallest : ℕ → ℤ → ℤ → ℕ → ℕ → Cell
smallest M X Y i j = square (column X i (2 ^ M)) (column Y j (2 ^ M)) (2 ^ M)

-- ---- it is a part of the square of 2^n columns
along : (X I m w : ℤ) → pos 0 ≼ I → I +ℤ w ≼ m → absℤ (pos 16 *ℤ (X +ℤ I) +ℤ pos 8 *ℤ w -ℤ (pos 16 *ℤ X +ℤ pos 8 *ℤ m)) +ℤ pos 8 *ℤ w ≼ pos 8 *ℤ m
along X I m w hI h =
    up (absℤ z) (abs_≼ z (pos 8 *ℤ m -ℤ pos 8 *ℤ w)
    (from (hI & h) (name₄ X I m w λ σ p q r s. simp (p, q, r, s, reify, σ) (omega zarith)))
    (from (hI & h) (name₄ X I m w λ σ p q r s. simp (p, q, r, s, reify, σ) (omega zarith))))
  where
    z : ℤ
    z = pos 16 *ℤ (X +ℤ I) +ℤ pos 8 *ℤ w -ℤ (pos 16 *ℤ X +ℤ pos 8 *ℤ m)

    up : (a : ℤ) → a ≼ pos 8 *ℤ m -ℤ pos 8 *ℤ w → a +ℤ pos 8 *ℤ w ≼ pos 8 *ℤ m
    up a = name₃ a m w λ σ p q r. simp (p, q, r, reify, σ) (omega zarith)

columns : (i w h : ℕ) → i < h → i * w + w ≤ w * h
columns i w h l = let m : (i + 1) * w ≤ h * w = mul-le-mul_right w (go l) in rw (mul_comm w h) (omega arith)
  where
    go : i < h → i + 1 ≤ h
    go l = omega arith

part_side : (X : ℤ) (i w h : ℕ) → i < h → absℤ (pos 16 *ℤ (X +ℤ pos (i * w)) +ℤ pos (8 * w) -ℤ (pos 16 *ℤ X +ℤ pos (8 * (w * h)))) +ℤ pos (8 * w) ≼ pos (8 * (w * h))
part_side X i w h l = along X (pos (i * w)) (pos (w * h)) (pos w) (num (i * w)) (pos_≼ (columns i w h l))

pub smallest_part : (M n : ℕ) (X Y : ℤ) (i j : ℕ) → i < 2 ^ n → j < 2 ^ n → PartOf (smallest M X Y i j) (square X Y (2 ^ M * 2 ^ n))
smallest_part M n X Y i j hi hj = record { half = num (8 * 2 ^ M); along_x = part_side X i (2 ^ M) (2 ^ n) hi; along_y = part_side Y j (2 ^ M) (2 ^ n) hj }

-- ---- and the same cell in the quarter
same_column : (b : Bool) (X : ℤ) (i w h : ℕ) → (T (not b) → h ≤ i) → column (half_corner b X (w * h)) (half_index b i h) w ≡ column X i w
same_column true X i w h f = refl
same_column false X i w h f = +ℤ_assoc X (pos (w * h)) (pos ((i - h) * w)) ∙ ap (λ n. X +ℤ pos n) (shift i w h (f tt))

first_column : (X : ℤ) (i w : ℕ) → i ≡ 0 → column X i w ≡ X
first_column X i w e = ap (λ n. X +ℤ pos n) (nothing i w e) ∙ +ℤ_idr X
  where
    nothing : (i w : ℕ) → i ≡ 0 → i * w ≡ 0
    nothing i w e = rw e (omega arith)

module _ (v : Cell → Strip → Answer) (ts : List Tree) (each : EachInherits v ts) (M : ℕ) where
  -- the smallest cell's own verdict
  abbrev own : Cell → Verdict
  own c = settled (explore_all (v c) ts) doubtful

  pub drawn_is : (n : ℕ) (X Y : ℤ) (i j : ℕ) → i < 2 ^ n → j < 2 ^ n → drawn v ts M n X Y i j ≡ settled (explore_all (v (smallest M X Y i j)) ts) doubtful
  unfolding drawn
  drawn_is zero X Y i j hi hj =
      ap own (ap (λ k. square X Y k) (mul-one (2 ^ M)) ∙ sym (ap₂ (λ x y. square x y (2 ^ M)) (first_column X i (2 ^ M) (omega arith)) (first_column Y j (2 ^ M) (omega arith))))
  drawn_is (suc n) X Y i j hi hj =
      let q = drawn_is n (half_corner (ltb i (2 ^ n)) X (2 ^ M * 2 ^ n)) (half_corner (ltb j (2 ^ n)) Y (2 ^ M * 2 ^ n)) (half_index (ltb i (2 ^ n)) i (2 ^ n)) (half_index (ltb j (2 ^ n)) j (2 ^ n))
      (half_fits (ltb i (2 ^ n)) i (2 ^ n) (λ t. ltb→lt i (2 ^ n) t) (rw (pow-succ' 2 n) at hi)) (half_fits (ltb j (2 ^ n)) j (2 ^ n) (λ t. ltb→lt j (2 ^ n) t) (rw (pow-succ' 2 n) at hj)) in
      part_settled v (square X Y (2 ^ M * 2 ^ suc n)) (smallest M X Y i j) (smallest_part M (suc n) X Y i j hi hj) ts each (explore_all (v (square X Y (2 ^ M * 2 ^ suc n))) ts) refl _
      (q ∙ ap own (ap₂ (λ x y. square x y (2 ^ M)) (same_column (ltb i (2 ^ n)) X i (2 ^ M) (2 ^ n) (λ t. nltb→le i (2 ^ n) t)) (same_column (ltb j (2 ^ n)) Y j (2 ^ M) (2 ^ n) (λ t. nltb→le j (2 ^ n) t))))
