-- Each verdict of the map is the answer for one explored square that holds the smallest cell. Assumes nothing.
use Rattle.std.specs.Prelude.{◌≡◌, Bool, true, false, not, List, T, ltb, ℤ, ◌+ℤ◌, ◌-ℤ◌, ◌*ℤ◌}
use Rattle.std.proofs.Math.Path.{refl, ap}
use Rattle.std.proofs.Common.{sym, ◌∙◌, subst, mul-one, mul_comm, mul-le-mul_right, arith, pow-add, nltb→le}
use Prim.Native.Nat.{ℕ, zero, suc, ◌+◌, ◌-◌, ◌*◌, ◌^◌, ◌≤◌, ◌<◌}
use Rattle.std.proofs.Math.Nat.{pow-succ'}
use Rattle.std.proofs.Math.Dec.{ltb→lt}
use Rattle.std.proofs.Math.IntN.{pos, +ℤ_assoc}
use Rattle.integers.specs.RingSolver.{name₆, reify}
use Rattle.integers.specs.Order.{◌≼◌, num, pos_≼, ◌⊠◌, gap}
use Rattle.integers.specs.Omega.{zarith}
use Rattle.integers.specs.Inequalities.{from, ◌&◌, weak}
use Rattle.model.specs.Fractions.{Frac, Point}
use Rattle.model.specs.Strips.{Strip}
use Rattle.model.specs.Trees.{Tree}
use Rattle.model.specs.Explore.{Cell, Answer, inside, away, maybe, explore_all}
use Rattle.model.specs.Plates.{Verdict, doubtful, square, half_corner, half_index, settled, drawn}
use Rattle.model.specs.Exact.{Along, CellPoint}
use Rattle.integers.specs.Within.{Within}
use Rattle.verdicts.specs.AnswerCases.{clash}
use Rattle.verdicts.specs.Apart.{InCell}

-- ---- a square of 2^n columns holds column i, i < 2^n
fine_within : (X I J m t l : ℤ) → pos 0 ≼ l → pos 0 ≼ I → J ≼ m → (X +ℤ I) *ℤ l ≼ t *ℤ pos 1 → t *ℤ pos 1 ≼ (X +ℤ J) *ℤ l → Within (pos 16 *ℤ t -ℤ (pos 16 *ℤ X +ℤ pos 8 *ℤ m) *ℤ l) (pos 8 *ℤ m *ℤ l)
fine_within X I J m t l hl hI hJ h k = record {
  low = from (h & hI ⊠ hl) (name₆ X I J m t l λ σ p₁ p₂ p₃ p₄ p₅ p₆. simp (p₁, p₂, p₃, p₄, p₅, p₆, reify, σ) (omega zarith));
  high = from (k & gap hJ ⊠ hl) (name₆ X I J m t l λ σ p₁ p₂ p₃ p₄ p₅ p₆. simp (p₁, p₂, p₃, p₄, p₅, p₆, reify, σ) (omega zarith));
}

columns : (i w h : ℕ) → i < h → (i + 1) * w ≤ w * h
columns i w h l = let m : (i + 1) * w ≤ h * w = mul-le-mul_right w (go l) in rw (mul_comm w h) m
  where
    go : i < h → i + 1 ≤ h
    go l = omega arith

holds_side : (X : ℤ) (i w h : ℕ) (a : Frac) → i < h → Along X i w a → Within (pos 16 *ℤ a.top -ℤ (pos 16 *ℤ X +ℤ pos (8 * (w * h))) *ℤ a.low) (pos (8 * (w * h)) *ℤ a.low)
holds_side X i w h a l b = fine_within X (pos (i * w)) (pos ((i + 1) * w)) (pos (w * h)) a.top a.low (weak a.up) (num (i * w)) (pos_≼ (columns i w h l)) b.first b.last

holds_all : (M n : ℕ) (X Y : ℤ) (i j : ℕ) → i < 2 ^ n → j < 2 ^ n → (Q : Point) → CellPoint M X Y i j Q → InCell (square X Y (2 ^ M * 2 ^ n)) Q
holds_all M n X Y i j hi hj Q q = record { in_x = holds_side X i (2 ^ M) (2 ^ n) Q.x hi q.column; in_y = holds_side Y j (2 ^ M) (2 ^ n) Q.y hj q.row }

-- ---- a column of a square is a column of one of its halves
pub shift : (i w h : ℕ) → h ≤ i → w * h + (i - h) * w ≡ i * w
shift i w h l = go i (i - h) (omega arith)
  where
    go : (i k : ℕ) → i ≡ h + k → w * h + k * w ≡ i * w
    go i k e = rw e (omega arith)

in_half : (b : Bool) (X : ℤ) (i w h : ℕ) (a : Frac) → (T (not b) → h ≤ i) → Along X i w a → Along (half_corner b X (w * h)) (half_index b i h) w a
in_half true X i w h a f b = b
in_half false X i w h a f b =
    let e : X +ℤ pos (w * h) +ℤ pos ((i - h) * w) ≡ X +ℤ pos (i * w) = +ℤ_assoc X (pos (w * h)) (pos ((i - h) * w)) ∙ ap (λ n. X +ℤ pos n) (shift i w h (f tt)) in
    let e' : X +ℤ pos (w * h) +ℤ pos ((i - h + 1) * w) ≡ X +ℤ pos ((i + 1) * w) = +ℤ_assoc X (pos (w * h)) (pos ((i - h + 1) * w)) ∙ ap (λ n. X +ℤ pos n) (shift' (f tt)) in
    record { first = subst (λ z. z *ℤ a.low ≼ a.top *ℤ pos 1) (sym e) b.first; last = subst (λ z. a.top *ℤ pos 1 ≼ z *ℤ a.low) (sym e') b.last }
  where
    shift' : h ≤ i → w * h + (i - h + 1) * w ≡ (i + 1) * w
    shift' l = go i (i - h) (omega arith)
      where
        go : (i k : ℕ) → i ≡ h + k → w * h + (k + 1) * w ≡ (i + 1) * w
        go i k e = rw e (omega arith)

pub half_fits : (b : Bool) (i h : ℕ) → (T b → i < h) → i < 2 * h → half_index b i h < h
half_fits true i h f l = f tt
half_fits false i h f l = omega arith

-- the first square is the whole plate
pub plate_side : (N M : ℕ) → M ≤ N → 2 ^ M * 2 ^ (N - M) ≡ 2 ^ N
plate_side N M h = sym (pow-add 2 M (N - M)) ∙ ap (λ k. 2 ^ k) (omega arith)

-- ---- the square whose answer became the verdict, for any way v to judge
pub record DrawnBy (v : Cell → Strip → Answer) (ts : List Tree) (M : ℕ) (X Y : ℤ) (i j : ℕ) (x : Verdict) : Type 0 where
  pub cell : Cell
  pub holds : (Q : Point) → CellPoint M X Y i j Q → InCell cell Q
  pub side : pos 0 ≼ cell.s
  pub said : x ≡ settled (explore_all (v cell) ts) doubtful
  pub last : explore_all (v cell) ts ≡ maybe → cell.s ≡ pos (8 * 2 ^ M)

module _ (v : Cell → Strip → Answer) (ts : List Tree) (M : ℕ) where
  -- settled at a square itself: not maybe, or a smallest one
  here : (n : ℕ) (X Y : ℤ) (i j : ℕ) → i < 2 ^ n → j < 2 ^ n → (explore_all (v (square X Y (2 ^ M * 2 ^ n))) ts ≡ maybe → pos (8 * (2 ^ M * 2 ^ n)) ≡ pos (8 * 2 ^ M)) → DrawnBy v ts M X Y i j (settled (explore_all (v (square X Y (2 ^ M * 2 ^ n))) ts) doubtful)
  here n X Y i j hi hj l = record { cell = square X Y (2 ^ M * 2 ^ n); holds = holds_all M n X Y i j hi hj; side = num (8 * (2 ^ M * 2 ^ n)); said = refl; last = l }

  -- in a quarter
  in_quarter : (n : ℕ) (X Y : ℤ) (i j : ℕ) (x : Verdict) → DrawnBy v ts M (half_corner (ltb i (2 ^ n)) X (2 ^ M * 2 ^ n)) (half_corner (ltb j (2 ^ n)) Y (2 ^ M * 2 ^ n)) (half_index (ltb i (2 ^ n)) i (2 ^ n)) (half_index (ltb j (2 ^ n)) j (2 ^ n)) x → DrawnBy v ts M X Y i j x
  in_quarter n X Y i j x q = record {
    cell = q.cell;
    holds = λ Q s. q.holds Q (record {
      column = in_half (ltb i (2 ^ n)) X i (2 ^ M) (2 ^ n) Q.x (λ t. nltb→le i (2 ^ n) t) s.column;
      row = in_half (ltb j (2 ^ n)) Y j (2 ^ M) (2 ^ n) Q.y (λ t. nltb→le j (2 ^ n) t) s.row;
    });
    side = q.side;
    said = q.said;
    last = q.last;
  }

  -- a larger square: its own answer, or its quarter's
  decide : (n : ℕ) (X Y : ℤ) (i j : ℕ) → i < 2 ^ suc n → j < 2 ^ suc n → (a : Answer) → explore_all (v (square X Y (2 ^ M * 2 ^ suc n))) ts ≡ a → (x : Verdict) → DrawnBy v ts M X Y i j x → DrawnBy v ts M X Y i j (settled a x)
  decide n X Y i j hi hj inside e x s =
      let z = here (suc n) X Y i j hi hj (λ m. clash (cc)) in
      subst (λ a. DrawnBy v ts M X Y i j (settled a doubtful)) e z
  decide n X Y i j hi hj away e x s =
      let z = here (suc n) X Y i j hi hj (λ m. clash (cc)) in
      subst (λ a. DrawnBy v ts M X Y i j (settled a doubtful)) e z
  decide n X Y i j hi hj maybe e x s = s

  pub drawn_by : (n : ℕ) (X Y : ℤ) (i j : ℕ) → i < 2 ^ n → j < 2 ^ n → DrawnBy v ts M X Y i j (drawn v ts M n X Y i j)
  unfolding drawn
  drawn_by zero X Y i j hi hj = here 0 X Y i j hi hj (λ m. ap (λ k. pos (8 * k)) (mul-one (2 ^ M)))
  drawn_by (suc n) X Y i j hi hj =
      decide n X Y i j hi hj (explore_all (v (square X Y (2 ^ M * 2 ^ suc n))) ts) refl _
      (in_quarter n X Y i j _ (drawn_by n (half_corner (ltb i (2 ^ n)) X (2 ^ M * 2 ^ n)) (half_corner (ltb j (2 ^ n)) Y (2 ^ M * 2 ^ n)) (half_index (ltb i (2 ^ n)) i (2 ^ n)) (half_index (ltb j (2 ^ n)) j (2 ^ n))
      (half_fits (ltb i (2 ^ n)) i (2 ^ n) (λ t. ltb→lt i (2 ^ n) t) (rw (pow-succ' 2 n) at hi)) (half_fits (ltb j (2 ^ n)) j (2 ^ n) (λ t. ltb→lt j (2 ^ n) t) (rw (pow-succ' 2 n) at hj))))
