-- Where a stretch begins and ends. Assumes nothing.
use Rattle.std.specs.Prelude.{◌≡◌, false, ◌&&◌, ℕ, ◌+◌, ◌*◌, ◌/◌, ◌≤◌, ◌<◌, leb, ltb, ℤ, pos, negsuc, nat_abs, ◌+ℤ◌, ◌-ℤ◌}
use Rattle.std.proofs.Common.{sym, ◌∙◌, arith, lt-ltb, ltb-true, ltb→lt, lt→ltb, leb→le, le→leb}
use Rattle.std.proofs.Math.Nat.{le-div_iff_mul-le}
use Rattle.std.proofs.Math.Decide.{dec_le}
use Rattle.std.proofs.lemmas.Nat.{pow_pos}
use Rattle.std.specs.Int.Signed.{le_z, lt_z, le_z_yes}
use Rattle.integers.specs.RingSolver.{name₁, name₂, name₃, reify}
use Rattle.integers.specs.Order.{◌≼◌, ◌≺◌}
use Rattle.integers.specs.Omega.{zarith}
use Rattle.integers.specs.Inequalities.{from, ◌&◌, by_contra}
use Rattle.integers.specs.Absolute.{absℤ, abs_≼}
use Rattle.integers.specs.Within.{Within, of_abs}
use Rattle.integers.specs.Tests.{alike, t_both, t_pair, le_true, le_false, true_le, false_lt}
use Rattle.spans.specs.declared.Step.{Step}
use Rattle.spans.specs.declared.Step.TheVariants.{Length, PowerOfTwo}
use Rattle.spans.specs.Among.{length_of, StepSized}

length_above : (s : Step) → StepSized s → 0 < length_of s
length_above (Length d) h = h.0
length_above (PowerOfTwo k) h = pow_pos k

-- ---- quotients: i ≤ n / d just where d i ≤ n
past : (n d i : ℕ) → 0 < d → ltb i (n / d + 1) ≡ leb (d * i) n
past n d i h = alike (ltb i (n / d + 1)) (leb (d * i) n)
    (λ t. let l = ltb→lt i (n / d + 1) t in let k : i * d ≤ n = (le-div_iff_mul-le h).0 (omega arith) in le→leb (d * i) n (omega arith))
    (λ t. let l = leb→le (d * i) n t in let k : i ≤ n / d = (le-div_iff_mul-le h).1 (omega arith) in lt→ltb i (n / d + 1) (omega arith))

pub above_law : (s : Step) (q i : ℕ) (v : ℤ) → StepSized s → lt_z v (pos 0) ≡ false → q ≡ nat_abs v / length_of s → ltb i (q + 1) ≡ le_z (pos (length_of s * i)) v
above_law s q i (pos n) h t e = rw e (past n (length_of s) i (length_above s h))
above_law s q i (negsuc n) h t e = cc

-- the first above v − 1 is the first from v on
from_past : (r i : ℕ) (v x : ℤ) → ltb i r ≡ le_z x (v -ℤ pos 1) → leb r i ≡ le_z v x
from_past r i v x e = alike (leb r i) (le_z v x)
    (λ t. let h : v ≼ x = by_contra (λ (l : x ≺ v). let k = ltb-true i r (e ∙ true_le (down l)) in let m = leb→le r i t in omega arith) in h.le)
    (λ t. le→leb r i (elim (dec_le r i) [ yes p ↦ p | no p ↦ absurd (clash (le_z_yes t) (le_true (sym e ∙ lt-ltb i r (omega arith)))) ]))
  where
    down : x ≺ v → x ≼ v -ℤ pos 1
    down = name₂ v x λ σ p q. simp (p, q, reify, σ) (omega zarith)

    clash : v ≼ x → x ≼ v -ℤ pos 1 → ⊥
    clash h k = from (h & k) (name₂ v x λ σ p q. simp (p, q, reify, σ) (omega zarith))

pub from_law : (s : Step) (q i : ℕ) (v : ℤ) → StepSized s → le_z v (pos 0) ≡ false → q ≡ nat_abs (v -ℤ pos 1) / length_of s → leb (q + 1) i ≡ le_z v (pos (length_of s * i))
from_law s q i v h t e = from_past (q + 1) i v (pos (length_of s * i)) (above_law s q i (v -ℤ pos 1) h (false_lt (less (le_false t))) e)
  where
    less : pos 0 ≺ v → pos 0 ≼ v -ℤ pos 1
    less = name₁ v λ σ p. simp (p, reify, σ) (omega zarith)

-- no farther from u than e: from u − e to u + e
pub near_law : (x u e : ℤ) → (le_z (u -ℤ e) x && le_z x (u +ℤ e)) ≡ le_z (absℤ (x -ℤ u)) e
near_law x u e = alike (le_z (u -ℤ e) x && le_z x (u +ℤ e)) (le_z (absℤ (x -ℤ u)) e)
    (λ t. let b = t_both (le_z (u -ℤ e) x) (le_z x (u +ℤ e)) t in (near (le_z_yes b.0) (le_z_yes b.1)).le)
    (λ t. let w = of_abs (le_z_yes t) in t_pair (le_z (u -ℤ e) x) (le_z x (u +ℤ e)) (low w).le (high w).le)
  where
    near : u -ℤ e ≼ x → x ≼ u +ℤ e → absℤ (x -ℤ u) ≼ e
    near h k = abs_≼ (x -ℤ u) e
        (from (h & k) (name₃ x u e λ σ p q r. simp (p, q, r, reify) (omega zarith)))
        (from (h & k) (name₃ x u e λ σ p q r. simp (p, q, r, reify) (omega zarith)))

    low : Within (x -ℤ u) e → u -ℤ e ≼ x
    low w = from w.low (name₃ x u e λ σ p q r. simp (p, q, r, reify) (omega zarith))

    high : Within (x -ℤ u) e → x ≼ u +ℤ e
    high w = from w.high (name₃ x u e λ σ p q r. simp (p, q, r, reify) (omega zarith))
