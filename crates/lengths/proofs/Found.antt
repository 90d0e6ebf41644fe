-- When a number is a root. Assumes nothing.
use Rattle.std.specs.Prelude.{◌≡◌, ℕ, ◌+◌, ◌*◌, ◌-◌, ◌≤◌, ◌<◌}
use Rattle.std.proofs.Common.{le_antisymm, mul-le-mul, arith}
use Rattle.std.proofs.Math.Decide.{dec_le}
use Rattle.model.specs.Roots.{root}
use Rattle.verdicts.specs.Roots.{root_reaches, root_least}

-- a smaller square is that of a smaller number
less : (k m : ℕ) → k * k < m * m → k < m
less k m h = elim (dec_le m k) [ yes p ↦ absurd (omega (arith, mul-le-mul p p)) | no p ↦ omega arith ]

-- a number whose square reaches v while that of the one below does not is the root
pub root_found : (v x : ℕ) → v ≤ x * x → (0 < x → (x - 1) * (x - 1) < v) → x ≡ root v
root_found v x h f = le_antisymm low (root_least v x h)
  where
    low : x ≤ root v
    low = elim (dec_le 1 x) [ yes p ↦ (let l = less (x - 1) (root v) (omega (arith, f p, root_reaches v)) in omega arith) | no p ↦ omega arith ]

-- no axis is longer than 2^30
pub short : (p q : ℕ) → p ≤ 536870912 → q ≤ 536870912 → p * p + q * q ≤ 1152921504606846976
short p q h k = omega (arith, mul-le-mul h h, mul-le-mul k k)

pub small : (v : ℕ) → v ≤ 1152921504606846976 → root v ≤ 1073741824
small v h = root_least v 1073741824 h
