-- A number is at least r times a root where the square is at most that of a quotient. Assumes nothing.
use mathlib.Core.Path.{◌≡◌, refl, sym, subst}
use mathlib.Core.Bool.{Bool, true, false, cond}
use Prim.Native.Nat.{ℕ, suc, ◌+◌, ◌*◌, ◌/◌, ◌≤◌, ◌<◌}
use native.Mathlib.Nat.{le_trans, mul-le-mul, le_refl, div-add-mod', mod-lt}
use native.Mathlib.Decide.{dec_le}
use native.Mathlib.Omega.{arith}
use borrow.Author.Tests.{ltb-true, ltb-false}
use lib.Dec.{ltb, leb, leb→le, le→leb}
use lib.IntN.{ℤ, pos, negsuc, nat_abs, ◌*ℤ◌}
use lib.Signed.{lt_z, le_z, quot_z}
use Rattle.integers.specs.Tests.{alike}
use Rattle.std.specs.Int.{int_min}
use Rattle.verdicts.specs.AnswerCases.{clash}
use Rattle.model.specs.Roots.{root}
use Rattle.verdicts.specs.Roots.{root_reaches, root_least}

-- with j = n / d: d L ≤ n just where L ≤ j
quotient_up : (n d l : ℕ) → 0 < d → d * l ≤ n → l ≤ n / d
quotient_up n d l h k = go (n / d) (omega (arith, div-add-mod' n d, mod-lt n h))
  where
    go : (j : ℕ) → d * l < d * j + d → l ≤ j
    go j m = elim (dec_le l j) [ yes p ↦ p | no p ↦ absurd (let q : d * suc j ≤ d * l = mul-le-mul (le_refl d) (omega arith) in omega arith) ]

quotient_down : (n d l : ℕ) → l ≤ n / d → d * l ≤ n
quotient_down n d l k = let m : d * l ≤ d * (n / d) = mul-le-mul (le_refl d) k in omega (arith, div-add-mod' n d)

abbrev pub capped : ℕ → ℕ
capped j = cond (ltb 1073741824 j) 1073741824 j

capped_up : (l j : ℕ) → l ≤ 1073741824 → l ≤ j → l ≤ capped j
capped_up l j h k = go (ltb 1073741824 j)
  where
    go : (t : Bool) → l ≤ cond t 1073741824 j
    go true = h
    go false = k

capped_down : (j : ℕ) → capped j ≤ j
capped_down j = go (ltb 1073741824 j) refl
  where
    go : (t : Bool) → ltb 1073741824 j ≡ t → cond t 1073741824 j ≤ j
    go true e = omega (arith, ltb-true 1073741824 j e)
    go false e = le_refl j

pub beyond_law : (n d m : ℕ) → 0 < d → m ≤ 1152921504606846976 → leb m (capped (n / d) * capped (n / d)) ≡ leb (d * root m) n
beyond_law n d m hd hm = alike (leb m (k * k)) (leb (d * root m) n)
    (λ t. le→leb (d * root m) n (quotient_down n d (root m) (le_trans (root_least m k (leb→le m (k * k) t)) (capped_down j))))
    (λ t. le→leb m (k * k) (le_trans (root_reaches m) (square (capped_up (root m) j (root_least m 1073741824 hm) (quotient_up n d (root m) hd (leb→le (d * root m) n t))))))
  where
    j : ℕ
    j = n / d

    k : ℕ
    k = capped j

    square : {a b : ℕ} → a ≤ b → a * a ≤ b * b
    square h = mul-le-mul h h

-- a whole number up to the root fails the test at once
pub short_law : (n d m low : ℕ) → low * low ≤ m → n < d * low → leb (d * root m) n ≡ false
short_law n d m low h k = alike (leb (d * root m) n) false (λ t. omega (arith, leb→le (d * root m) n t, l)) absurd
  where
    root_of : (a b : ℕ) → a * a ≤ b * b → a ≤ b
    root_of a b h = elim (dec_le a b) [ yes p ↦ p | no p ↦ absurd (let q : suc b * suc b ≤ a * a = mul-le-mul (omega arith) (omega arith) in omega arith) ]

    l : d * low ≤ d * root m
    l = mul-le-mul (le_refl d) (root_of low (root m) (le_trans h (root_reaches m)))

-- ---- over ℤ, as the code has them
abbrev pub cap : ℤ → ℤ
cap z = int_min z (pos 1073741824)

cap_pos : (j : ℕ) → cap (pos j) ≡ pos (capped j)
cap_pos j = go (ltb 1073741824 j)
  where
    go : (t : Bool) → cond t (pos 1073741824) (pos j) ≡ pos (cond t 1073741824 j)
    go true = refl
    go false = refl

capped_size : (j : ℕ) → capped j ≤ 1073741824
capped_size j = go (ltb 1073741824 j) refl
  where
    go : (t : Bool) → ltb 1073741824 j ≡ t → cond t 1073741824 j ≤ 1073741824
    go true e = omega arith
    go false e = ltb-false 1073741824 j e

-- what the quotient's square tells of x, once low has let it pass
pub record Asked (x : ℤ) (d m : ℕ) : Type 0 where
  pub size : nat_abs (cap (quot_z x (pos d))) ≤ 1073741824
  pub answer : le_z (pos m) (cap (quot_z x (pos d)) *ℤ cap (quot_z x (pos d))) ≡ le_z (pos d *ℤ pos (root m)) x

pub asked : (x : ℤ) (d m low : ℕ) → 0 < d → m ≤ 1152921504606846976 → lt_z x (pos d *ℤ pos low) ≡ false → Asked x d m
asked (pos n) d m low h k e = record {
  size = subst (λ z. nat_abs z ≤ 1073741824) (sym (cap_pos (n / d))) (capped_size (n / d));
  answer = subst (λ z. le_z (pos m) (z *ℤ z) ≡ le_z (pos d *ℤ pos (root m)) (pos n)) (sym (cap_pos (n / d))) (beyond_law n d m h k);
}
asked (negsuc n) d m low h k e = clash (cc)

pub refused : (x : ℤ) (d m low : ℕ) → low * low ≤ m → lt_z x (pos d *ℤ pos low) ≡ true → le_z (pos d *ℤ pos (root m)) x ≡ false
refused (pos n) d m low h e = short_law n d m low h (ltb-true n (d * low) e)
refused (negsuc n) d m low h e = refl
