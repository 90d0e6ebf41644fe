-- A cubic's numerators, the strip that their quotients make, and what rounding asks and gives, of a cubic's and of a line's. Assumes nothing.
use Rattle.std.proofs.Common.{◌≡◌, ap, ◌∙◌, cond, ℕ, ◌+◌, ◌≤◌, ◌<◌, ◌^◌, T, ltb, ℤ, pos, nat_abs, ◌+ℤ◌}
use Rattle.std.specs.Int.Signed.{non_neg}
use Rattle.integers.specs.Absolute.{absℤ, abs_size}
use Rattle.integers.specs.Rounding.{nearest}
use Rattle.integers.specs.Whole.{rest}
use Rattle.integers.specs.Signed.{Made, bits, back, called}
use Rattle.model.specs.Strips.{Numerators, pad_of, side_over}
use Rattle.ranges.specs.PowerForm.{cube_most}
use Rattle.rounding.specs.Absolutes.{absolute}
use Rattle.rounding.specs.declared.Quotient.{Quotient}
use Rattle.nodes.specs.Places.{side_eq}
use Rattle.strips.specs.declared.Coefficients.{Coefficients}
use Rattle.strips.specs.Structs.{left_all, padded, top_most, Rounded, RoundedAll}

pub tops_eq : {a b c d p q r s : ℤ} → a ≡ p → b ≡ q → c ≡ r → d ≡ s → ◌≡◌ {A = Numerators} (record { centre = a; axis = b; second = c; third = d }) (record { centre = p; axis = q; second = r; third = s })
tops_eq e f g h = cc

-- their own pad makes the model's strip of the quotients
pub padded_is : (q : Coefficients Quotient) (a : Numerators) (k p : ℕ) → RoundedAll q a k → p ≡ pad_of (left_all q) → padded q p ≡ side_over a k
padded_is q a k p h e = side_eq h.centre.nearest_is h.axis.nearest_is (box h.second.nearest_is h.third.nearest_is (e ∙ ap pad_of (counts h.centre.rest_is h.axis.rest_is h.second.rest_is h.third.rest_is)))
  where
    box : {s t u v : ℤ} {m n : ℕ} → s ≡ u → t ≡ v → m ≡ n → absℤ s +ℤ absℤ t +ℤ pos m ≡ absℤ u +ℤ absℤ v +ℤ pos n
    box e f g = cc

    counts : {a b c d p q r s : ℕ} → p ≡ a → q ≡ b → r ≡ c → s ≡ d → a + b + c + d ≡ p + q + r + s
    counts e f g h = cc

-- what `rounded` asks of a numerator and its denominator, N³ or a line's N, and what it gives
module _ {u v x : ℤ} {k : ℕ} (t : Made u x top_most) (cube : Made v (pos k) cube_most) where
  pub asks : 0 < k → (nat_abs (bits u) ≤ top_most) × (nat_abs (bits v) ≤ cube_most) × (0 < nat_abs (bits v)) × T (non_neg (bits v))
  asks h = rw (back t, back cube) (t.within, cube.within, h, tt)

  pub gives : {q : Quotient} → q.nearest ≡ nearest (bits u) (nat_abs (bits v)) → rest (bits u) (nat_abs (bits v)) ≡ cond q.whole 0 1 → Rounded q x k
  gives h i = record { nearest_is = rw (back t, back cube) at h; rest_is = rw (back t, back cube) at i }

-- what std's `abs` gives of a number that is at most B
pub size_of : {r v z : ℤ} {B : ℕ} → Made v z B → r ≡ pos (nat_abs (bits v)) → T (ltb B (2 ^ 63)) → Made r (absℤ z) B
size_of m e t = called (rw (back m, absolute) at e) (rw abs_size m.within) t

-- a call's result that is z and at most B
pub got : {r z : ℤ} {B : ℕ} → r ≡ z → nat_abs r ≤ B → T (ltb B (2 ^ 63)) → Made r z B
got {r} e h t = called e (rw (← e) h) t
