-- Power forms that are equal coefficient by coefficient, and the numbers that a0, a1 and a2 are made of, with their bounds. Assumes nothing.
use Rattle.std.proofs.Common.{◌≡◌, ap, ap₂, ℕ, ◌≤◌, ℤ, nat_abs, ◌-ℤ◌, FitsSigned}
use Rattle.std.specs.Int.{w64}
use Rattle.integers.specs.Signed.{Made, arg, held}
use Rattle.model.specs.Jobs.{cubic, line}
use Rattle.model.specs.Strips.{Side, PowerForm, power_of, curved, straight, side_at}
use Rattle.ranges.specs.PowerForm.{c0_most, c1_most, c2_most, c3_most, n_most, FormSized}
use Rattle.strips.specs.declared.Power.{Power}
use Rattle.strips.specs.Structs.{form}

pub form_eq : {a b c d p q r s : ℤ} → a ≡ p → b ≡ q → c ≡ r → d ≡ s → ◌≡◌ {A = PowerForm} (record { c0 = a; c1 = b; c2 = c; c3 = d }) (record { c0 = p; c1 = q; c2 = r; c3 = s })
form_eq e f g h = cc

-- ---- the strips of a form and of a line, from their coefficients
pub as_curved : (f : PowerForm) (b0 b1 b2 b3 : ℤ) → f ≡ power_of b0 b1 b2 b3 → curved f ≡ side_at (cubic b0 b1 b2 b3)
unfolding side_at
as_curved f b0 b1 b2 b3 e = ap {B = ℕ → ℕ → Side} (λ (f : PowerForm). λ (n m : ℕ). curved f n m) e

pub as_straight : (a g b0 b1 : ℤ) → a ≡ b0 → g ≡ b1 -ℤ b0 → straight a g ≡ side_at (line b0 b1)
unfolding side_at
as_straight a g b0 b1 e f = ap₂ {C = ℕ → ℕ → Side} (λ (a g : ℤ). λ (n m : ℕ). straight a g n m) e f

pub record Given (f : PowerForm) (N M : ℤ) : Type 0 where
  pub c0 : Made f.c0 f.c0 c0_most
  pub c1 : Made f.c1 f.c1 c1_most
  pub c2 : Made f.c2 f.c2 c2_most
  pub c3 : Made f.c3 f.c3 c3_most
  pub n : Made N N n_most
  pub m : Made M M n_most

pub given : (c : Power) (N M : ℤ) → FormSized (form c) × (nat_abs N ≤ n_most) × (nat_abs M ≤ n_most) → FitsSigned w64 N → FitsSigned w64 M → Given (form c) N M
given c N M h fn fm = record {
  c0 = held c.c0 h.0.c0_size tt;
  c1 = held c.c1 h.0.c1_size tt;
  c2 = held c.c2 h.0.c2_size tt;
  c3 = held c.c3 h.0.c3_size tt;
  n = arg h.1 fn;
  m = arg h.2 fm;
}
