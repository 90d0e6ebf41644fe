-- How large the power form's coefficients are, and the numbers of the strips that are made of them. Each bound is made here from those before
-- it. Assumes nothing.
use Rattle.std.specs.Prelude.{ℕ, ◌+◌, ◌*◌, ◌/◌, ◌≤◌, ◌<◌, T, ℤ, pos, nat_abs, ◌+ℤ◌, ◌-ℤ◌, ◌*ℤ◌}
use Rattle.std.proofs.Common.{le_refl, le_trans, mul-le-mul, arith}
use Rattle.std.specs.Int.Signed.{non_neg}
use Rattle.integers.specs.Absolute.{absℤ}
use Rattle.integers.specs.Whole.{rest_most}
use Rattle.model.specs.Strips.{PowerForm, power_of, denominator, a0, a1, a2, quotient, Numerators, numerators, remainders, pad_of, side_over, curved, centre_top, axis_top, straight}
use Rattle.model.specs.Trees.{deepest}
use Rattle.ranges.specs.Bounds.{add_in, sub_in, mul_in, nearest_in}
use Rattle.ranges.specs.Sizes.{control_most, CubicSized, LineSized, SideSized}

-- ---- the coefficients, from control numbers that are coordinates
abbrev pub c0_most : ℕ
c0_most = control_most

abbrev pub c1_most : ℕ
c1_most = 3 * (control_most + control_most)

abbrev pub c2_most : ℕ
c2_most = 3 * (control_most + 2 * control_most + control_most)

abbrev pub c3_most : ℕ
c3_most = control_most + 3 * control_most + 3 * control_most + control_most

pub record FormSized (c : PowerForm) : Type 0 where
  pub c0_size : nat_abs c.c0 ≤ c0_most
  pub c1_size : nat_abs c.c1 ≤ c1_most
  pub c2_size : nat_abs c.c2 ≤ c2_most
  pub c3_size : nat_abs c.c3 ≤ c3_most

pub form_sized : (b0 b1 b2 b3 : ℤ) → CubicSized b0 b1 b2 b3 → FormSized (power_of b0 b1 b2 b3)
form_sized b0 b1 b2 b3 h = record {
  c0_size = h.b0_size;
  c1_size = mul_in (pos 3) (b1 -ℤ b0) 3 (control_most + control_most) (le_refl 3) (sub_in b1 b0 control_most control_most h.b1_size h.b0_size);
  c2_size = mul_in (pos 3) (b0 -ℤ pos 2 *ℤ b1 +ℤ b2) 3 (control_most + 2 * control_most + control_most) (le_refl 3)
      (add_in (b0 -ℤ pos 2 *ℤ b1) b2 (control_most + 2 * control_most) control_most
      (sub_in b0 (pos 2 *ℤ b1) control_most (2 * control_most) h.b0_size (mul_in (pos 2) b1 2 control_most (le_refl 2) h.b1_size))
      h.b2_size);
  c3_size = sub_in (b3 -ℤ pos 3 *ℤ b2 +ℤ pos 3 *ℤ b1) b0 (control_most + 3 * control_most + 3 * control_most) control_most
      (add_in (b3 -ℤ pos 3 *ℤ b2) (pos 3 *ℤ b1) (control_most + 3 * control_most) (3 * control_most)
      (sub_in b3 (pos 3 *ℤ b2) control_most (3 * control_most) h.b3_size (mul_in (pos 3) b2 3 control_most (le_refl 3) h.b2_size))
      (mul_in (pos 3) b1 3 control_most (le_refl 3) h.b1_size))
      h.b0_size;
}

-- a line's form, from a to b, is as small
abbrev pub line_form : ℤ → ℤ → PowerForm
line_form a b = record { c0 = a; c1 = b -ℤ a; c2 = pos 0; c3 = pos 0 }

pub line_sized : (a b : ℤ) → LineSized a b → FormSized (line_form a b)
line_sized a b h = record { c0_size = h.a_size; c1_size = le_trans (sub_in b a control_most control_most h.b_size h.a_size) (omega arith); c2_size = omega arith; c3_size = omega arith }

-- ---- a0, a1 and a2, of which each term is at most its coefficient times N³, N² and N: m is at most N
abbrev pub a0_share : ℕ
a0_share = c0_most + c1_most + c2_most + c3_most

abbrev pub a1_share : ℕ
a1_share = c1_most + 2 * c2_most + 3 * c3_most

abbrev pub a2_share : ℕ
a2_share = c2_most + 3 * c3_most

-- the largest N, and so the largest of each
abbrev pub n_most : ℕ
n_most = denominator deepest

abbrev pub cube_most : ℕ
cube_most = n_most * n_most * n_most

abbrev pub a0_most : ℕ
a0_most = a0_share * cube_most

abbrev pub a1_most : ℕ
a1_most = a1_share * (n_most * n_most)

abbrev pub a2_most : ℕ
a2_most = a2_share * n_most

-- ---- the quotients by N³. N is at least 2, so a half of a1's share, a quarter of a2's and an eighth of a3's are left; rounding adds 1
abbrev pub centre_most : ℕ
centre_most = 16 * a0_share + 8 * a2_share / 4 + 1

abbrev pub axis_most : ℕ
axis_most = 16 * a1_share / 2 + 12 * c3_most / 8 + 1

abbrev pub second_most : ℕ
second_most = 8 * a2_share / 4 + 1

abbrev pub third_most : ℕ
third_most = 4 * c3_most / 8 + 1

-- four quotients at the most are not whole
abbrev pub pad_most : ℕ
pad_most = pad_of 4

pub pad_most_is : (a : Numerators) (k : ℕ) → pad_of (remainders a k) ≤ pad_most
pad_most_is a k = omega (arith, rest_most a.centre k, rest_most a.axis k, rest_most a.second k, rest_most a.third k)

-- n is at least 2, so a product with fewer factors n is at most a half, a quarter, an eighth of n³
cubes : (n : ℕ) → 2 ≤ n → (2 * (n * n) ≤ n * n * n) × (4 * n ≤ n * n * n) × (8 ≤ n * n * n)
cubes n h =
    let a : 2 * n ≤ n * n = mul-le-mul h (le_refl n) in
    let b : n * n * 2 ≤ n * n * n = mul-le-mul (le_refl (n * n)) h in
    (omega arith, omega arith, omega arith)

pub cube_above : (n : ℕ) → 2 ≤ n → 0 < n * n * n
cube_above n h = omega (arith, (cubes n h).2)

sum_above : (a b p : ℕ) → T (non_neg (pos a +ℤ pos b +ℤ pos p))
sum_above a b p = tt

module _ (c : PowerForm) (n m : ℕ) (s : FormSized c) (h : 2 ≤ n) (k : m ≤ n) where
  abbrev tops : Numerators
  tops = numerators c (pos n) (pos m)

  a0_in : nat_abs (a0 c (pos n) (pos m)) ≤ a0_share * (n * n * n)
  a0_in = le_trans
      (add_in (c.c0 *ℤ (pos n *ℤ pos n *ℤ pos n) +ℤ c.c1 *ℤ (pos n *ℤ pos n) *ℤ pos m +ℤ c.c2 *ℤ pos n *ℤ (pos m *ℤ pos m)) (c.c3 *ℤ (pos m *ℤ pos m *ℤ pos m)) (c0_most * (n * n * n) + c1_most * (n * n) * n + c2_most * n * (n * n)) (c3_most * (n * n * n))
      (add_in (c.c0 *ℤ (pos n *ℤ pos n *ℤ pos n) +ℤ c.c1 *ℤ (pos n *ℤ pos n) *ℤ pos m) (c.c2 *ℤ pos n *ℤ (pos m *ℤ pos m)) (c0_most * (n * n * n) + c1_most * (n * n) * n) (c2_most * n * (n * n))
      (add_in (c.c0 *ℤ (pos n *ℤ pos n *ℤ pos n)) (c.c1 *ℤ (pos n *ℤ pos n) *ℤ pos m) (c0_most * (n * n * n)) (c1_most * (n * n) * n)
      (mul_in c.c0 (pos n *ℤ pos n *ℤ pos n) c0_most (n * n * n) s.c0_size (le_refl (n * n * n)))
      (mul_in (c.c1 *ℤ (pos n *ℤ pos n)) (pos m) (c1_most * (n * n)) n (mul_in c.c1 (pos n *ℤ pos n) c1_most (n * n) s.c1_size (le_refl (n * n))) k))
      (mul_in (c.c2 *ℤ pos n) (pos m *ℤ pos m) (c2_most * n) (n * n) (mul_in c.c2 (pos n) c2_most n s.c2_size (le_refl n)) (mul-le-mul k k)))
      (mul_in c.c3 (pos m *ℤ pos m *ℤ pos m) c3_most (n * n * n) s.c3_size (mul-le-mul (mul-le-mul k k) k)))
      (omega arith)

  a1_in : nat_abs (a1 c (pos n) (pos m)) ≤ a1_share * (n * n)
  a1_in = le_trans
      (add_in (c.c1 *ℤ (pos n *ℤ pos n) +ℤ pos 2 *ℤ c.c2 *ℤ pos n *ℤ pos m) (pos 3 *ℤ c.c3 *ℤ (pos m *ℤ pos m)) (c1_most * (n * n) + 2 * c2_most * n * n) (3 * c3_most * (n * n))
      (add_in (c.c1 *ℤ (pos n *ℤ pos n)) (pos 2 *ℤ c.c2 *ℤ pos n *ℤ pos m) (c1_most * (n * n)) (2 * c2_most * n * n)
      (mul_in c.c1 (pos n *ℤ pos n) c1_most (n * n) s.c1_size (le_refl (n * n)))
      (mul_in (pos 2 *ℤ c.c2 *ℤ pos n) (pos m) (2 * c2_most * n) n (mul_in (pos 2 *ℤ c.c2) (pos n) (2 * c2_most) n (mul_in (pos 2) c.c2 2 c2_most (le_refl 2) s.c2_size) (le_refl n)) k))
      (mul_in (pos 3 *ℤ c.c3) (pos m *ℤ pos m) (3 * c3_most) (n * n) (mul_in (pos 3) c.c3 3 c3_most (le_refl 3) s.c3_size) (mul-le-mul k k)))
      (omega arith)

  a2_in : nat_abs (a2 c (pos n) (pos m)) ≤ a2_share * n
  a2_in = le_trans
      (add_in (c.c2 *ℤ pos n) (pos 3 *ℤ c.c3 *ℤ pos m) (c2_most * n) (3 * c3_most * n)
      (mul_in c.c2 (pos n) c2_most n s.c2_size (le_refl n))
      (mul_in (pos 3 *ℤ c.c3) (pos m) (3 * c3_most) n (mul_in (pos 3) c.c3 3 c3_most (le_refl 3) s.c3_size) k))
      (omega arith)

  centre_in : nat_abs (quotient tops.centre (n * n * n)) ≤ centre_most
  centre_in = nearest_in (pos 16 *ℤ a0 c (pos n) (pos m) +ℤ pos 8 *ℤ a2 c (pos n) (pos m)) (n * n * n) (16 * a0_share + 8 * a2_share / 4) (cube_above n h)
      (le_trans
      (add_in (pos 16 *ℤ a0 c (pos n) (pos m)) (pos 8 *ℤ a2 c (pos n) (pos m)) (16 * (a0_share * (n * n * n))) (8 * (a2_share * n))
      (mul_in (pos 16) (a0 c (pos n) (pos m)) 16 (a0_share * (n * n * n)) (le_refl 16) a0_in)
      (mul_in (pos 8) (a2 c (pos n) (pos m)) 8 (a2_share * n) (le_refl 8) a2_in))
      (omega (arith, (cubes n h).1)))

  axis_in : nat_abs (quotient tops.axis (n * n * n)) ≤ axis_most
  axis_in = nearest_in (pos 16 *ℤ a1 c (pos n) (pos m) +ℤ pos 12 *ℤ c.c3) (n * n * n) (16 * a1_share / 2 + 12 * c3_most / 8) (cube_above n h)
      (le_trans
      (add_in (pos 16 *ℤ a1 c (pos n) (pos m)) (pos 12 *ℤ c.c3) (16 * (a1_share * (n * n))) (12 * c3_most)
      (mul_in (pos 16) (a1 c (pos n) (pos m)) 16 (a1_share * (n * n)) (le_refl 16) a1_in)
      (mul_in (pos 12) c.c3 12 c3_most (le_refl 12) s.c3_size))
      (omega (arith, (cubes n h).0, (cubes n h).2)))

  pub second_in : nat_abs (quotient tops.second (n * n * n)) ≤ second_most
  second_in = nearest_in (pos 8 *ℤ a2 c (pos n) (pos m)) (n * n * n) (8 * a2_share / 4) (cube_above n h)
      (le_trans (mul_in (pos 8) (a2 c (pos n) (pos m)) 8 (a2_share * n) (le_refl 8) a2_in) (omega (arith, (cubes n h).1)))

  pub third_in : nat_abs (quotient tops.third (n * n * n)) ≤ third_most
  third_in = nearest_in (pos 4 *ℤ c.c3) (n * n * n) (4 * c3_most / 8) (cube_above n h)
      (le_trans (mul_in (pos 4) c.c3 4 c3_most (le_refl 4) s.c3_size) (omega (arith, (cubes n h).2)))

  box_in : nat_abs (side_over tops (n * n * n)).box ≤ second_most + third_most + pad_most
  unfolding absℤ
  box_in = omega (arith, second_in, third_in, pad_most_is tops (n * n * n))

  box_above : T (non_neg (side_over tops (n * n * n)).box)
  unfolding absℤ
  box_above = sum_above (nat_abs (quotient tops.second (n * n * n))) (nat_abs (quotient tops.third (n * n * n))) (pad_of (remainders tops (n * n * n)))

  -- every strip's numbers are within the sizes that code counts on
  pub curved_sized : SideSized (curved c n m)
  unfolding curved
  curved_sized = record {
    centre_size = omega (arith, centre_in);
    axis_size = omega (arith, axis_in);
    box_size = omega (arith, box_in);
    box_above = box_above;
  }

  -- ---- of a line, from c0 by c1
  centre_top_in : nat_abs (centre_top c.c0 c.c1 (pos n) (pos m)) ≤ 16 * (c0_most + c1_most) * n
  centre_top_in = le_trans
      (mul_in (pos 16) (c.c0 *ℤ pos n +ℤ c.c1 *ℤ pos m) 16 (c0_most * n + c1_most * n) (le_refl 16)
      (add_in (c.c0 *ℤ pos n) (c.c1 *ℤ pos m) (c0_most * n) (c1_most * n) (mul_in c.c0 (pos n) c0_most n s.c0_size (le_refl n)) (mul_in c.c1 (pos m) c1_most n s.c1_size k)))
      (omega arith)

  axis_top_in : nat_abs (axis_top c.c1) ≤ 16 * c1_most * n
  axis_top_in = le_trans (mul_in (pos 16) c.c1 16 c1_most (le_refl 16) s.c1_size) (omega arith)

  pub straight_sized : SideSized (straight c.c0 c.c1 n m)
  unfolding straight
  straight_sized = record {
    centre_size = omega (arith, nearest_in (centre_top c.c0 c.c1 (pos n) (pos m)) n (16 * (c0_most + c1_most)) (omega arith) centre_top_in);
    axis_size = omega (arith, nearest_in (axis_top c.c1) n (16 * c1_most) (omega arith) axis_top_in);
    box_size = omega (arith, rest_most (centre_top c.c0 c.c1 (pos n) (pos m)) n, rest_most (axis_top c.c1) n);
    box_above = tt;
  }
