-- The sizes within which the tests of a node stay in 64 bits. Assumes nothing.
use Rattle.std.specs.Prelude.{◌*◌, ◌≤◌, ◌<◌, T, ℤ, nat_abs}
use Rattle.std.specs.Int.Signed.{non_neg}

-- a reach in fine units: above 0
pub record ReachSized (r : ℤ) : Type 0 where
  pub r_size : nat_abs r ≤ 16777216
  pub r_above : 0 < nat_abs r
  pub r_nonneg : T (non_neg r)

-- |w| and |axis| + box + half side, in both coordinates
pub record SpanSized (ax ay ex ey r : ℤ) : Type 0 where
  pub ax_size : nat_abs ax ≤ 1073741824
  pub ay_size : nat_abs ay ≤ 1073741824
  pub ex_size : nat_abs ex ≤ 805306368
  pub ey_size : nat_abs ey ≤ 805306368
  pub span_reach : nat_abs r ≤ 16777216

-- the cross test, with low at most the root of pp
pub record CrossSized (cross r low pp : ℤ) : Type 0 where
  pub cross_size : nat_abs cross ≤ 2305843009213693952
  pub cross_reach : ReachSized r
  pub low_size : nat_abs low ≤ 1073741824
  pub low_nonneg : T (non_neg low)
  pub pp_nonneg : T (non_neg pp)
  pub pp_size : nat_abs pp ≤ 1152921504606846976
  pub low_under : nat_abs low * nat_abs low ≤ nat_abs pp

pub record NodeSized (wx wy p q a b r : ℤ) : Type 0 where
  pub wx_size : nat_abs wx ≤ 1073741824
  pub wy_size : nat_abs wy ≤ 1073741824
  pub p_size : nat_abs p ≤ 536870912
  pub q_size : nat_abs q ≤ 536870912
  pub a_size : nat_abs a ≤ 268435456
  pub b_size : nat_abs b ≤ 268435456
  pub node_reach : ReachSized r
