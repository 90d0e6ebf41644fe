-- The sizes within which no step leaves 64 bits. Assumes nothing.
use Rattle.std.specs.Prelude.{◌≡◌, false, ◌*◌, ◌≤◌, ◌<◌, ◌^◌, T, ℤ, nat_abs, ◌+ℤ◌}
use Rattle.std.specs.Int.Signed.{non_neg}
use Rattle.integers.specs.Absolute.{absℤ}
use Rattle.model.specs.Jobs.{is_zero}
use Rattle.strip_tests.specs.Limits.{ReachSized}
use Rattle.row_laws.specs.Slanted.{room_of}
use Rattle.columns.specs.declared.Frame.{Frame}
use Rattle.columns.specs.declared.View.{View}

-- A corner is at most 16,000,000 fine units from 0, and a row of the plate begins at most 2^24 above it: together below 2^25.
pub record FrameSized (f : Frame) : Type 0 where
  pub n_size : f.n ≤ 256
  pub x_size : nat_abs f.x ≤ 33554432
  pub y_size : nat_abs f.y ≤ 33554432
  pub q_nonneg : T (non_neg f.q)
  pub q_above : 0 < nat_abs f.q
  pub q_size : nat_abs f.q ≤ 8388608
  pub side_size : f.n * nat_abs f.q ≤ 8388608
  pub k_is : 2 * nat_abs f.q ≡ 2 ^ f.k
  pub reach_sized : ReachSized f.reach

-- a strip's centre is at most 2^29 from 0, and the first cell's middle at most 2^25 + 2^23
pub record ViewSized (v : View) : Type 0 where
  pub x_size : nat_abs v.x ≤ 578813952
  pub y_size : nat_abs v.y ≤ 578813952
  pub p_size : nat_abs v.p ≤ 536870912
  pub q_size : nat_abs v.q ≤ 536870912
  pub a_size : nat_abs v.a ≤ 268435456
  pub b_size : nat_abs v.b ≤ 268435456
  pub a_nonneg : T (non_neg v.a)
  pub b_nonneg : T (non_neg v.b)
  pub ex_is : v.ex ≡ absℤ v.p +ℤ v.a
  pub ey_is : v.ey ≡ absℤ v.q +ℤ v.b

-- the room of a view whose axis lies neither along x nor along y: below 2^60
pub record RoomFor (f : Frame) (v : View) (room : ℤ) : Type 0 where
  pub size : nat_abs room ≤ 1152921504606846976
  pub is : is_zero v.p ≡ false → is_zero v.q ≡ false → room ≡ room_of v.p v.q v.a v.b f.reach
