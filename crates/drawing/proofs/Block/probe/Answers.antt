-- The numbers of the block's probe, read back from their bits.
use native.Mathlib.Omega.{arith}
use Prim.Native.Nat.{ℕ, ◌+◌, ◌*◌, ◌≤◌}
use lib.IntN.{ℤ, pos, ◌+ℤ◌, ◌*ℤ◌}
use mir.Syntax.{w64}
use mir.Val.{to_z}
use Rattle.integers.specs.Signed.{Made, bits, held, plus, back}
use Rattle.inheritance.specs.Blocks.{middle}
use Rattle.columns.specs.declared.Frame.{Frame}
use Rattle.columns.specs.Limits.{FrameSized}
use Rattle.drawing.proofs.Cells.{scaled, doubled, single, block_sized, reach_back}
use Rattle.drawing.proofs.Block.probe.Goals as goal

module _ (f : Frame) (z : FrameSized f) (c w : ℕ) (h : c + w ≤ f.n) where
  -- the middle of w columns from column c on, from x
  middle_made : (x : ℤ) → Made x x 33554432 → Made (bits x +ℤ bits (to_z w64 (2 * c + w) *ℤ bits f.q)) (middle x f.q c w) 50331648
  middle_made x m = plus m (scaled (2 * c + w) f.q 16777216 (omega (arith, z.n_size, h)) (held f.q z.q_size tt).fits (doubled f.n c w _ z.side_size h) tt) tt

  half_made : Made (to_z w64 w *ℤ bits f.q) (pos w *ℤ f.q) 8388608
  half_made = scaled w f.q 8388608 (omega (arith, z.n_size, h)) (held f.q z.q_size tt).fits (single f.n c w _ z.side_size h) tt

pub overflow_add-y-2 : goal.overflow_add-y-2
overflow_add-y-2 c =
    let f = c.args.frame in
    let z = c.requires.within.0 in
    (middle_made f z c.args.self.r c.args.self.w c.requires.within.2 f.y (held f.y z.y_size tt)).fits

pub probe_of-requires : goal.probe_of-requires
probe_of-requires c =
    let f = c.args.frame in
    let z = c.requires.within.0 in
    let b = c.args.self in
    record {
      sizes = rw (back (middle_made f z b.c b.w c.requires.within.1 f.x (held f.x z.x_size tt)), back (middle_made f z b.r b.w c.requires.within.2 f.y (held f.y z.y_size tt)), back (half_made f z b.c b.w c.requires.within.1), reach_back f z)
          (block_sized f z b.c b.r b.w c.requires.within.1 c.requires.within.2);
    }

pub returns-clause-block : goal.returns-clause-block
returns-clause-block c =
    let f = c.args.frame in
    let z = c.requires.within.0 in
    let b = c.args.self in
    rw (back (middle_made f z b.c b.w c.requires.within.1 f.x (held f.x z.x_size tt)), back (middle_made f z b.r b.w c.requires.within.2 f.y (held f.y z.y_size tt)), back (half_made f z b.c b.w c.requires.within.1), reach_back f z) at c.probe_of.ensures.cell
