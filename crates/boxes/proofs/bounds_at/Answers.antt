use Rattle.std.proofs.Common.{◌≡◌, ap₂, ◌∙◌, to_z, of_z, to_z-of_z, ◌≤◌, ℤ, nat_abs}
use Rattle.std.specs.Int.{w32, w64}
use Rattle.integers.specs.Signed.{read64, fits32, fits64}
use Rattle.model.specs.Explore.{squares}
use Rattle.nodes.specs.Places.{span_in}
use Rattle.boxes.specs.Ranges.{RangeOf}
use Rattle.boxes.proofs.bounds_at.Goals as goal

-- a range's number, as it is widened
wide : (z a : ℤ) → nat_abs z ≤ 1223959552 → a ≡ to_z w32 (of_z w32 z) → to_z w64 (of_z w64 a) ≡ z
wide z a h e = rw (e, to_z-of_z (fits32 h tt)) (to_z-of_z (fits64 h tt))

module _ (c : goal.After-sum_of_squares-2) where
  in_x : RangeOf c.args.x (span_in c.args.part.now 0) c.range_of-h.result
  in_x = rw (to_z-of_z c.ranges.x, c.limits_at.ensures.span) at c.range_of-h.ensures.range

  in_y : RangeOf c.args.y (span_in c.args.part.now 1) c.range_of-v.result
  in_y = rw (to_z-of_z c.ranges.y, c.limits_at-2.ensures.span) at c.range_of-v.ensures.range

pub returns-clause-low : goal.returns-clause-low
returns-clause-low c =
    let x = wide c.range_of-h.result.near c.from.result (in_x c).near_size c.from.ensures ∙ (in_x c).near_is in
    let y = wide c.range_of-v.result.near c.from-2.result (in_y c).near_size c.from-2.ensures ∙ (in_y c).near_is in
    read64 c.sum_of_squares.result c.sum_of_squares.type_inv ∙ c.sum_of_squares.ensures.sum ∙ ap₂ squares x y

pub returns-clause-high : goal.returns-clause-high
returns-clause-high c =
    let x = wide c.range_of-h.result.far c.from-3.result (in_x c).far_size c.from-3.ensures ∙ (in_x c).far_is in
    let y = wide c.range_of-v.result.far c.from-4.result (in_y c).far_size c.from-4.ensures ∙ (in_y c).far_is in
    read64 c.sum_of_squares-2.result c.sum_of_squares-2.type_inv ∙ c.sum_of_squares-2.ensures.sum ∙ ap₂ squares x y
