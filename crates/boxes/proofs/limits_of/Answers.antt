use Rattle.std.proofs.Common.{◌≡◌, ◌∙◌, ℤ, to_z, of_z, to_z-of_z, FitsSigned}
use Rattle.std.specs.Int.{w32, w64}
use Rattle.integers.specs.Absolute.{absℤ, abs_size}
use Rattle.integers.specs.Signed.{Made, plus, minus, held, back, called, fits32}
use Rattle.rounding.specs.Absolutes.{absolute}
use Rattle.nodes.specs.Places.{span_eq}
use Rattle.boxes.proofs.limits_of.Goals as goal

-- a number that was made in 64 bits, and is kept in 32
narrowed : {v z : ℤ} (m : Made v z 1207959552) → to_z w32 (of_z w32 (to_z w64 (of_z w64 v))) ≡ z
narrowed {v} m =
    let f : FitsSigned w32 (to_z w64 (of_z w64 v)) = rw (back m) (fits32 m.within tt) in
    to_z-of_z f ∙ back m

pub returns : goal.returns
returns c =
    let v = c.args.v in
    let h = c.requires.sizes in
    let centre : Made v.centre v.centre 536870912 = held v.centre h.centre_size tt in
    let axis : Made v.axis v.axis 536870912 = held v.axis h.axis_size tt in
    let half : Made v.half v.half 134217728 = held v.half h.box_size tt in
    let long : Made c.abs.result (absℤ v.axis) 536870912 = called (rw (back axis, absolute) at c.abs.ensures.value) (rw abs_size h.axis_size) tt in
    let reach = plus long half tt in
    record { span = span_eq (narrowed (minus centre reach tt)) (narrowed (plus centre reach tt)) }
