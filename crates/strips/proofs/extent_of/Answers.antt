use Rattle.std.proofs.Common.{FitsSigned, to_z-of_z, pos, rules}
use Rattle.std.specs.Int.{w64}
use Rattle.integers.specs.Signed.{Made, held, plus, back, called}
use Rattle.ranges.specs.PowerForm.{second_most, third_most, pad_most}
use Rattle.nodes.specs.Places.{side_eq}
use Rattle.strips.proofs.Roundings.{size_of}
use Rattle.strips.proofs.extent_of.Goals as goal

pub returns : goal.returns
returns c =
    let q = c.args.q in
    let h = c.requires.sizes in
    let second : Made q.second.nearest q.second.nearest second_most = held q.second.nearest h.0 tt in
    let third : Made q.third.nearest q.third.nearest third_most = held q.third.nearest h.1 tt in
    let pad : Made c.from.result (pos c.args.pad) pad_most = called c.from.ensures h.2 tt in
    let centre : FitsSigned w64 q.centre.nearest = search rules in
    let axis : FitsSigned w64 q.axis.nearest = search rules in
    record { strip = side_eq (to_z-of_z centre) (to_z-of_z axis) (back (plus (plus (size_of second c.abs.ensures.value tt) (size_of third c.abs-2.ensures.value tt) tt) pad tt)) }
