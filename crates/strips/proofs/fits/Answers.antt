use Rattle.integers.specs.Signed.{Made, arg, held, lit, plus, times, back}
use Rattle.strips.proofs.Roundings.{size_of}
use Rattle.strips.proofs.fits.Goals as goal

pub returns : goal.returns
returns c =
    let s = c.args.s in
    let h = c.requires.sizes in
    let axis : Made s.axis s.axis 536870912 = held s.axis h.0.axis_size tt in
    let half : Made s.half s.half 134217728 = held s.half h.0.box_size tt in
    let reach = plus (size_of axis c.abs.ensures.value tt) half tt in
    let limit = times (lit 16 tt) (arg h.1 c.ranges.grain) tt in
    record { fits = rw (back reach, back limit) }
