use Rattle.std.proofs.Common.{arith}
use Rattle.integers.specs.Signed.{arg, minus, back}
use Rattle.columns.specs.Frames.{place_made}
use Rattle.columns.proofs.gap.Goals as goal

pub returns-clause-size : goal.returns-clause-size
returns-clause-size c =
    let m = minus (place_made c.args.frame c.requires.sizes.2 c.args.i c.requires.sizes.0) (arg c.requires.sizes.1 c.ranges.z) tt in
    rw (back m) (omega (arith, m.within))
