use Rattle.std.proofs.Common.{arith}
use Rattle.integers.specs.Signed.{arg, back}
use Rattle.columns.proofs.Numbers.{side_sized}
use Rattle.columns.proofs.reached.Goals as goal

pub around-requires : goal.around-requires
around-requires c =
    rw (back (arg c.requires.sizes.0 c.ranges.z), back (arg c.requires.sizes.1 c.ranges.e))
    (record { sizes = (omega (arith, c.requires.sizes.0), omega (arith, c.requires.sizes.1), side_sized c.args.frame c.requires.sizes.2) })
