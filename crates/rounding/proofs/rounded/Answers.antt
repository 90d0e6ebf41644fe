use Rattle.std.proofs.Common.{◌≡◌, nat_abs, arith, to_z-of_z}
use Rattle.integers.specs.Rounding.{nearest}
use Rattle.rounding.proofs.Nearest.{whole_is}
use Rattle.rounding.proofs.rounded.Goals as goal

pub returns-clause-whole : goal.returns-clause-whole
returns-clause-whole c =
    let h = c.requires.sizes in
    let q : c.nearest_to-nearest.result ≡ nearest c.args.x (nat_abs c.args.n) = rw (to_z-of_z c.ranges.x, to_z-of_z c.ranges.n) at c.nearest_to-nearest.ensures in
    let e = whole_is c.args.x c.args.n c.nearest_to-nearest.result h.3 h.2 h.0 h.1 q in
    grind (arith, to_z-of_z, e)
