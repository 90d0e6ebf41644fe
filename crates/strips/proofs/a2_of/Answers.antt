use Rattle.integers.specs.Signed.{lit, plus, times, back}
use Rattle.strips.proofs.Forms.{given}
use Rattle.strips.proofs.a2_of.Goals as goal

-- nothing wraps, by the sizes of the coefficients and of N
pub overflow_add-result : goal.overflow_add-result
overflow_add-result c = let g = given c.args.c c.args.n c.args.m c.requires.sizes c.ranges.n c.ranges.m in (plus (times g.c2 g.n tt) (times (times (lit 3 tt) g.c3 tt) g.m tt) tt).fits

pub returns : goal.returns
returns c =
    let g = given c.args.c c.args.n c.args.m c.requires.sizes c.ranges.n c.ranges.m in
    let r = (plus (times g.c2 g.n tt) (times (times (lit 3 tt) g.c3 tt) g.m tt) tt) in
    record { a2 = (back r, rw (back r) r.within) }
