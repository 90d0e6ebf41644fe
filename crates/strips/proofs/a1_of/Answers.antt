use Rattle.integers.specs.Signed.{lit, plus, times, back}
use Rattle.strips.proofs.Forms.{given}
use Rattle.strips.proofs.a1_of.Goals as goal

-- nothing wraps, by the sizes of the coefficients and of N
pub overflow_mul-result-2 : goal.overflow_mul-result-2
overflow_mul-result-2 c = let g = given c.args.c c.args.n c.args.m c.requires.sizes c.ranges.n c.ranges.m in (times g.c1 (times g.n g.n tt) tt).fits

pub overflow_mul-result-4 : goal.overflow_mul-result-4
overflow_mul-result-4 c = let g = given c.args.c c.args.n c.args.m c.requires.sizes c.ranges.n c.ranges.m in (times (times (lit 2 tt) g.c2 tt) g.n tt).fits

pub overflow_mul-result-5 : goal.overflow_mul-result-5
overflow_mul-result-5 c = let g = given c.args.c c.args.n c.args.m c.requires.sizes c.ranges.n c.ranges.m in (times (times (times (lit 2 tt) g.c2 tt) g.n tt) g.m tt).fits

pub overflow_add-result : goal.overflow_add-result
overflow_add-result c = let g = given c.args.c c.args.n c.args.m c.requires.sizes c.ranges.n c.ranges.m in (plus (times g.c1 (times g.n g.n tt) tt) (times (times (times (lit 2 tt) g.c2 tt) g.n tt) g.m tt) tt).fits

pub overflow_mul-result-8 : goal.overflow_mul-result-8
overflow_mul-result-8 c = let g = given c.args.c c.args.n c.args.m c.requires.sizes c.ranges.n c.ranges.m in (times (times (lit 3 tt) g.c3 tt) (times g.m g.m tt) tt).fits

pub overflow_add-result-2 : goal.overflow_add-result-2
overflow_add-result-2 c = let g = given c.args.c c.args.n c.args.m c.requires.sizes c.ranges.n c.ranges.m in (plus (plus (times g.c1 (times g.n g.n tt) tt) (times (times (times (lit 2 tt) g.c2 tt) g.n tt) g.m tt) tt) (times (times (lit 3 tt) g.c3 tt) (times g.m g.m tt) tt) tt).fits

pub returns : goal.returns
returns c =
    let g = given c.args.c c.args.n c.args.m c.requires.sizes c.ranges.n c.ranges.m in
    let r = (plus (plus (times g.c1 (times g.n g.n tt) tt) (times (times (times (lit 2 tt) g.c2 tt) g.n tt) g.m tt) tt) (times (times (lit 3 tt) g.c3 tt) (times g.m g.m tt) tt) tt) in
    record { a1 = (back r, rw (back r) r.within) }
