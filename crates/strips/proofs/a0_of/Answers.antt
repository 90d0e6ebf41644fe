use Rattle.integers.specs.Signed.{plus, times, back}
use Rattle.strips.proofs.Forms.{given}
use Rattle.strips.proofs.a0_of.Goals as goal

-- nothing wraps, by the sizes of the coefficients and of N
pub overflow_mul-result-2 : goal.overflow_mul-result-2
overflow_mul-result-2 c = let g = given c.args.c c.args.n c.args.m c.requires.sizes c.ranges.n c.ranges.m in (times (times g.n g.n tt) g.n tt).fits

pub overflow_mul-result-3 : goal.overflow_mul-result-3
overflow_mul-result-3 c = let g = given c.args.c c.args.n c.args.m c.requires.sizes c.ranges.n c.ranges.m in (times g.c0 (times (times g.n g.n tt) g.n tt) tt).fits

pub overflow_mul-result-5 : goal.overflow_mul-result-5
overflow_mul-result-5 c = let g = given c.args.c c.args.n c.args.m c.requires.sizes c.ranges.n c.ranges.m in (times g.c1 (times g.n g.n tt) tt).fits

pub overflow_mul-result-6 : goal.overflow_mul-result-6
overflow_mul-result-6 c = let g = given c.args.c c.args.n c.args.m c.requires.sizes c.ranges.n c.ranges.m in (times (times g.c1 (times g.n g.n tt) tt) g.m tt).fits

pub overflow_add-result : goal.overflow_add-result
overflow_add-result c = let g = given c.args.c c.args.n c.args.m c.requires.sizes c.ranges.n c.ranges.m in (plus (times g.c0 (times (times g.n g.n tt) g.n tt) tt) (times (times g.c1 (times g.n g.n tt) tt) g.m tt) tt).fits

pub overflow_mul-result-7 : goal.overflow_mul-result-7
overflow_mul-result-7 c = let g = given c.args.c c.args.n c.args.m c.requires.sizes c.ranges.n c.ranges.m in (times g.c2 g.n tt).fits

pub overflow_mul-result-9 : goal.overflow_mul-result-9
overflow_mul-result-9 c = let g = given c.args.c c.args.n c.args.m c.requires.sizes c.ranges.n c.ranges.m in (times (times g.c2 g.n tt) (times g.m g.m tt) tt).fits

pub overflow_add-result-2 : goal.overflow_add-result-2
overflow_add-result-2 c = let g = given c.args.c c.args.n c.args.m c.requires.sizes c.ranges.n c.ranges.m in (plus (plus (times g.c0 (times (times g.n g.n tt) g.n tt) tt) (times (times g.c1 (times g.n g.n tt) tt) g.m tt) tt) (times (times g.c2 g.n tt) (times g.m g.m tt) tt) tt).fits

pub overflow_mul-result-11 : goal.overflow_mul-result-11
overflow_mul-result-11 c = let g = given c.args.c c.args.n c.args.m c.requires.sizes c.ranges.n c.ranges.m in (times (times g.m g.m tt) g.m tt).fits

pub overflow_mul-result-12 : goal.overflow_mul-result-12
overflow_mul-result-12 c = let g = given c.args.c c.args.n c.args.m c.requires.sizes c.ranges.n c.ranges.m in (times g.c3 (times (times g.m g.m tt) g.m tt) tt).fits

pub overflow_add-result-3 : goal.overflow_add-result-3
overflow_add-result-3 c = let g = given c.args.c c.args.n c.args.m c.requires.sizes c.ranges.n c.ranges.m in (plus (plus (plus (times g.c0 (times (times g.n g.n tt) g.n tt) tt) (times (times g.c1 (times g.n g.n tt) tt) g.m tt) tt) (times (times g.c2 g.n tt) (times g.m g.m tt) tt) tt) (times g.c3 (times (times g.m g.m tt) g.m tt) tt) tt).fits

pub returns : goal.returns
returns c =
    let g = given c.args.c c.args.n c.args.m c.requires.sizes c.ranges.n c.ranges.m in
    let r = (plus (plus (plus (times g.c0 (times (times g.n g.n tt) g.n tt) tt) (times (times g.c1 (times g.n g.n tt) tt) g.m tt) tt) (times (times g.c2 g.n tt) (times g.m g.m tt) tt) tt) (times g.c3 (times (times g.m g.m tt) g.m tt) tt) tt) in
    record { a0 = (back r, rw (back r) r.within) }
