use Rattle.integers.specs.Signed.{held, lit, times, back}
use Rattle.search.proofs.Wide.{too_wide, any}
use Rattle.search.proofs.enough_for.Goals as goal

pub overflow_mul-near : goal.overflow_mul-near
overflow_mul-near c = let r = held c.args.r c.requires.sizes.2 tt in (times r r tt).fits

pub overflow_mul-wide : goal.overflow_mul-wide
overflow_mul-wide c = let s = held c.args.s c.requires.sizes.0 tt in (times (lit 2 tt) s tt).fits

pub overflow_mul-wide-2 : goal.overflow_mul-wide-2
overflow_mul-wide-2 c = let s = held c.args.s c.requires.sizes.0 tt in (times (times (lit 2 tt) s tt) s tt).fits

pub returns-then-too_wide : goal.returns-then-too_wide
returns-then-too_wide c =
    let s = held c.args.s c.requires.sizes.0 tt in
    let r = held c.args.r c.requires.sizes.2 tt in
    record { stop = too_wide c.args.s c.args.r c.requires.sizes.1 (rw (back (times r r tt), back (times (times (lit 2 tt) s tt) s tt)) at c.if-too_wide.true) }

pub returns-else-too_wide : goal.returns-else-too_wide
returns-else-too_wide c = record { stop = λ x y. any x y c.args.s c.args.r }
