use Rattle.std.proofs.Common.{ap, not}
use Rattle.integers.specs.Signed.{arg, back}
use Rattle.columns.specs.Frames.{reach_made}
use Rattle.columns.proofs.Numbers.{abs_of, gap_of, vx_made, ex_made, ey_made, span_sized}
use Rattle.columns.proofs.is_near.Goals as goal

pub apart-requires : goal.apart-requires
apart-requires c =
    let f = c.args.frame in
    let v = c.args.v in
    let s = c.requires.sizes in
    let x = gap_of f.q c.args.i (vx_made v s.0) c.gap.ensures.from c.gap.ensures.size in
    let w = arg s.2 c.ranges.w in
    rw (back (abs_of x c.abs.ensures.value tt), back (abs_of w c.abs-2.ensures.value tt), back (ex_made v s.0), back (ey_made v s.0), back (reach_made f s.1))
    (record { sizes = span_sized f s.1 v s.0 _ _ x.within s.2 })

pub returns : goal.returns
returns c =
    let f = c.args.frame in
    let v = c.args.v in
    let s = c.requires.sizes in
    let x = gap_of f.q c.args.i (vx_made v s.0) c.gap.ensures.from c.gap.ensures.size in
    let w = arg s.2 c.ranges.w in
    let e = rw (back (abs_of x c.abs.ensures.value tt), back (abs_of w c.abs-2.ensures.value tt), back (ex_made v s.0), back (ey_made v s.0), back (reach_made f s.1)) at c.apart.ensures.told in
    record { told = ap not e }
