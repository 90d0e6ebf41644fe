-- Each number is a step away from the arguments, within their sizes.
use Rattle.integers.specs.Signed.{Made, plus, minus, times, back}
use Rattle.strip_tests.specs.PlainTests.{excess_by}
use Rattle.strip_tests.proofs.Calls.{excess_of, span_made}
use Rattle.strip_tests.proofs.apart.Goals as goal

module _ (c : goal.After-max-gy) where
  gx : Made c.max-gx.result (excess_by c.args.ax c.args.ex) 1879048192
  gx = let m = span_made c.requires.sizes in excess_of c.args.ax c.args.ex (minus m.ax_made m.ex_made tt) c.max-gx.ensures.value tt

  gy : Made c.max-gy.result (excess_by c.args.ay c.args.ey) 1879048192
  gy = let m = span_made c.requires.sizes in excess_of c.args.ay c.args.ey (minus m.ay_made m.ey_made tt) c.max-gy.ensures.value tt

pub overflow_mul-near : goal.overflow_mul-near
overflow_mul-near c = (times (gx c) (gx c) tt).fits

pub overflow_mul-near-2 : goal.overflow_mul-near-2
overflow_mul-near-2 c = (times (gy c) (gy c) tt).fits

pub overflow_add-near : goal.overflow_add-near
overflow_add-near c = (plus (times (gx c) (gx c) tt) (times (gy c) (gy c) tt) tt).fits

pub overflow_mul-reach : goal.overflow_mul-reach
overflow_mul-reach c = let r = (span_made c.requires.sizes).r_made in (times r r tt).fits

pub returns : goal.returns
returns c =
    let r = (span_made c.requires.sizes).r_made in
    record { told = rw (back (times r r tt), back (plus (times (gx c) (gx c) tt) (times (gy c) (gy c) tt) tt)) }
