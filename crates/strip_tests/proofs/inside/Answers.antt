-- Each number is a step away from the arguments, within their sizes.
use Rattle.integers.specs.Signed.{plus, times, back}
use Rattle.strip_tests.proofs.Calls.{SpanMade, span_made}
use Rattle.strip_tests.proofs.inside.Goals as goal

made : (c : goal.Start) → SpanMade c.args.ax c.args.ay c.args.ex c.args.ey c.args.r
made c = span_made c.requires.sizes

pub overflow_mul-far : goal.overflow_mul-far
overflow_mul-far c = let x = plus (made c).ax_made (made c).ex_made tt in (times x x tt).fits

pub overflow_mul-far-2 : goal.overflow_mul-far-2
overflow_mul-far-2 c = let y = plus (made c).ay_made (made c).ey_made tt in (times y y tt).fits

pub overflow_add-far : goal.overflow_add-far
overflow_add-far c =
    let x = plus (made c).ax_made (made c).ex_made tt in
    let y = plus (made c).ay_made (made c).ey_made tt in
    (plus (times x x tt) (times y y tt) tt).fits

pub returns : goal.returns
returns c =
    let x = plus (made c).ax_made (made c).ex_made tt in
    let y = plus (made c).ay_made (made c).ey_made tt in
    record { told = rw (back (times (made c).r_made (made c).r_made tt), back (plus (times x x tt) (times y y tt) tt)) }
