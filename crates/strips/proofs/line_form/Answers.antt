use Rattle.integers.specs.Signed.{arg, minus, back}
use Rattle.strips.proofs.Forms.{as_straight}
use Rattle.strips.proofs.line_form.Goals as goal

pub returns-clause-sides : goal.returns-clause-sides
returns-clause-sides c =
    let a = arg c.requires.sizes.a_size c.ranges.a in
    let b = arg c.requires.sizes.b_size c.ranges.b in
    as_straight _ _ c.args.a c.args.b (back a) (back (minus b a tt))
