use Rattle.std.proofs.Common.{sym, subst}
use Rattle.integers.specs.Signed.{arg, lit, plus, minus, times, back}
use Rattle.ranges.specs.Sizes.{control_most}
use Rattle.integers.specs.Signed.{Made}
use Rattle.ranges.specs.PowerForm.{FormSized, form_sized}
use Rattle.strips.proofs.Forms.{form_eq, as_curved}
use Rattle.strips.proofs.power_form.Goals as goal

module _ (c : goal.Start) where
  b0 : Made c.args.b0 c.args.b0 control_most
  b0 = arg c.requires.sizes.b0_size c.ranges.b0

  b1 : Made c.args.b1 c.args.b1 control_most
  b1 = arg c.requires.sizes.b1_size c.ranges.b1

  b2 : Made c.args.b2 c.args.b2 control_most
  b2 = arg c.requires.sizes.b2_size c.ranges.b2

  b3 : Made c.args.b3 c.args.b3 control_most
  b3 = arg c.requires.sizes.b3_size c.ranges.b3

pub overflow_sub-result-4 : goal.overflow_sub-result-4
overflow_sub-result-4 c = (minus (plus (minus (b3 c) (times (lit 3 tt) (b2 c) tt) tt) (times (lit 3 tt) (b1 c) tt) tt) (b0 c) tt).fits

pub returns-clause-sides : goal.returns-clause-sides
returns-clause-sides c =
    as_curved _ c.args.b0 c.args.b1 c.args.b2 c.args.b3
    (form_eq (back (b0 c))
    (back (times (lit 3 tt) (minus (b1 c) (b0 c) tt) tt))
    (back (times (lit 3 tt) (plus (minus (b0 c) (times (lit 2 tt) (b1 c) tt) tt) (b2 c) tt) tt))
    (back (minus (plus (minus (b3 c) (times (lit 3 tt) (b2 c) tt) tt) (times (lit 3 tt) (b1 c) tt) tt) (b0 c) tt)))

pub returns-clause-sized : goal.returns-clause-sized
returns-clause-sized c =
    subst FormSized
    (sym (form_eq (back (b0 c))
    (back (times (lit 3 tt) (minus (b1 c) (b0 c) tt) tt))
    (back (times (lit 3 tt) (plus (minus (b0 c) (times (lit 2 tt) (b1 c) tt) tt) (b2 c) tt) tt))
    (back (minus (plus (minus (b3 c) (times (lit 3 tt) (b2 c) tt) tt) (times (lit 3 tt) (b1 c) tt) tt) (b0 c) tt))))
    (form_sized c.args.b0 c.args.b1 c.args.b2 c.args.b3 c.requires.sizes)
