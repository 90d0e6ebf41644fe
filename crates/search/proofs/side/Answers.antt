-- Each number is a step away from one that is given.
use mathlib.Core.Path.{◌≡◌}
use lib.IntN.{ℤ}
use Rattle.integers.specs.Signed.{held, plus, minus, back}
use Rattle.strip_tests.specs.declared.Side.{Side}
use Rattle.search.proofs.side.Goals as goal

same : {w axis half w' axis' half' : ℤ} → w ≡ w' → axis ≡ axis' → half ≡ half' → ◌≡◌ {A = Side} (record { w = w; axis = axis; half = half }) (record { w = w'; axis = axis'; half = half' })
same d e f = cc

pub overflow_sub-result : goal.overflow_sub-result
overflow_sub-result c = let z = c.requires.sizes in (minus (held c.args.at z.1 tt) (held c.args.e.centre z.0.centre_size tt) tt).fits

pub overflow_add-result : goal.overflow_add-result
overflow_add-result c = let z = c.requires.sizes in (plus (held c.args.e.half z.0.box_size tt) (held c.args.s z.2 tt) tt).fits

pub returns : goal.returns
returns c =
    let z = c.requires.sizes in
    record {
      side = same (back (minus (held c.args.at z.1 tt) (held c.args.e.centre z.0.centre_size tt) tt)) (back (held c.args.e.axis z.0.axis_size tt)) (back (plus (held c.args.e.half z.0.box_size tt) (held c.args.s z.2 tt) tt));
    }
