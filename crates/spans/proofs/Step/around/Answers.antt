-- The stretch has the ends that were found, at u − e and at u + e.
use Rattle.std.proofs.Common.{ap₂, ◌∙◌}
use Rattle.std.specs.Prelude.{◌&&◌, ◌*◌, pos}
use Rattle.integers.specs.Signed.{arg, minus, plus, back}
use Rattle.spans.specs.Among.{length_of}
use Rattle.spans.proofs.Ends.{near_law}
use Rattle.spans.proofs.Step.around.Goals as goal

pub returns : goal.returns
returns c =
    let u = arg c.requires.sizes.0 c.ranges.u in
    let e = arg c.requires.sizes.1 c.ranges.e in
    record {
      near = λ i.
          ap₂ (λ p q. p && q) (rw (back (minus u e tt)) at (c.first_from.ensures i)) (rw (back (plus u e tt)) at (c.first_above.ensures i))
          ∙ near_law (pos (length_of c.args.self * i)) c.args.u c.args.e;
    }
