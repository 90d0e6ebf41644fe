use Rattle.std.proofs.Common.{◌+◌}
use Rattle.integers.specs.Signed.{sized, back}
use Rattle.ranges.specs.Jobs.{places_limited}
use Rattle.forests.proofs.Controls.{read}
use Rattle.forests.proofs.cubic_at.Goals as goal

pub power_form-requires : goal.power_form-requires
power_form-requires c =
    let l = places_limited c.requires.legal in
    record {
      sizes = record {
        b0_size = sized 1000000 (read c.args.b l c.from-b0.ensures) tt;
        b1_size = sized 1000000 (read (c.args.b + 2) l c.from-b1.ensures) tt;
        b2_size = sized 1000000 (read (c.args.b + 4) l c.from-b2.ensures) tt;
        b3_size = sized 1000000 (read (c.args.b + 6) l c.from-b3.ensures) tt;
      };
    }

pub returns-clause-sides : goal.returns-clause-sides
returns-clause-sides c =
    let l = places_limited c.requires.legal in
    let b0 = read c.args.b l c.from-b0.ensures in
    let b1 = read (c.args.b + 2) l c.from-b1.ensures in
    let b2 = read (c.args.b + 4) l c.from-b2.ensures in
    let b3 = read (c.args.b + 6) l c.from-b3.ensures in
    rw (back b0, back b1, back b2, back b3) at c.power_form.ensures.sides
