use Rattle.std.proofs.Common.{rules}
use Rattle.ranges.specs.Jobs.{places_limited}
use Rattle.forests.proofs.Controls.{sized_at}
use Rattle.forests.proofs.line_at.Goals as goal

pub line_form-requires : goal.line_form-requires
line_form-requires c =
    let l = places_limited c.requires.legal in
    record { sizes = record { a_size = search (rules, sized_at, l, c.from-first.ensures); b_size = search (rules, sized_at, l, c.from-second.ensures) } }
