-- The levels of the walk: where each ends, and its rows. Assumes nothing.
use Rattle.std.specs.Prelude.{List, ℕ, get_or}
use Rattle.spans.specs.declared.Span.{Span}
use Rattle.rows.specs.declared.Band.{Band}

abbrev pub no_band : Band
no_band = record { end = 0; rows = record { lo = 0; hi = 0 } }

abbrev pub ends_of : List Band → ℕ → ℕ
ends_of bands k = (get_or bands k no_band).end

abbrev pub rows_of : List Band → ℕ → Span
rows_of bands k = (get_or bands k no_band).rows
