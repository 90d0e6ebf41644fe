-- A stretch as it is kept. Assumes nothing.
use Rattle.spans.specs.declared.Span.{Span}
use Rattle.levels.specs.declared.Ends.{Ends}

abbrev pub span_of : Ends → Span
span_of e = record { lo = e.lo; hi = e.hi }
