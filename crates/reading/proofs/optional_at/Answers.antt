-- What `reading::optional_at` answers, where the line is there and where it is left out.
use Rattle.std.proofs.Common.{rules}
use Rattle.reading.proofs.Sections as sections
use Rattle.reading.proofs.optional_at.Goals as goal

pub returns-in-Some : goal.returns-in-Some
returns-in-Some c = search (rules, sections.there)

pub returns-in-None : goal.returns-in-None
returns-in-None c = search (rules, sections.left_out)
