-- What `reading::end_at` answers, where the last line is there and where it is not.
use Rattle.std.proofs.Common.{rules, lit≤}
use Rattle.model.specs.Sheets.{end_form}
use Rattle.sheet_text.specs.Forms.{marks}
use Rattle.reading.proofs.EdgeLines as lines
use Rattle.reading.proofs.end_at.Goals as goal

pub form_at-requires-clause-few : goal.form_at-requires-clause-few
unfolding marks
form_at-requires-clause-few c = lit≤ tt

pub returns-in-Some : goal.returns-in-Some
unfolding end_form
returns-in-Some c = search (rules, lines.end_found)

pub returns-in-None : goal.returns-in-None
unfolding end_form
returns-in-None c = search (rules, lines.end_none)
