-- What `reading::edge_at` answers: a cubic's line, a line's, or that neither is there.
use Rattle.std.proofs.Common.{lit≤}
use Rattle.model.specs.Sheets.{edge_form, line_form}
use Rattle.sheet_text.specs.Forms.{marks}
use Rattle.reading.proofs.EdgeLines as lines
use Rattle.reading.proofs.edge_at.Goals as goal

pub form_at-requires-clause-few : goal.form_at-requires-clause-few
unfolding marks
form_at-requires-clause-few c = lit≤ tt

pub returns-in-Some : goal.returns-in-Some
unfolding edge_form
returns-in-Some c = record { answer = lines.cubic_said c.args.s.now c.args.at c.in-Some.cubic.value c.in-Some.cubic.next c.in-Some.ensures.answer c.in-Some.ensures.within.0 c.in-Some.ensures.zeros }

pub form_at-requires-2-clause-few : goal.form_at-requires-2-clause-few
unfolding marks
form_at-requires-2-clause-few c = lit≤ tt

pub returns-in_err-line : goal.returns-in_err-line
unfolding edge_form line_form
returns-in_err-line c = rw c.from_residual.ensures (record { answer = lines.no_edge_said c.args.s.now c.args.at c.in_default.ensures.answer c.in_err-line.ensures.answer })

pub returns : goal.returns
unfolding edge_form line_form
returns c = record { answer = lines.line_said c.args.s.now c.args.at c.in_default.ensures.answer c.in_ok-line.line.value c.in_ok-line.line.next c.in_ok-line.ensures.answer c.in_ok-line.ensures.within.0 c.in_ok-line.ensures.zeros }
