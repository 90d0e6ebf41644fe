-- What `writing::put_head` asks for and leaves.
use Rattle.std.proofs.Common.{rules}
use Rattle.model.specs.Sheets.{job_form, plate_form, cell_form, reach_form}
use Rattle.sheet_text.specs.Forms.{nil_small}
use Rattle.writing.proofs.Lines as lines
use Rattle.writing.proofs.put_head.Goals as goal

pub put_form-a-requires-clause-small : goal.put_form-a-requires-clause-small
put_form-a-requires-clause-small c = nil_small

pub put_form-b-requires-clause-small : goal.put_form-b-requires-clause-small
put_form-b-requires-clause-small c = search (rules, lines.plate_small)

pub put_form-c-requires-clause-small : goal.put_form-c-requires-clause-small
put_form-c-requires-clause-small c = search (rules, lines.cell_small)

pub put_form-requires-clause-small : goal.put_form-requires-clause-small
put_form-requires-clause-small c = search (rules, lines.reach_small)

pub returns-clause-answer : goal.returns-clause-answer
unfolding job_form plate_form cell_form reach_form
returns-clause-answer c = lines.head_put c.args.job.now c.requires.legal _ _ _ _ _ _ _ _ _ _ c.put_form-a.ensures.answer c.put_form-b.ensures.answer c.put_form-c.ensures.answer c.put_form.ensures.answer
