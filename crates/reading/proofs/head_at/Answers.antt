-- What `reading::head_at` answers: the first of its lines that is not there, or what they say.
use Rattle.std.proofs.Common.{rules, refl, lit≤}
use Rattle.model.specs.Sheets.{job_form, plate_form, cell_form, reach_form, grain_form}
use Rattle.sheet_text.specs.Forms.{marks}
use Rattle.reading.proofs.Heads as heads
use Rattle.reading.proofs.head_at.Goals as goal

pub form_at-requires-clause-few : goal.form_at-requires-clause-few
unfolding marks
form_at-requires-clause-few c = lit≤ tt

pub form_at-requires-2-clause-few : goal.form_at-requires-2-clause-few
unfolding marks
form_at-requires-2-clause-few c = lit≤ tt

pub form_at-requires-3-clause-few : goal.form_at-requires-3-clause-few
unfolding marks
form_at-requires-3-clause-few c = lit≤ tt

pub form_at-requires-4-clause-few : goal.form_at-requires-4-clause-few
unfolding marks
form_at-requires-4-clause-few c = lit≤ tt

pub optional_at-grain-requires-clause-one : goal.optional_at-grain-requires-clause-one
unfolding marks
optional_at-grain-requires-clause-one c = refl

pub returns-in_err-job : goal.returns-in_err-job
unfolding job_form
returns-in_err-job c = rw c.from_residual.ensures (record { answer = heads.no_job c.args.s.now c.requires.short c.in_err-job.ensures.answer })

pub returns-in_err-plate : goal.returns-in_err-plate
unfolding job_form plate_form
returns-in_err-plate c =
    rw c.from_residual-in_err-plate.ensures (record { answer = heads.no_plate c.args.s.now c.requires.short c.in_ok-job.job c.in_ok-job.ensures.answer c.in_err-plate.ensures.answer })

pub returns-in_err-cell : goal.returns-in_err-cell
unfolding job_form plate_form cell_form
returns-in_err-cell c =
    rw c.from_residual-in_err-cell.ensures (record {
      answer = heads.no_cell c.args.s.now c.requires.short c.in_ok-job.job c.in_ok-job.ensures.answer c.in_ok-plate.plate c.in_ok-plate.ensures.answer c.in_err-cell.ensures.answer;
    })

pub returns-in_err-reach : goal.returns-in_err-reach
unfolding job_form plate_form cell_form reach_form
returns-in_err-reach c =
    rw c.from_residual-in_err-reach.ensures (record {
      answer = heads.no_reach c.args.s.now c.requires.short c.in_ok-job.job c.in_ok-job.ensures.answer c.in_ok-plate.plate c.in_ok-plate.ensures.answer c.in_ok-cell.cell c.in_ok-cell.ensures.answer c.in_err-reach.ensures.answer;
    })

pub returns : goal.returns
unfolding job_form plate_form cell_form reach_form grain_form
returns c = record {
  answer = heads.has_head c.args.s.now c.requires.short c.in_ok-job.job c.in_ok-job.ensures.answer c.in_ok-plate.plate c.in_ok-plate.ensures.answer c.in_ok-cell.cell c.in_ok-cell.ensures.answer
      c.in_ok-reach.reach c.in_ok-reach.ensures.answer c.optional_at-grain.result c.optional_at-grain.ensures.answer _
      (heads.head_kept c.in_ok-plate.plate.value c.in_ok-cell.cell.value c.in_ok-reach.reach.value c.optional_at-grain.result.value (search rules) (search rules) (search rules) (search rules) (search rules) (search rules));
}
