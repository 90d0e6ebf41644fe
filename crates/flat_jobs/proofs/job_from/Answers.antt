-- The job of `flat_jobs::job_from`: a row's numbers, places and marks.
use Rattle.std.proofs.Common.{rules}
use Rattle.flat_jobs.proofs.Copying.{job_is}
use Rattle.flat_jobs.proofs.job_from.Goals as goal

pub returns : goal.returns
returns c = record {
  job = job_is c.args.numbers.now c.whole-row.result c.copy_from_slice.new.self c.copy_from_slice-2.new.self c.unwrap_or.result c.whole-row.ensures.row
      (search rules) (search rules) (search rules) (search rules) (search rules) (search rules) (search rules)
      c.copy_from_slice.ensures.after c.copy_from_slice-2.ensures.after (search rules);
}
