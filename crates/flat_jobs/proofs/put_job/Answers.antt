-- The row that `flat_jobs::put_job` leaves: the job's first numbers, its places and its marks.
use Rattle.std.proofs.Common.{◌∙◌, rules}
use Rattle.flat_jobs.proofs.Copying.{head_is, row_is}
use Rattle.flat_jobs.proofs.put_job.Goals as goal

pub returns : goal.returns
returns c = record {
  wrote = row_is c.args.job c.copy_from_slice.new.self c.copy_from_slice-2.new.self c.copy_from_slice-3.new.self c.args.numbers.now
      (c.copy_from_slice.ensures.after ∙ head_is c.args.job c.requires.few (search rules) (search rules) (search rules) (search rules) (search rules) (search rules))
      c.copy_from_slice-2.ensures.after c.copy_from_slice-3.ensures.after (search rules) (search rules) (search rules);
}
