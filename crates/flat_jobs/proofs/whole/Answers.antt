-- The row of `flat_jobs::whole`: what was given, and zeros.
use Rattle.std.proofs.Common.{◌∙◌, ◌++◌, ap, drop}
use Rattle.std.specs.Prelude.{replicate, pos}
use Rattle.flat_jobs.specs.FlatJobs.{row_long}
use Rattle.flat_jobs.proofs.Copying.{whole_is}
use Rattle.flat_jobs.proofs.whole.Goals as goal

pub returns : goal.returns
returns c = record {
  row = ap (λ u. u ++ drop c.min-given.result (replicate row_long (pos 0))) c.copy_from_slice.ensures.after
      ∙ whole_is c.args.numbers.now row_long c.min-given.result c.min-given.ensures;
}
