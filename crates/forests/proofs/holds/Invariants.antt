use Rattle.std.proofs.Common.{◌↔◌}
use Rattle.model.specs.Store.{forest}
use Rattle.forests.specs.Walk.{trees_from, StandAll}
use Rattle.forests.proofs.holds.Given as goal

abbrev pub invariant-loop-e : goal.invariant-loop-e
invariant-loop-e l = StandAll (forest l.job) l.fn.store ↔ StandAll (trees_from l.job.grain l.job.marks l.job.places l.job.count l.e) l.rest
