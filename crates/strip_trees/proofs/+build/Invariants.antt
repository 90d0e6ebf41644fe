use Rattle.std.proofs.Common.{◌-◌}
use Rattle.model.specs.Trees.{deepest}
use Rattle.strip_trees.proofs.+build.Given as goal

abbrev pub decreases-build : goal.decreases-build
decreases-build l = deepest - l.d
