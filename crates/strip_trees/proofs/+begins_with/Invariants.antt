use Rattle.std.proofs.Common.{◌-◌}
use Rattle.model.specs.Trees.{deepest}
use Rattle.strip_trees.proofs.+begins_with.Given as goal

abbrev pub decreases-begins_with : goal.decreases-begins_with
decreases-begins_with l = deepest - l.d
