use Rattle.std.proofs.Common.{◌-◌}
use Rattle.model.specs.Trees.{deepest}
use Rattle.strip_trees.proofs.+nodes_of.Given as goal

abbrev pub decreases-nodes_of : goal.decreases-nodes_of
decreases-nodes_of l = deepest - l.d
