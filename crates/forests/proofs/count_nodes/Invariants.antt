use Rattle.std.proofs.Common.{◌≡◌, ◌*◌, ◌≤◌, cond, Some, None}
use Rattle.model.specs.Trees.{any_long}
use Rattle.model.specs.Store.{forest, nodes_of}
use Rattle.forests.specs.Walk.{trees_from}
use Rattle.forests.proofs.NextEdge.{counted_on}
use Rattle.forests.proofs.count_nodes.Given as goal

abbrev pub invariant-loop-e : goal.invariant-loop-e
invariant-loop-e l = record {
  same : counted_on l.nodes (trees_from l.job.grain l.job.marks l.job.places l.job.count l.e) ≡ cond (any_long (forest l.job)) None (Some (nodes_of l.job));
  few : l.nodes ≤ 2047 * l.e;
}
