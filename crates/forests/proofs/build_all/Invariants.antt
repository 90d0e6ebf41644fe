use Rattle.std.proofs.Common.{◌≡◌, ◌++◌, ◌-◌, ◌*◌, ◌≤◌, length, take, drop}
use Rattle.model.specs.Store.{width, sizes, flatten_all, store_of, nodes_of}
use Rattle.forests.specs.Walk.{trees_from, Ahead}
use Rattle.forests.proofs.build_all.Given as goal

abbrev pub invariant-loop-e : goal.invariant-loop-e
invariant-loop-e l = record {
  few : l.at ≤ 22528 * l.e;
  within : l.at ≤ length l.store;
  ahead : Ahead l.job.grain l.job.marks l.job.places l.job.count l.e (length l.store - l.at);
  same : take l.at l.store ++ (flatten_all (trees_from l.job.grain l.job.marks l.job.places l.job.count l.e) ++ drop (width * sizes (trees_from l.job.grain l.job.marks l.job.places l.job.count l.e)) (drop l.at l.store)) ≡ store_of l.job ++ drop (width * nodes_of l.job) l.initial.store;
}
