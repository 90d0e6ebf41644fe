-- Of any tree that the part holds the walk so far is told by `Walks`.
use mathlib.Core.Path.{◌≡◌}
use Prim.Native.Nat.{◌≤◌}
use lib.ListN.{length}
use Rattle.model.specs.Trees.{Tree}
use Rattle.model.specs.Store.{flatten}
use Rattle.ranges.specs.Sizes.{AllSized}
use Rattle.strip_tests.specs.Answers.{meaning}
use Rattle.search.specs.Probes.{judged_by}
use Rattle.search.proofs.Walks.{Sofar}
use Rattle.search.proofs.search.Given as goal

abbrev pub invariant-loop-rest : goal.invariant-loop-rest
invariant-loop-rest l = record { within : length l.rest ≤ length l.part; sofar : (t : Tree) → AllSized t → l.part ≡ flatten t → Sofar (judged_by l.probe) l.rest t (meaning l.found) }

abbrev pub decreases-loop-rest : goal.decreases-loop-rest
decreases-loop-rest l = length l.rest
