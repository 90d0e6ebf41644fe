-- So many trees are listed, and the next begins at `at`.
use mathlib.Core.List.{List}
use lib.ListN.{length}
use Rattle.model.specs.Trees.{Tree}
use Rattle.subtrees.specs.Fronts.{Holds}
use Rattle.open_edges.proofs.Listing.{Listed}
use Rattle.open_edges.proofs.list_starts.Given as goal

abbrev pub invariant-loop-start : goal.invariant-loop-start
invariant-loop-start l = (ts : List Tree) → Holds l.store (length l.list) ts → Listed l.store ts l.list l.at l.start-index
