-- So many trees on, none is inside and those not away are kept.
use Prim.Native.Nat.{◌≤◌}
use Rattle.search.specs.Probes.{judged_by}
use Rattle.open_edges.specs.Looked.{Looked}
use Rattle.open_edges.proofs.explore_open.Given as goal

abbrev pub invariant-loop-start : goal.invariant-loop-start
invariant-loop-start l = record { few : l.kept ≤ l.start-index; looked : Looked l.store (judged_by l.probe) l.list l.keep l.kept l.start-index }
