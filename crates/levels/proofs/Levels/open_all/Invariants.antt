use Rattle.levels.specs.Open.{Fits}
use Rattle.levels.proofs.Kept.{Opened}
use Rattle.levels.proofs.Levels.open_all.Given as goal

abbrev pub invariant-loop-j : goal.invariant-loop-j
invariant-loop-j l = Fits l.n l.self × Opened l.n l.self l.j
