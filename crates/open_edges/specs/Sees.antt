-- What is seen of the trees at places, with the places that are kept. Assumes nothing.
use Rattle.std.specs.Prelude.{List, ℕ, ℤ, length}
use Rattle.model.specs.Strips.{Strip}
use Rattle.model.specs.Explore.{Answer}
use Rattle.open_edges.specs.Starts.{AllInside, StillOpen}
use Rattle.open_edges.specs.declared.Seen.{Seen}
use Rattle.open_edges.specs.declared.Seen.TheVariants.{Inside, Open}

abbrev pub Sees : (Strip → Answer) → List ℤ → List ℕ → List ℕ → Seen → Type 0
Sees v store ps keep Inside = AllInside v store ps
Sees v store ps keep (Open kept) = StillOpen v store ps (length ps) kept keep
