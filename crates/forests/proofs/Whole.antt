-- The tree of a shape whose strips are an edge's is the edge's. Assumes nothing.
use Rattle.std.proofs.Common.{◌≡◌, ap, ◌∙◌, ℕ, ℤ, to_z, of_z}
use Rattle.std.specs.Int.{w32, w64}
use Rattle.model.specs.declared.Job.{Job}
use Rattle.model.specs.Jobs.{Edge}
use Rattle.model.specs.Strips.{Strip, strip}
use Rattle.model.specs.Trees.{tree}
use Rattle.ranges.specs.Legal.{Legal}
use Rattle.subtrees.specs.Subtrees.{subtree}
use Rattle.forests.proofs.NextEdge.{grain_fits, wide_is}

-- with the grain as it is read and handed on
pub handed : (j : Job) (r : ℤ) → Legal j → r ≡ to_z w32 (of_z w32 j.grain) → to_z w64 (of_z w64 r) ≡ j.grain
handed j r l e = rw e (wide_is j.grain (grain_fits j l))

pub whole_is : (j : Job) (r : ℤ) (e : Edge) (s : ℕ → ℕ → Strip) → Legal j → r ≡ to_z w32 (of_z w32 j.grain) → s ≡ strip e → subtree (to_z w64 (of_z w64 r)) s 0 0 ≡ tree j.grain e
unfolding tree
whole_is j r e s l f i = ap (λ (z : ℤ). subtree z s 0 0) (handed j r l f) ∙ ap (λ (t : ℕ → ℕ → Strip). subtree j.grain t 0 0) i
