-- A job whose trees have as many nodes as any job's can. Assumes nothing.
use Rattle.std.specs.Prelude.{◌≡◌, refl, false, ◌||◌, List, [], ◌∷◌, ℕ, zero, suc, ◌*◌, ℤ, pos, replicate}
use Rattle.std.proofs.Common.{ap, ap₂, ◌∙◌, arith}
use Rattle.integers.specs.Absolute.{absℤ}
use Rattle.model.specs.declared.Job.{Job}
use Rattle.model.specs.Jobs.{cubic, between, coordinate, is_zero, placed, kind, marked, counted, ranged, celled, judge, Edge, edges_from, outline}
use Rattle.model.specs.Strips.{curved, side_at, strip}
use Rattle.model.specs.Trees.{tree, trees, pieces, is_long, any_long}
use Rattle.model.specs.Store.{size, sizes, forest}
use Rattle.model.specs.Promises.{StoreFills}

-- a straight edge whose pieces are short at depth 10 and at none before
abbrev even : Edge
even = record { x = cubic (pos 0) (pos 500) (pos 1000) (pos 1500); y = cubic (pos 0) (pos 0) (pos 0) (pos 0) }

even_full : size (tree (pos 1) even) ≡ 2047
unfolding tree pieces strip curved side_at absℤ
even_full = refl

even_short : is_long (tree (pos 1) even) ≡ false
unfolding tree pieces strip curved side_at absℤ
even_short = refl

-- 64 of it
abbrev lines : ℕ → List ℤ
lines zero = []
lines (suc k) = pos 0 ∷ pos 0 ∷ pos 500 ∷ pos 0 ∷ pos 1000 ∷ pos 0 ∷ pos 1500 ∷ pos 0 ∷ lines k

abbrev full : Job
full = record { x = pos 0; y = pos 0; n = pos 8; m = pos 0; reach = pos 1; grain = pos 1; count = 64; places = lines 64; marks = replicate 64 (pos 0) }

all_alike : outline full ≡ replicate 64 even
unfolding outline edges_from is_zero
all_alike = refl

sizes_alike : (k : ℕ) → sizes (trees (pos 1) (replicate k even)) ≡ 2047 * k
sizes_alike zero = omega arith
sizes_alike (suc k) = omega (arith, even_full, sizes_alike k)

none_long : (k : ℕ) → any_long (trees (pos 1) (replicate k even)) ≡ false
none_long zero = refl
none_long (suc k) = ap₂ ◌||◌ even_short (none_long k)

full_legal : judge full ≡ 0
unfolding judge counted ranged coordinate between placed marked kind is_zero celled
full_legal = refl

pub store_fills : StoreFills
unfolding forest
store_fills = (
  full,
  (refl, refl),
  full_legal,
  ap (λ (es : List Edge). any_long (trees (pos 1) es)) all_alike ∙ none_long 64,
  ap (λ (es : List Edge). sizes (trees (pos 1) es)) all_alike ∙ sizes_alike 64,
)
