-- What a legal job has, as the code over its trees asks for it: its places' and its grain's sizes, and trees whose strips are sized.
-- Assumes nothing.
use Rattle.std.specs.Prelude.{◌≡◌, Bool, true, false, cond, List, [], ◌∷◌, ℕ, zero, suc, ◌+◌, ◌*◌, ◌≤◌, T, ℤ, pos, nat_abs, get_or}
use Rattle.std.proofs.Common.{arith}
use Rattle.std.specs.Int.Signed.{non_neg}
use Rattle.integers.specs.Tests.{both}
use Rattle.model.specs.declared.Job.{Job}
use Rattle.model.specs.Jobs.{cubic, line, coordinate, is_zero, placed, component_at, edge_at, edges_from, outline}
use Rattle.model.specs.Store.{forest}
use Rattle.ranges.specs.Zeros.{zero_is}
use Rattle.ranges.specs.Legal.{coordinate_true, coordinate_size, natural, Legal}
use Rattle.ranges.specs.Sizes.{grain_most, ControlSized, EachSized}
use Rattle.ranges.specs.Strips.{EdgeSized, EdgesSized, trees_sized}

-- ---- a job's 512 numbers
zero_in : (z : ℤ) → is_zero z ≡ true → nat_abs z ≤ 1000000
zero_in z e = rw (zero_is z e) (omega arith)

pub record Limits (l : List ℤ) : Type 0 where
  pub within : (i : ℕ) → nat_abs (get_or l i (pos 0)) ≤ 1000000

placed_in : (k : ℕ) (l : List ℤ) → placed k l ≡ true → (i : ℕ) → nat_abs (get_or l i (pos 0)) ≤ 1000000
unfolding placed
placed_in k [] e i = omega arith
placed_in zero (v ∷ vs) e zero = zero_in v (both (is_zero v) (placed zero vs) e).0
placed_in zero (v ∷ vs) e (suc i) = placed_in zero vs (both (is_zero v) (placed zero vs) e).1 i
placed_in (suc k) (v ∷ vs) e zero = coordinate_size v (coordinate_true (both (coordinate v) (placed k vs) e).0)
placed_in (suc k) (v ∷ vs) e (suc i) = placed_in k vs (both (coordinate v) (placed k vs) e).1 i

pub control_sized : (mark : ℤ) (l : List ℤ) → Limits l → (k : ℕ) → ControlSized (component_at mark l k)
control_sized mark l h k = go (is_zero mark)
  where
    go : (t : Bool) → ControlSized (cond t (cubic (get_or l k (pos 0)) (get_or l (k + 2) (pos 0)) (get_or l (k + 4) (pos 0)) (get_or l (k + 6) (pos 0))) (line (get_or l k (pos 0)) (get_or l (k + 2) (pos 0))))
    go true = record { b0_size = h.within k; b1_size = h.within (k + 2); b2_size = h.within (k + 4); b3_size = h.within (k + 6) }
    go false = record { a_size = h.within k; b_size = h.within (k + 2) }

edge_sized : (ms l : List ℤ) → Limits l → (e : ℕ) → EdgeSized (edge_at ms l e)
edge_sized ms l h e = record { x_control = control_sized (get_or ms e (pos 0)) l h (8 * e + 0); y_control = control_sized (get_or ms e (pos 0)) l h (8 * e + 1) }

edges_sized : (ms l : List ℤ) → Limits l → (k e : ℕ) → EdgesSized (edges_from ms l k e)
unfolding edges_from
edges_sized ms l h zero e = tt
edges_sized ms l h (suc k) e = (edge_sized ms l h e, edges_sized ms l h k (e + 1))

-- ---- a grain in range
pub record GrainSized (t : ℤ) : Type 0 where
  pub least_grain : 1 ≤ nat_abs t
  pub grain_size : nat_abs t ≤ grain_most
  pub grain_above : T (non_neg t)

-- ---- what a legal job has, for those who walk its trees
pub grain_sized : {j : Job} → Legal j → GrainSized j.grain
grain_sized {j} l = let n = natural j.grain l.in_range.grain_in in record { least_grain = n.least; grain_size = n.most; grain_above = n.nonneg }

pub places_limited : {j : Job} → Legal j → Limits j.places
places_limited {j} l = record { within = placed_in (8 * j.count) j.places l.in_range.places_in }

pub forest_sized : (j : Job) → Legal j → EachSized (forest j)
unfolding forest outline
forest_sized j l = trees_sized j.grain (edges_from j.marks j.places j.count 0) (edges_sized j.marks j.places (places_limited l) j.count 0)
