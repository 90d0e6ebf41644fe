-- How many nodes a tree and a job's trees can have: 2,047 an edge at most, so that 1,441,088 numbers are a store for every job; and what a
-- store that begins with a legal job's trees holds. Assumes nothing.
use Rattle.std.specs.Prelude.{◌≡◌, refl, true, false, not, List, [], ◌++◌, ℕ, zero, suc, ◌+◌, ◌*◌, ◌≤◌, ◌<◌, leb, ℤ, length}
use Rattle.std.proofs.Common.{ap, arith, leb-false}
use Rattle.model.specs.declared.Job.{Job}
use Rattle.model.specs.Refusals as refused
use Rattle.model.specs.Refusals.{Checks, check}
use Rattle.model.specs.Jobs.{coordinates, own, judge, Edge, edge_at, edges_from, outline}
use Rattle.model.specs.Strips.{strip}
use Rattle.model.specs.Trees.{tree, trees, any_long}
use Rattle.model.specs.Store.{width, size, sizes, forest, nodes_of, store_of, begins}
use Rattle.model.specs.Plates.{cells_of}
use Rattle.model.specs.Entries.{map_refusal, spot_check, point_refusal, spots_in, spots_fit, points_refusal}
use Rattle.model.specs.Promises.{StoreRoom}
use Rattle.ranges.specs.Refusals.{all_pass, passed_all, each_passed, tells}
use Rattle.ranges.specs.Legal.{Legal, legal}
use Rattle.ranges.specs.Jobs.{forest_sized}
use Rattle.subtrees.specs.Preorder.{size_pos}
use Rattle.subtrees.specs.Begins.{begins_all}
use Rattle.subtrees.specs.Fronts.{Holds}
use Rattle.subtrees.specs.Subtrees.{few}

pub few_nodes : (g : ℤ) (e : Edge) → size (tree g e) < 2048
unfolding tree
few_nodes g e = few g (strip e) 0 0

pub few_trees : (g : ℤ) (ms l : List ℤ) (k e : ℕ) → sizes (trees g (edges_from ms l k e)) ≤ 2047 * k
unfolding edges_from
few_trees g ms l zero e = omega arith
few_trees g ms l (suc k) e = omega (arith, few_nodes g (edge_at ms l e), few_trees g ms l k (e + 1))

pub many_trees : (g : ℤ) (ms l : List ℤ) (k e : ℕ) → length (trees g (edges_from ms l k e)) ≡ k
unfolding edges_from
many_trees g ms l zero e = refl
many_trees g ms l (suc k) e = ap suc (many_trees g ms l k (e + 1))

pub some_node : (g : ℤ) (ms l : List ℤ) (k e : ℕ) → 1 ≤ k → 1 ≤ sizes (trees g (edges_from ms l k e))
unfolding edges_from
some_node g ms l zero e h = absurd (omega arith)
some_node g ms l (suc k) e h = omega (arith, size_pos (tree g (edge_at ms l e)))

-- ---- of a legal job
pub forest_is : (j : Job) → forest j ≡ trees j.grain (edges_from j.marks j.places j.count 0)
unfolding forest outline
forest_is j = refl

pub forest_many : (j : Job) → length (forest j) ≡ j.count
unfolding forest outline
forest_many j = many_trees j.grain j.marks j.places j.count 0

pub forest_few : (j : Job) → Legal j → nodes_of j ≤ 131008
unfolding forest outline
forest_few j h = omega (arith, few_trees j.grain j.marks j.places j.count 0, h.few)

-- ---- a store that begins with the job's trees
pub forest_held : (j : Job) (store : List ℤ) → Legal j → begins store (store_of j) ≡ true → Holds store j.count (forest j)
forest_held j store h b = record { many = forest_many j; begins = begins_all (forest j) store b; sized = forest_sized j h }

-- ---- a store for every job
enough : (j : Job) (store : List ℤ) → judge j ≡ 0 → 1441088 ≤ length store → leb (width * nodes_of j) (length store) ≡ false → ⊥
enough j store e h f = absurd (omega (arith, leb-false (width * nodes_of j) (length store) f, forest_few j (legal j e)))

-- the check before that of the store
abbrev long_check : Job → Checks
long_check j = check refused.long (not (any_long (forest j)))

pub store_room : StoreRoom
unfolding map_refusal point_refusal points_refusal judge
store_room j store h = (map, point, points)
  where
    map : (cells : List ℕ) → map_refusal j store cells ≡ 6 → ⊥
    map cells e =
        let t = tells 5 (own j [] ++ long_check j) refused.store (leb (width * nodes_of j) (length store)) (check refused.space (leb (cells_of j) (length cells))) refl e in
        enough j store (each_passed (own j []) (long_check j) t.0).0 h t.1

    point : (x y : ℤ) → point_refusal j x y store ≡ 6 → ⊥
    point x y e =
        let t = tells 5 (own j (spot_check x y) ++ long_check j) refused.store (leb (width * nodes_of j) (length store)) (check refused.stranger (begins store (store_of j))) refl e in
        let p = passed_all (own j (spot_check x y) ++ long_check j) t.0 in
        enough j store (all_pass (own j []) (p.0, (p.1.0, (p.1.1.1.0, tt)))) h t.1

    points : (spots reply : List ℤ) → points_refusal j spots store reply ≡ 6 → ⊥
    points spots reply e =
        let before : Checks = own j (check refused.range (coordinates spots)) ++ (check refused.sheaf (spots_fit spots) ++ long_check j) in
        let t = tells 5 before refused.store (leb (width * nodes_of j) (length store)) (check refused.space (leb (3 * spots_in spots) (length reply)) ++ check refused.stranger (begins store (store_of j))) refl e in
        let p = passed_all before t.0 in
        enough j store (all_pass (own j []) (p.0, (p.1.0, (p.1.1.1.0, tt)))) h t.1
