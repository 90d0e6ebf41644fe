-- What an accepted question has: a point in range, and a store that holds the trees of a legal job. Assumes nothing.
use mathlib.Core.Path.{◌≡◌}
use mathlib.Core.Bool.{◌&&◌}
use mathlib.Core.List.{List, ◌++◌}
use Prim.Native.Nat.{◌≤◌}
use lib.IntN.{ℤ, nat_abs}
use Rattle.integers.specs.Tests.{both}
use Rattle.model.specs.declared.Job.{Job}
use Rattle.model.specs.Refusals.{check, stranger}
use Rattle.model.specs.Jobs.{coordinate, own, judge_with}
use Rattle.model.specs.Store.{forest, store_of, begins}
use Rattle.model.specs.Entries.{trees_checks, spot_check, point_refusal, point}
use Rattle.ranges.specs.Refusals.{passed_all, each_passed}
use Rattle.ranges.specs.Legal.{coordinate_true, coordinate_size, legal_with}
use Rattle.subtrees.specs.Fronts.{TreesOf}
use Rattle.subtrees.specs.Sizes.{forest_held}

pub record Asked (j : Job) (x y : ℤ) (store : List ℤ) : Type 0 where
  pub x_in : nat_abs x ≤ 1000000
  pub y_in : nat_abs y ≤ 1000000
  pub trees : TreesOf store j.count

pub asked : (j : Job) (x y : ℤ) (store : List ℤ) → (point j x y store).refusal ≡ 0 → Asked j x y store
unfolding point point_refusal judge_with
asked j x y store e =
    let last = check stranger (begins store (store_of j)) in
    let h = each_passed (own j (spot_check x y)) (trees_checks j store ++ last) e in
    let l = legal_with j (coordinate x && coordinate y) h.0 in
    let s = both (coordinate x) (coordinate y) l.1 in
    let b = (passed_all last (each_passed (trees_checks j store) last h.1).1).0 in
    record {
      x_in = coordinate_size x (coordinate_true s.0);
      y_in = coordinate_size y (coordinate_true s.1);
      trees = record { trees = forest j; holds = forest_held j store l.0 b };
    }
