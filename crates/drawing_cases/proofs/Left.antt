-- What an accepted map leaves: a legal job, and a store that begins with its trees. Assumes nothing.
use mathlib.Core.Path.{◌≡◌, refl, sym, ◌∙◌, subst}
use mathlib.Core.List.{List}
use Prim.Native.Nat.{ℕ}
use native.Mathlib.Omega.{arith}
use lib.IntN.{ℤ}
use lib.ListN.{length, drop}
use Rattle.model.specs.declared.Job.{Job}
use Rattle.model.specs.Store.{forest, store_of}
use Rattle.model.specs.Entries.{over, map_refusal, map, map_store}
use Rattle.ranges.specs.Refusals.{accepted_is}
use Rattle.ranges.specs.Legal.{legal}
use Rattle.ranges.specs.Jobs.{forest_sized}
use Rattle.ranges.specs.Cells.{few_cells}
use Rattle.subtrees.specs.Preorder.{BeginsAll, all_begun}
use Rattle.mapping.specs.Checks.{map_judged}
use Rattle.drawing.specs.Ready.{MapReady}

pub left : (j : Job) (store store' : List ℤ) (cells cells' : List ℕ) → (map j store cells).refusal ≡ 0 → store' ≡ map_store j store cells → length cells' ≡ 65536 → MapReady j cells' store'
unfolding map map_store
left j store store' cells cells' e h k =
    let good = map_judged j store cells e in
    record {
      accepted = good;
      begins = subst (BeginsAll (forest j)) (sym (h ∙ accepted_is (map_refusal j store cells) (over (store_of j) store) store e)) (all_begun (over (store_of j) store) (drop (length (store_of j)) store) (forest j) refl);
      sized = forest_sized j (legal j good);
      room = omega (arith, few_cells j good, k);
    }
