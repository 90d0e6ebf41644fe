-- What the promises say of a call that is not refused, by what it answered and left. Assumes nothing.
use Rattle.std.specs.Prelude.{◌≡◌, List, ℕ, ℤ, Result, Ok, Err, IfOk, OnOk}
use Rattle.std.proofs.Common.{sym, ap, subst}
use Rattle.model.specs.declared.Job.{Job}
use Rattle.model.specs.declared.Nearest.{Nearest as Found}
use Rattle.model.specs.declared.Refusal.{Refusal}
use Rattle.model.specs.Answers.{Map, Nearest, told, as_map, as_nearest}
use Rattle.model.specs.Entries.{map, map_cells, point, points_refusal, points_reply}
use Rattle.model.specs.Promises.{MapHolds, Bounds, whole_point, PointsHold}
use Rattle.clearance.specs.Demands.{map_holds, point_holds}
use Rattle.clearance.specs.Rows.{points_true}

pub map_true : (j : Job) (store : List ℤ) (cells after : List ℕ) (r : Result ℕ Refusal) → as_map r ≡ map j store cells → after ≡ map_cells j store cells → OnOk r (MapHolds j after)
map_true j store cells after (Ok n) e f = subst (MapHolds j) (sym f) (map_holds j store cells (sym (ap (λ (m : Map). m.refusal) e)))
map_true j store cells after (Err k) e f = tt

pub point_true : (j : Job) (x y : ℤ) (store : List ℤ) (r : Result Found Refusal) → as_nearest r ≡ point j x y store → IfOk r (λ n. Bounds j (whole_point x y) n.lo n.hi)
point_true j x y store (Ok n) e = subst (λ (p : Nearest). Bounds j (whole_point x y) p.lo p.hi) (sym e) (point_holds j x y store (sym (ap (λ (p : Nearest). p.refusal) e)))
point_true j x y store (Err k) e = tt

pub points_hold : (j : Job) (spots store reply after : List ℤ) {A : Type 0} (r : Result A Refusal) → told r ≡ points_refusal j spots store reply → after ≡ points_reply j spots store reply → OnOk r (PointsHold j spots after)
points_hold j spots store reply after (Ok a) e f = subst (PointsHold j spots) (sym f) (points_true j spots store reply (sym e))
points_hold j spots store reply after (Err k) e f = tt
