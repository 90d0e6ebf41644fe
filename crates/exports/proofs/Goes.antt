-- A go that stands as a number is a go, and means what one means. Assumes nothing.
use Rattle.std.specs.Prelude.{◌≡◌, refl, Bool, true, false, List, [], ◌∷◌, ℕ}
use Rattle.std.proofs.Common.{sym, ap, ◌∙◌, arith}
use Rattle.model.specs.declared.Job.{Job}
use Rattle.model.specs.Promises.{MapHolds}
use Rattle.ranges.specs.Refusals.{accepted_is}
use Rattle.table_four.specs.Table.{place}
use Rattle.table_four.specs.Promises.{GoMeans}
use Rattle.table_four.proofs.Go.{go_true}
use Rattle.exports.specs.Rows.{flag, go_in, placed_left}

flag_go : (b : Bool) → flag b ≡ 1 → b ≡ true
flag_go true e = refl
flag_go false e = absurd (omega (arith, e))

pub left_go : (j : Job) (cells cs old : List ℕ) → (place j cells cs).refusal ≡ 0 → go_in (placed_left j cells cs old) ≡ 1 → MapHolds j cells → GoMeans j cs
unfolding placed_left
left_go j cells cs old z e = go_true j cells cs (flag_go (place j cells cs).go (sym (ap go_in (accepted_is (place j cells cs).refusal (flag (place j cells cs).go ∷ (place j cells cs).clamp ∷ (place j cells cs).column ∷ (place j cells cs).row ∷ []) old z)) ∙ e))
