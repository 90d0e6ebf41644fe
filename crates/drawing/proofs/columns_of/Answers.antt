-- N and M as they are read: N - M is at most 8.
use mathlib.Core.Path.{◌≡◌, ap, ◌∙◌}
use Prim.Native.Nat.{ℕ, ◌-◌, ◌*◌, ◌%◌, ◌^◌}
use native.Mathlib.Omega.{arith}
use lib.IntN.{nat_abs}
use Rattle.model.specs.declared.Job.{Job}
use Rattle.model.specs.Jobs.{judge, plate_log, cell_log}
use Rattle.model.specs.Plates.{columns}
use Rattle.drawing.proofs.Maps.{job_numbers, columns_few, levels_fit, levels_read, shifted}
use Rattle.drawing.proofs.columns_of.Goals as goal

side_is : (j : Job) → judge j ≡ 0 → {k : ℕ} → k ≡ plate_log j - cell_log j → (1 * 2 ^ k) % 2 ^ 64 ≡ columns j
side_is j good {k} e = rw e (shifted 1 (plate_log j - cell_log j) 256 (omega (arith, columns_few j good)) (omega arith) ∙ omega arith)

pub overflow_sub-result : goal.overflow_sub-result
overflow_sub-result c = levels_fit c.args.job c.requires.legal

pub overflow_shl-result : goal.overflow_shl-result
overflow_shl-result c = rw (levels_read c.args.job c.requires.legal) (omega (arith, (job_numbers c.args.job c.requires.legal).few))

pub overflow_cast-result : goal.overflow_cast-result
overflow_cast-result c = rw (levels_read c.args.job c.requires.legal) (tt, omega (arith, (job_numbers c.args.job c.requires.legal).few))

pub returns : goal.returns
returns c =
    let e = side_is c.args.job c.requires.legal (ap nat_abs (levels_read c.args.job c.requires.legal)) in
    record { side = e; few = rw e (columns_few c.args.job c.requires.legal) }
