-- The job's numbers as they are read.
use mathlib.Core.Path.{◌≡◌, ap, ◌∙◌}
use Prim.Native.Nat.{ℕ, ◌+◌, ◌*◌, ◌%◌, ◌^◌, ◌≤◌}
use native.Mathlib.Omega.{arith}
use lib.IntN.{ℤ, pos, nat_abs, ◌+ℤ◌, ◌*ℤ◌}
use mir.Syntax.{w32, w64}
use mir.Val.{SFits, to_z, of_z}
use mir.Facts.{to_z-of_z}
use Rattle.integers.specs.Signed.{Made, bits, fits32, plus, back}
use Rattle.model.specs.declared.Job.{Job}
use Rattle.model.specs.Jobs.{judge, cell_log}
use Rattle.model.specs.Plates.{columns}
use Rattle.columns.specs.declared.Frame.{Frame}
use Rattle.drawing.proofs.Maps.{job_numbers, log_read, log_bits, fine_made, fine_read, unit_read, above}
use Rattle.drawing.proofs.frame_of.Goals as goal

same : {a b k l : ℕ} {x y q r x' y' q' r' : ℤ} → a ≡ b → x ≡ x' → y ≡ y' → q ≡ q' → k ≡ l → r ≡ r' → ◌≡◌ {A = Frame} (record { n = a; x = x; y = y; q = q; k = k; reach = r }) (record { n = b; x = x'; y = y'; q = q'; k = l; reach = r' })
same d e f g h i = cc

-- where the rows begin
row_at : (j : Job) → judge j ≡ 0 → {k : ℕ} → k ≤ 2 * columns j → {v : ℤ} → v ≡ pos 16 *ℤ to_z w32 (of_z w32 j.y) → Made (bits v +ℤ bits (to_z w64 k *ℤ to_z w64 ((8 * 2 ^ of_z w64 (to_z w32 (of_z w32 j.m))) % 2 ^ 64))) (pos 16 *ℤ j.y +ℤ pos k *ℤ pos (8 * 2 ^ cell_log j)) 32777216
row_at j good h {v} e = plus (fine_made v j.y e (job_numbers j good).corner_y) (above j good h) tt

row_is : (j : Job) → judge j ≡ 0 → (row : ℕ) → row ≤ columns j → {k : ℕ} → k ≡ 2 * row → {v : ℤ} → v ≡ pos 16 *ℤ to_z w32 (of_z w32 j.y) → bits (bits v +ℤ bits (to_z w64 k *ℤ to_z w64 ((8 * 2 ^ of_z w64 (to_z w32 (of_z w32 j.m))) % 2 ^ 64))) ≡ pos 16 *ℤ j.y +ℤ pos (2 * row) *ℤ pos (8 * 2 ^ cell_log j)
row_is j good row h i e = back (row_at j good (omega (arith, h, i)) e) ∙ ap (λ (k : ℕ). pos 16 *ℤ j.y +ℤ pos k *ℤ pos (8 * 2 ^ cell_log j)) i

fits : {v z : ℤ} {B : ℕ} → Made v z B → SFits w64 v
fits m = m.fits

pub overflow_shl-q : goal.overflow_shl-q
overflow_shl-q c = omega (arith, log_bits c.args.job.m (job_numbers c.args.job c.requires.legal).cell)

pub overflow_cast-result-2 : goal.overflow_cast-result-2
overflow_cast-result-2 c = let s = (job_numbers c.args.job c.requires.legal).cell in rw (log_read s) (s.nonneg, omega (arith, s.most))

pub fine-requires : goal.fine-requires
fine-requires c = let h = (job_numbers c.args.job c.requires.legal).corner_x in record { size = rw (to_z-of_z {w = w32} (fits32 h tt)) h }

pub fine-requires-2 : goal.fine-requires-2
fine-requires-2 c = let h = (job_numbers c.args.job c.requires.legal).corner_y in record { size = rw (to_z-of_z {w = w32} (fits32 h tt)) h }

pub fine-requires-3 : goal.fine-requires-3
fine-requires-3 c = let h = (job_numbers c.args.job c.requires.legal).reach.most in record { size = rw (to_z-of_z {w = w32} (fits32 h tt)) h }

pub overflow_mul-result-2 : goal.overflow_mul-result-2
overflow_mul-result-2 c = fits (above c.args.job c.requires.legal (omega (arith, c.requires.within)))

pub overflow_add-result : goal.overflow_add-result
overflow_add-result c = fits (row_at c.args.job c.requires.legal (omega (arith, c.requires.within)) c.fine-2.ensures.sixteenths)

pub returns : goal.returns
returns c =
    let j = c.args.job in
    let s = job_numbers j c.requires.legal in
    record {
      frame = same c.columns_of.ensures.side (fine_read c.fine.result j.x c.fine.ensures.sixteenths s.corner_x) (row_is j c.requires.legal c.args.row c.requires.within (omega arith) c.fine-2.ensures.sixteenths) (unit_read j c.requires.legal) (ap (λ (z : ℤ). nat_abs z + 4) (log_read s.cell)) (fine_read c.fine-3.result j.reach c.fine-3.ensures.sixteenths s.reach.most);
    }
