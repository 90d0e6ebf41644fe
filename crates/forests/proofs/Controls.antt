-- A number read from a job's places is a coordinate, and a mark is told by its bits. Assumes nothing.
use Rattle.std.proofs.Common.{◌≡◌, refl, ◌∙◌, true, false, not, List, ℕ, ℤ, pos, negsuc, nat_abs, ◌≤◌, get_or, to_z, of_z, to_z-of_z, FitsSigned, ne_eqb, lit<}
use Rattle.std.specs.Int.{w32, w64}
use Rattle.integers.specs.Signed.{Made, called, fits32, same32, sized}
use Rattle.model.specs.Jobs.{is_zero}
use Rattle.ranges.specs.Jobs.{Limits}
use Rattle.ranges.specs.Sizes.{control_most}

pub read : {l : List ℤ} {r : ℤ} (i : ℕ) → Limits l → r ≡ to_z w32 (of_z w32 (get_or l i (pos 0))) → Made r (get_or l i (pos 0)) 1000000
read {l} i h e = called (e ∙ to_z-of_z (fits32 (h.within i) tt)) (h.within i) tt

pub sized_at : {l : List ℤ} {r : ℤ} (i : ℕ) → Limits l → r ≡ to_z w32 (of_z w32 (get_or l i (pos 0))) → nat_abs (to_z w64 (of_z w64 r)) ≤ control_most
sized_at i h e = sized control_most (read i h e) tt

pub cubic_mark : (m : ℤ) → FitsSigned w32 m → of_z w32 m ≡ 0 → false ≡ not (is_zero m)
unfolding is_zero
cubic_mark m f e = let z : m ≡ pos 0 = same32 m (pos 0) f.sfits (lit< tt) e in rw z refl

pub line_mark : (m : ℤ) → (of_z w32 m ≡ 0 → ⊥) → true ≡ not (is_zero m)
unfolding is_zero
line_mark (pos n) h = rw (ne_eqb n 0 h) refl
line_mark (negsuc n) h = refl
