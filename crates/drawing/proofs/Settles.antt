-- The letter of a block that its open trees settle is the letter of each of its cells. Assumes nothing.
use mathlib.Core.Path.{◌≡◌, refl, sym, ap, ◌∙◌}
use mathlib.Core.List.{List}
use Prim.Native.Nat.{ℕ, ◌+◌, ◌≤◌, ◌<◌}
use native.Mathlib.Omega.{arith}
use lib.Dec.{T}
use lib.Signed.{non_neg}
use Rattle.model.specs.Trees.{Tree}
use Rattle.model.specs.Explore.{Answer, inside, away, maybe, explore_all}
use Rattle.model.specs.Plates.{doubtful, letter, settled}
use Rattle.inheritance.specs.Parts.{PartOf}
use Rattle.inheritance.specs.Edges.{EachInherits, opened, leave_out, part_settled}
use Rattle.inheritance.specs.Blocks.{block, block_part}
use Rattle.integers.specs.Signed.{nonneg}
use Rattle.filling.specs.Squares.{In}
use Rattle.columns.specs.declared.Frame.{Frame}
use Rattle.drawing.specs.Letters.{way_of, asked, own_letter}

module _ (f : Frame) (hq : T (non_neg f.q)) (ts : List Tree) (each : EachInherits (way_of f) ts) (c r w i j : ℕ) (h : In c r w i j) where
  part : PartOf (block f.x f.y f.q i j 1) (block f.x f.y f.q c r w)
  part = block_part f.x f.y f.q c r w i j (nonneg f.q hq) h.left h.right h.low h.high

  same : (a : Answer) → explore_all (asked f c r w) ts ≡ a → letter (settled a (settled (explore_all (asked f i j 1) ts) doubtful)) ≡ own_letter f ts i j
  same a e = ap letter (part_settled (way_of f) (block f.x f.y f.q c r w) (block f.x f.y f.q i j 1) part ts each a e _ refl)

  pub letter_inside : explore_all (asked f c r w) ts ≡ inside → 73 ≡ own_letter f ts i j
  letter_inside e = same inside e

  pub letter_away : explore_all (asked f c r w) ts ≡ away → 67 ≡ own_letter f ts i j
  letter_away e = same away e

  pub letter_maybe : w ≡ 1 → explore_all (asked f c r w) ts ≡ maybe → 68 ≡ own_letter f ts i j
  letter_maybe o e = ap (λ a. letter (settled a doubtful)) (sym e ∙ at w c r o (first c i w o h.left h.right) (first r j w o h.low h.high))
    where
      first : (c i w : ℕ) → w ≡ 1 → c ≤ i → i < c + w → c ≡ i
      first c i w o h k = omega arith

      at : (w c r : ℕ) → w ≡ 1 → c ≡ i → r ≡ j → explore_all (asked f c r w) ts ≡ explore_all (asked f i j 1) ts
      at w c r o p q = ap (λ n. explore_all (asked f c r n) ts) o ∙ ap (λ n. explore_all (asked f n r 1) ts) p ∙ ap (λ n. explore_all (asked f i n 1) ts) q

  -- the trees that are left out do not count
  pub letter_open : own_letter f (opened (asked f c r w) ts) i j ≡ own_letter f ts i j
  letter_open = ap (λ a. letter (settled a doubtful)) (leave_out (way_of f) (block f.x f.y f.q c r w) (block f.x f.y f.q i j 1) part ts each)
