-- A block drawn in quarters: what a quarter needs, and that four of them make the block. Assumes nothing.
use mathlib.Core.Path.{◌≡◌, sym, ap, ◌∙◌}
use mathlib.Core.List.{List}
use Prim.Native.Nat.{ℕ, zero, suc, ◌+◌, ◌*◌, ◌/◌, ◌^◌, ◌≤◌, ◌<◌}
use native.Mathlib.Nat.{pow-succ'}
use native.Mathlib.Omega.{arith}
use lib.Pow.{pow_pos}
use lib.IntN.{ℤ}
use lib.ListN.{length, get_or, take, length-take}
use Rattle.inheritance.specs.Edges.{opened}
use Rattle.open_edges.specs.Starts.{StillOpen}
use Rattle.filling.specs.Squares.{In, over, Drawn}
use Rattle.filling.specs.Quarters.{quarters, over_agree}
use Rattle.columns.specs.declared.Frame.{Frame}
use Rattle.drawing.specs.declared.Block.{Block}
use Rattle.drawing.specs.Letters.{asked}
use Rattle.drawing.specs.Ready.{PowerOfTwo, Ready}

-- ---- half of a side
pub record Halved (w : ℕ) : Type 0 where
  pub power : PowerOfTwo (w / 2)
  pub whole : w ≡ 2 * (w / 2)
  pub less : w / 2 < w

halve : (l w : ℕ) → w ≡ 2 ^ l → (w ≡ 1 → ⊥) → Halved w
halve zero w e n = absurd (n e)
halve (suc l) w e n =
    let d : w ≡ 2 * 2 ^ l = e ∙ pow-succ' 2 l in
    let h : w / 2 ≡ 2 ^ l = omega arith in
    record { power = record { level = l; is = h }; whole = omega arith; less = omega (arith, pow_pos l) }

pub halved : (w : ℕ) → PowerOfTwo w → (w ≡ 1 → ⊥) → Halved w
halved w p n = halve p.level w p.is n

-- ---- a quarter with the trees that are still open
pub ready_quarter : {store : List ℤ} {list : List ℕ} {f : Frame} {b : Block} (p : Ready store list f b) (keep : List ℕ) (kept : ℕ) → StillOpen (asked f b.c b.r b.w) store list (length list) kept keep → (x y h : ℕ) → PowerOfTwo h → x + h ≤ f.n → y + h ≤ f.n → Ready store (take kept keep) f (record { c = x; r = y; w = h })
ready_quarter {f = f} {b = b} p keep kept s x y h q hx hy = record {
  few = omega (arith, s.fewer, p.few, length-take kept keep);
  trees = record { trees = opened (asked f b.c b.r b.w) p.trees.trees; starts = s.still p.trees.trees p.trees.starts };
  frame_sized = p.frame_sized;
  power = q;
  columns_fit = hx;
  rows_fit = hy;
}

-- ---- a square that was drawn one way was drawn the other, where both agree in it
pub drawn_agree : (n : ℕ) (new old : List ℕ) (g k : ℕ → ℕ → ℕ) (c r w : ℕ) → Drawn n new old (over g c r w) → ((i j : ℕ) → In c r w i j → g i j ≡ k i j) → Drawn n new old (over k c r w)
drawn_agree n new old g k c r w d e = record {
  cells = λ i j i<. d.cells i j i< ∙ over_agree g k c r w i j (get_or old (j * n + i) 0) (e i j);
}

-- four quarters, one after the other
pub drawn_quarters : (n : ℕ) (old m₁ m₂ m₃ new : List ℕ) (g : ℕ → ℕ → ℕ) (c r w h : ℕ) → w ≡ 2 * h → Drawn n m₁ old (over g c r h) → Drawn n m₂ m₁ (over g (c + h) r h) → Drawn n m₃ m₂ (over g c (r + h) h) → Drawn n new m₃ (over g (c + h) (r + h) h) → Drawn n new old (over g c r w)
drawn_quarters n old m₁ m₂ m₃ new g c r w h e d₁ d₂ d₃ d₄ = record {
  cells = λ i j i<.
      d₄.cells i j i<
      ∙ ap (λ x. over g (c + h) (r + h) h i j x) (d₃.cells i j i< ∙ ap (λ x. over g c (r + h) h i j x) (d₂.cells i j i< ∙ ap (λ x. over g (c + h) r h i j x) (d₁.cells i j i<)))
      ∙ quarters g c r h i j (get_or old (j * n + i) 0)
      ∙ ap (λ v. over g c r v i j (get_or old (j * n + i) 0)) (sym e);
}
