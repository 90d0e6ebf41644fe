-- A settled block is filled, and any other is drawn in quarters.
use Rattle.std.proofs.Common.{◌≡◌, List, ℕ, ◌+◌, ◌*◌, ◌/◌, ◌≤◌, ◌<◌, ℤ, length, take, arith, subst}
use Rattle.filling.specs.Squares.{over, Drawn}
use native.Mathlib.Nat.{le_trans, mul-le-mul_right}
use Rattle.model.specs.Trees.{Tree}
use Rattle.inheritance.specs.Edges.{opened, opened_inherits}
use Rattle.open_edges.specs.Starts.{StillOpen}
use Rattle.columns.specs.declared.Frame.{Frame}
use Rattle.drawing.specs.declared.Block.{Block}
use Rattle.drawing.specs.Letters.{way_of, asked, own_letter}
use Rattle.drawing.specs.Ready.{Ready}
use Rattle.drawing.proofs.Settles.{letter_open}
use Rattle.drawing.proofs.Quartered.{Halved, halved, ready_quarter, drawn_agree, drawn_quarters}
use Rattle.drawing.proofs.+draw.Goals as goal

-- the rows of a part lie within those of the block
space : (y h e n l : ℕ) → y + h ≤ e → e * n ≤ l → (y + h) * n ≤ l
space y h e n l k f = le_trans (mul-le-mul_right n k) f

-- what was drawn into a block, named by its numbers
drawn : (g : ℕ → ℕ → ℕ) {n : ℕ} {new old : List ℕ} {q b : Block} → q ≡ b → Drawn n new old (over g q.c q.r q.w) → Drawn n new old (over g b.c b.r b.w)
drawn g {n} {new} {old} e d = subst (λ (b : Block). Drawn n new old (over g b.c b.r b.w)) e d

-- a block that is not settled, with the trees that are kept
module _ {store : List ℤ} {list keep : List ℕ} {kept : ℕ} {f : Frame} {b : Block} (ready : Ready store list f b) (rest : (b.w ≡ 1 → ⊥) × StillOpen (asked f b.c b.r b.w) store list (length list) kept keep) where
  halves : Halved b.w
  halves = halved b.w ready.power rest.0

  -- what drawing its quarter at column x and row y asks for, with room for the block's rows
  quarter : {t room : ℕ} → b.w ≡ t → (b.r + b.w) * f.n ≤ room → (x y : ℕ) → x + b.w / 2 ≤ b.c + b.w → y + b.w / 2 ≤ b.r + b.w → {q : Block} → q ≡ record { c = x; r = y; w = b.w / 2 } → (q.w < t) × (Ready store (take kept keep) f q × ((q.r + q.w) * f.n ≤ room))
  quarter {t} {room} m s x y hx hy e =
      rw e (
        omega (arith, m, halves.less),
        (ready_quarter ready keep kept rest.1 x y (b.w / 2) halves.power (omega (arith, hx, ready.columns_fit)) (omega (arith, hy, ready.rows_fit)), space y (b.w / 2) (b.r + b.w) f.n room hy s),
      )

pub draw-requires : goal.draw-requires
draw-requires t c =
    let b = c.args.block in
    let p = c.requires.ready in
    let rest = c.in-Open.ensures.told in
    let h = halves p rest in
    quarter p rest c.decreases c.requires.space b.c b.r (omega (arith, h.whole)) (omega (arith, h.whole)) c.quarter.ensures.quarter

pub draw-requires-in-Open : goal.draw-requires-in-Open
draw-requires-in-Open t c =
    let b = c.args.block in
    let p = c.requires.ready in
    let rest = c.in-Open.ensures.told in
    let h = halves p rest in
    quarter p rest c.decreases (omega (arith, c.requires.space, c.draw.auto.map)) (b.c + b.w / 2) b.r (omega (arith, h.whole)) (omega (arith, h.whole)) c.quarter-in-Open.ensures.quarter

pub draw-requires-in-Open-2 : goal.draw-requires-in-Open-2
draw-requires-in-Open-2 t c =
    let b = c.args.block in
    let p = c.requires.ready in
    let rest = c.in-Open.ensures.told in
    let h = halves p rest in
    quarter p rest c.decreases (omega (arith, c.requires.space, c.draw.auto.map, c.draw-in-Open.auto.map)) b.c (b.r + b.w / 2) (omega (arith, h.whole)) (omega (arith, h.whole)) c.quarter-in-Open-2.ensures.quarter

pub draw-requires-in-Open-3 : goal.draw-requires-in-Open-3
draw-requires-in-Open-3 t c =
    let b = c.args.block in
    let p = c.requires.ready in
    let rest = c.in-Open.ensures.told in
    let h = halves p rest in
    quarter p rest c.decreases (omega (arith, c.requires.space, c.draw.auto.map, c.draw-in-Open.auto.map, c.draw-in-Open-2.auto.map)) (b.c + b.w / 2) (b.r + b.w / 2) (omega (arith, h.whole)) (omega (arith, h.whole)) c.quarter-in-Open-3.ensures.quarter

pub returns-in-Open : goal.returns-in-Open
returns-in-Open t c = record {
  letters = λ ts h each.
      let a = c.args in
      let b = a.block in
      let p = c.requires.ready in
      let rest = c.in-Open.ensures.told in
      let us : List Tree = opened (asked a.frame b.c b.r b.w) ts in
      let hu = rest.1.still ts h in
      let eu = opened_inherits (way_of a.frame) (asked a.frame b.c b.r b.w) ts each in
      drawn_agree a.frame.n c.draw-in-Open-3.new.map a.map.now (own_letter a.frame us) (own_letter a.frame ts) b.c b.r b.w
      (drawn_quarters a.frame.n a.map.now c.draw.new.map c.draw-in-Open.new.map c.draw-in-Open-2.new.map c.draw-in-Open-3.new.map (own_letter a.frame us) b.c b.r b.w (b.w / 2) (halves p rest).whole
      (drawn (own_letter a.frame us) c.quarter.ensures.quarter (c.draw.ensures.letters us hu eu)) (drawn (own_letter a.frame us) c.quarter-in-Open.ensures.quarter (c.draw-in-Open.ensures.letters us hu eu)) (drawn (own_letter a.frame us) c.quarter-in-Open-2.ensures.quarter (c.draw-in-Open-2.ensures.letters us hu eu)) (drawn (own_letter a.frame us) c.quarter-in-Open-3.ensures.quarter (c.draw-in-Open-3.ensures.letters us hu eu)))
      (λ i j m. letter_open a.frame p.frame_sized.q_nonneg ts each b.c b.r b.w i j m);
}
