-- How many trees are kept tells the answer where none is inside.
use mathlib.Core.Path.{◌≡◌, subst}
use mathlib.Core.List.{List}
use Prim.Native.Nat.{ℕ, ◌≤◌}
use native.Mathlib.Omega.{arith}
use lib.IntN.{ℤ}
use lib.ListN.{length}
use Rattle.model.specs.Strips.{Strip}
use Rattle.model.specs.Trees.{Tree}
use Rattle.model.specs.Explore.{Answer, away, maybe, explore_all}
use Rattle.open_edges.specs.Starts.{Starts, AllInside, StillOpen}
use Rattle.open_edges.specs.Counts.{none_kept, some_kept}
use Rattle.drawing.proofs.Settles.{letter_inside, letter_away, letter_maybe}
use Rattle.drawing.proofs.settle.Goals as goal

-- where none is inside: the answer is away if no tree is kept, and else maybe
module _ {v : Strip → Answer} {store : List ℤ} {list keep : List ℕ} {kept : ℕ} (s : StillOpen v store list (length list) kept keep) (room : length list ≤ length keep) (ts : List Tree) (h : Starts store list ts) where
  away_is : kept ≡ 0 → explore_all v ts ≡ away
  away_is e = none_kept v keep kept ts (omega (arith, s.fewer, room)) (s.not_inside ts h) (s.still ts h) e

  maybe_is : (kept ≡ 0 → ⊥) → explore_all v ts ≡ maybe
  maybe_is e = some_kept v keep kept ts (omega (arith, s.fewer, room)) (s.not_inside ts h) (s.still ts h) (omega (arith, e))

pub returns-in-Inside : goal.returns-in-Inside
returns-in-Inside c = record {
  told = λ ts h each i j m.
      let b = c.args.block in
      let p = c.requires.ready in
      letter_inside c.args.frame p.frame_sized.q_nonneg ts each b.c b.r b.w i j m
      ((subst (λ (v : Strip → Answer). AllInside v c.args.store.now c.args.list.now) c.probe.ensures.block c.in-Inside.ensures.seen).is_inside ts h);
}

pub returns-in-Open-eq0 : goal.returns-in-Open-eq0
returns-in-Open-eq0 c = record {
  told = λ ts h each i j m.
      let b = c.args.block in
      let p = c.requires.ready in
      let s = rw c.probe.ensures.block at c.in-Open-eq0.ensures.seen in
      letter_away c.args.frame p.frame_sized.q_nonneg ts each b.c b.r b.w i j m (away_is s (omega (arith, p.few, c.explore_open.array_long)) ts h c.in-Open-eq0.field-0-test);
}

pub returns-in-Open : goal.returns-in-Open
returns-in-Open c = record {
  told = λ ts h each i j m.
      let b = c.args.block in
      let p = c.requires.ready in
      let s = rw c.probe.ensures.block at c.in-Open.ensures.seen in
      letter_maybe c.args.frame p.frame_sized.q_nonneg ts each b.c b.r b.w i j m c.if-block-eq1.true (maybe_is s (omega (arith, p.few, c.explore_open.array_long)) ts h c.in-Open.field-0-test.1);
}
