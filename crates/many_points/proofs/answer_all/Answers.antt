-- Each turn is a law of `Writing`. Assumes nothing.
use Rattle.std.proofs.Common.{◌≤◌, ◌*◌, ◌+◌, refl, arith, ap, ap₂, ◌∙◌, sym, length, length-drop, to_z, of_z, w32, ℤ}
use Rattle.model.specs.Entries.{over, replies, spots_in}
use Rattle.many_points.proofs.Writing as writing
use Rattle.many_points.proofs.Writing.{three}
use Rattle.many_points.proofs.answer_all.Goals as goal

pub loop-k-init : goal.loop-k-init
loop-k-init c =
    let s = c.enumerate-k-items.ensures.source in
    rw (c.into_iter-k-iterator.ensures.into_iter_gives, c.enumerate-k-items.ensures.count, s) (record { pairs = c.chunks_exact.ensures.size; left = c.chunks_exact.ensures.rest; told = λ ts h. refl })

pub loop-k-preserved : goal.loop-k-preserved
loop-k-preserved c =
    let s = c.args.spots.now in
    let v = c.loop-k.invariant in
    let n = c.in-Some.ensures.steps in
    let k = c.loop-k.k-iterator.count in
    let x = c.in-Some.spot.now in
    let two = n.0.1.1 ∙ v.pairs in
    let h = writing.cut_there s k x _ v.left n.0.1.0 two in
    let b = writing.cut_behind s k x _ v.left n.0.1.0 two in
    let e = c.requires.points.0 in
    let p = ap (λ (z : ℤ). to_z w32 (of_z w32 z)) (writing.cut_x s k x _ v.left n.0.1.0 two) ∙ writing.number_read s (2 * k) e (omega (arith, h)) in
    let q = ap (λ (z : ℤ). to_z w32 (of_z w32 z)) (writing.cut_y s k x _ v.left n.0.1.0 two) ∙ writing.number_read s (2 * k + 1) e (omega (arith, h)) in
    record {
      pairs = n.0.0 ∙ v.pairs;
      left = rw n.2 b;
      told = λ ts w. rw (n.2, n.1) (writing.one_more ts s c.loop-k.reply _ k h (omega (arith, c.requires.room)) (c.copy_from_slice.ensures.after ∙ c.answer.ensures.told ts w ∙ ap₂ (three ts) p q) (over (replies ts s) c.args.reply.now) (v.told ts w));
    }

pub returns : goal.returns
returns c = record {
  told = λ ts h.
      let v = c.loop-k.invariant in
      let n = c.in-None.ensures.steps in
      let done : spots_in c.args.spots.now ≤ c.loop-k.k-iterator.count = omega (arith, n.0.1.0, v.pairs, ap length v.left, length-drop (2 * c.loop-k.k-iterator.count) c.args.spots.now) in
      sym (v.told ts h ∙ writing.all_written ts c.args.spots.now c.loop-k.reply c.loop-k.k-iterator.count done);
}
