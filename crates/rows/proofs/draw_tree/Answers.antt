-- Each turn is a law of `Loops`.
use Rattle.std.proofs.Common.{◌≤◌, refl, ◌∙◌, length-drop, mul-le-mul_right, arith}
use Rattle.integers.specs.Signed.{back}
use Rattle.subtrees.specs.Preorder.{tail}
use Rattle.rows.proofs.Deep.{y_made, kept_y_made}
use Rattle.rows.proofs.Narrows.{leaf_drawn}
use Rattle.rows.proofs.Loops.{started, finished, front, counted, strip_fits, view_fits, subtree, low, gone, done, deeper}
use Rattle.rows.proofs.draw_tree.Goals as goal

pub loop-at-init : goal.loop-at-init
loop-at-init c = started c.args.frame c.args.high c.args.part.now c.args.map.now c.args.levels.now c.requires.ready.3 c.requires.ready.4

pub count_at-n-requires-clause-sign : goal.count_at-n-requires-clause-sign
count_at-n-requires-clause-sign c = counted c.loop-at.invariant c.loop-at-test.true c.level_at-d.ensures.last c.requires.tree

pub view_of-v-requires : goal.view_of-v-requires
view_of-v-requires c =
    rw (tail c.loop-at.at c.args.part.now)
    (record { sizes = (omega (arith, front c.loop-at.invariant c.loop-at-test.true c.level_at-d.ensures.last c.requires.tree, length-drop c.loop-at.at c.args.part.now), strip_fits c.loop-at.invariant c.loop-at-test.true c.level_at-d.ensures.last c.requires.tree, c.requires.ready.0) })

pub overflow_add-v : goal.overflow_add-v
overflow_add-v c =
    let f = c.args.frame in
    let s = c.requires.ready.0 in
    let v = c.view_of-v.result in
    let is = rw (tail c.loop-at.at c.args.part.now) at c.view_of-v.ensures.view in
    let fits = view_fits c.loop-at.invariant c.loop-at-test.true c.level_at-d.ensures.last c.requires.tree v s is in
    (kept_y_made v f fits s).fits

pub reached-requires : goal.reached-requires
reached-requires c =
    let f = c.args.frame in
    let s = c.requires.ready.0 in
    let v = c.view_of-v.result in
    let is = rw (tail c.loop-at.at c.args.part.now) at c.view_of-v.ensures.view in
    let fits = view_fits c.loop-at.invariant c.loop-at-test.true c.level_at-d.ensures.last c.requires.tree v s is in
    let e = kept_y_made v f fits s in
    rw (back (y_made v f fits s), back e) (record { sizes = (fits.y_size, omega (arith, e.within), s) })

pub overflow_mul-end : goal.overflow_mul-end
overflow_mul-end c = omega (arith, subtree c.loop-at.invariant c.loop-at-test.true c.level_at-d.ensures.last c.requires.tree c.count_at-n.result c.count_at-n.ensures.element)

pub overflow_add-end : goal.overflow_add-end
overflow_add-end c = omega (arith, subtree c.loop-at.invariant c.loop-at-test.true c.level_at-d.ensures.last c.requires.tree c.count_at-n.result c.count_at-n.ensures.element)

pub loop-at-smaller-then-rows : goal.loop-at-smaller-then-rows
loop-at-smaller-then-rows c = omega (arith, subtree c.loop-at.invariant c.loop-at-test.true c.level_at-d.ensures.last c.requires.tree c.count_at-n.result c.count_at-n.ensures.element)

pub loop-at-preserved-then-rows : goal.loop-at-preserved-then-rows
loop-at-preserved-then-rows c =
    let f = c.args.frame in
    let s = c.requires.ready.0 in
    let v = c.view_of-v.result in
    let is = rw (tail c.loop-at.at c.args.part.now) at c.view_of-v.ensures.view in
    let fits = view_fits c.loop-at.invariant c.loop-at-test.true c.level_at-d.ensures.last c.requires.tree v s is in
    let near = rw (back (y_made v f fits s), back (kept_y_made v f fits s)) at c.reached.ensures.near in
    let few : c.meet-rows.result.hi ≤ c.args.high = omega (arith, c.meet-rows.ensures.inner, c.loop-at.invariant.most c.level_at-d.result) in
    gone c.loop-at.invariant c.loop-at-test.true c.level_at-d.ensures.last s c.requires.ready.1 v is c.reached.result c.meet-rows.result near c.meet-rows.ensures.shared few c.count_at-n.result c.count_at-n.ensures.element c.if-rows.true refl

pub paint_open-requires : goal.paint_open-requires
paint_open-requires c =
    let f = c.args.frame in
    let s = c.requires.ready.0 in
    let v = c.view_of-v.result in
    let is = rw (tail c.loop-at.at c.args.part.now) at c.view_of-v.ensures.view in
    let fits = view_fits c.loop-at.invariant c.loop-at-test.true c.level_at-d.ensures.last c.requires.tree v s is in
    let near = rw (back (y_made v f fits s), back (kept_y_made v f fits s)) at c.reached.ensures.near in
    let few : c.meet-rows.result.hi ≤ c.args.high = omega (arith, c.meet-rows.ensures.inner, c.loop-at.invariant.most c.level_at-d.result) in
    let p = c.visit in
    record { ready = (p.ensures.kept.fits, omega (arith, low c.loop-at.invariant c.loop-at-test.true c.level_at-d.ensures.last), omega (arith, few, c.requires.ready.1, s.n_size), omega (arith, p.auto.map, c.loop-at.invariant.whole, c.requires.ready.2, mul-le-mul_right f.n few)) }

pub loop-at-preserved-then-n-eq1 : goal.loop-at-preserved-then-n-eq1
loop-at-preserved-then-n-eq1 c =
    let f = c.args.frame in
    let s = c.requires.ready.0 in
    let v = c.view_of-v.result in
    let is = rw (tail c.loop-at.at c.args.part.now) at c.view_of-v.ensures.view in
    let fits = view_fits c.loop-at.invariant c.loop-at-test.true c.level_at-d.ensures.last c.requires.tree v s is in
    let near = rw (back (y_made v f fits s), back (kept_y_made v f fits s)) at c.reached.ensures.near in
    let few : c.meet-rows.result.hi ≤ c.args.high = omega (arith, c.meet-rows.ensures.inner, c.loop-at.invariant.most c.level_at-d.result) in
    let p = c.visit in
    let q = c.paint_open in
    done c.loop-at.invariant c.loop-at-test.true c.level_at-d.ensures.last s c.requires.ready.1 v is c.reached.result c.meet-rows.result near c.meet-rows.ensures.shared few c.count_at-n.result c.count_at-n.ensures.element q.new.map p.new.levels (q.auto.map ∙ p.auto.map) p.ensures.kept (leaf_drawn p.ensures.cells p.ensures.kept q.ensures.cells) c.if-n-eq1.true refl

pub visit-requires : goal.visit-requires
visit-requires c =
    let f = c.args.frame in
    let s = c.requires.ready.0 in
    let v = c.view_of-v.result in
    let is = rw (tail c.loop-at.at c.args.part.now) at c.view_of-v.ensures.view in
    let fits = view_fits c.loop-at.invariant c.loop-at-test.true c.level_at-d.ensures.last c.requires.tree v s is in
    let near = rw (back (y_made v f fits s), back (kept_y_made v f fits s)) at c.reached.ensures.near in
    let few : c.meet-rows.result.hi ≤ c.args.high = omega (arith, c.meet-rows.ensures.inner, c.loop-at.invariant.most c.level_at-d.result) in
    record { ready = (c.loop-at.invariant.fits, omega (arith, c.loop-at.invariant.whole, c.requires.ready.2, mul-le-mul_right f.n few)) }

pub loop-at-preserved : goal.loop-at-preserved
loop-at-preserved c =
    let f = c.args.frame in
    let s = c.requires.ready.0 in
    let v = c.view_of-v.result in
    let is = rw (tail c.loop-at.at c.args.part.now) at c.view_of-v.ensures.view in
    let fits = view_fits c.loop-at.invariant c.loop-at-test.true c.level_at-d.ensures.last c.requires.tree v s is in
    let near = rw (back (y_made v f fits s), back (kept_y_made v f fits s)) at c.reached.ensures.near in
    let few : c.meet-rows.result.hi ≤ c.args.high = omega (arith, c.meet-rows.ensures.inner, c.loop-at.invariant.most c.level_at-d.result) in
    let p = c.visit in
    deeper c.loop-at.invariant c.loop-at-test.true c.level_at-d.ensures.last s c.requires.ready.1 v is c.reached.result c.meet-rows.result near c.meet-rows.ensures.shared few c.count_at-n.result c.count_at-n.ensures.element p.new.map p.new.levels p.auto.map p.ensures.kept c.requires.tree p.ensures.cells c.if-n-eq1.false refl refl refl

pub returns-clause-letters : goal.returns-clause-letters
returns-clause-letters c = finished c.args.frame c.args.high c.args.part.now c.args.map.now c.loop-at.map c.loop-at.levels c.loop-at.bands c.loop-at.d c.loop-at.at c.loop-at.invariant c.loop-at-test.false

pub invariant_of-node : goal.invariant_of-node
invariant_of-node c =
    let f = c.args.frame in
    let s = c.requires.ready.0 in
    let v = c.view_of-v.result in
    let is = rw (tail c.loop-at.at c.args.part.now) at c.view_of-v.ensures.view in
    let fits = view_fits c.loop-at.invariant c.loop-at-test.true c.level_at-d.ensures.last c.requires.tree v s is in
    let near = rw (back (y_made v f fits s), back (kept_y_made v f fits s)) at c.reached.ensures.near in
    let few : c.meet-rows.result.hi ≤ c.args.high = omega (arith, c.meet-rows.ensures.inner, c.loop-at.invariant.most c.level_at-d.result) in
    record { view_sized = fits; frame_sized = s; shallow = omega (arith, low c.loop-at.invariant c.loop-at-test.true c.level_at-d.ensures.last); few = omega (arith, few, c.requires.ready.1) }
