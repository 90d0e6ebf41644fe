-- The tree's part is found by its count.
use Rattle.std.proofs.Common.{arith}
use Rattle.subtrees.specs.At.{front, here}
use Rattle.drawing.proofs.draw_at.Goals as goal

pub overflow_add-a : goal.overflow_add-a
overflow_add-a c = omega (arith, (front c.args.store.now c.args.a c.requires.tree.tree c.requires.tree.at).0)

pub count_at-size-requires-clause-within : goal.count_at-size-requires-clause-within
count_at-size-requires-clause-within c = (front c.args.store.now c.args.a c.requires.tree.tree c.requires.tree.at).0

pub count_at-size-requires-clause-sign : goal.count_at-size-requires-clause-sign
count_at-size-requires-clause-sign c = (front c.args.store.now c.args.a c.requires.tree.tree c.requires.tree.at).1

pub overflow_mul-size : goal.overflow_mul-size
overflow_mul-size c = omega (arith, (here c.args.store.now c.args.a c.count_at-size.result c.requires.tree.tree c.requires.tree.at c.count_at-size.ensures.element).long)

pub overflow_add-a-2 : goal.overflow_add-a-2
overflow_add-a-2 c = omega (arith, (here c.args.store.now c.args.a c.count_at-size.result c.requires.tree.tree c.requires.tree.at c.count_at-size.ensures.element).long)

pub offset_bounds-store-a : goal.offset_bounds-store-a
offset_bounds-store-a c = omega (arith, (here c.args.store.now c.args.a c.count_at-size.result c.requires.tree.tree c.requires.tree.at c.count_at-size.ensures.element).long)

pub slice_bounds-draw_tree-end : goal.slice_bounds-draw_tree-end
slice_bounds-draw_tree-end c = omega (arith, (here c.args.store.now c.args.a c.count_at-size.result c.requires.tree.tree c.requires.tree.at c.count_at-size.ensures.element).long)

pub draw_tree-requires-clause-tree : goal.draw_tree-requires-clause-tree
draw_tree-requires-clause-tree c =
    let t = c.requires.tree in
    record { tree = t.tree; is = (here c.args.store.now c.args.a c.count_at-size.result t.tree t.at c.count_at-size.ensures.element).part; sized = t.at.sized; shallow = t.shallow }

pub returns-clause-letters : goal.returns-clause-letters
returns-clause-letters c t h w = c.draw_tree.ensures.letters t h.sized w (here c.args.store.now c.args.a c.count_at-size.result t h c.count_at-size.ensures.element).part
