-- The tree's part is found by its count.
use native.Mathlib.Omega.{arith}
use Rattle.subtrees.specs.At.{front, Here, here}
use Rattle.open_edges.proofs.ask.Goals as goal

known : (c : goal.After-count_at-nodes) → Here c.args.store.now c.args.a c.count_at-nodes.result c.requires.held.0.tree
known c = here c.args.store.now c.args.a c.count_at-nodes.result c.requires.held.0.tree c.requires.held.0.at c.count_at-nodes.ensures.element

pub overflow_add-a : goal.overflow_add-a
overflow_add-a c = omega (arith, (front c.args.store.now c.args.a c.requires.held.0.tree c.requires.held.0.at).0)

pub count_at-nodes-requires : goal.count_at-nodes-requires
count_at-nodes-requires c =
    let f = front c.args.store.now c.args.a c.requires.held.0.tree c.requires.held.0.at in
    record { within = f.0; sign = f.1 }

pub overflow_mul-nodes : goal.overflow_mul-nodes
overflow_mul-nodes c = omega (arith, (known c).long)

pub overflow_add-a-2 : goal.overflow_add-a-2
overflow_add-a-2 c = omega (arith, (known c).long)

pub offset_bounds-store-a : goal.offset_bounds-store-a
offset_bounds-store-a c = omega (arith, (known c).long)

pub slice_bounds-search-end : goal.slice_bounds-search-end
slice_bounds-search-end c = omega (arith, (known c).long)

pub search-requires : goal.search-requires
search-requires c =
    let a = c.requires.held.0 in
    let k = here c.args.store.now c.args.a c.count_at-nodes.result a.tree a.at c.count_at-nodes.ensures.element in
    record { held = (record { tree = a.tree; is = k.part; sized = a.at.sized }, c.requires.held.1) }

pub returns : goal.returns
returns c = record {
  answer = λ t h. c.search.ensures.answer t h.sized (here c.args.store.now c.args.a c.count_at-nodes.result t h c.count_at-nodes.ensures.element).part;
}
