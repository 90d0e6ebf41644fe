-- What the lookup finds is what the model defines. Assumes nothing.
use Rattle.std.proofs.Common.{◌≡◌, ◌<◌, ◌^◌, pos, arith, rules, sym, ap, ◌∙◌, subst, SFits, w64, to_z, to_z-of_z}
use borrow.Author.Tests.{lt-ltb}
use Rattle.model.specs.Promises.{FoundBy}
use Rattle.skipping.specs.Lookups.{lookup_is}
use Rattle.many_points.specs.Replies.{named_few}
use Rattle.many_points.proofs.Writing.{three_eq}
use Rattle.many_points.proofs.answer.Goals as goal

pub overflow_cast-result : goal.overflow_cast-result
overflow_cast-result c =
    let r = c.requires in
    let t = r.held.0 in
    let e = simp (to_z-of_z, c.ranges.x, c.ranges.y) at (c.nearest-found.ensures.found t.trees t.holds) in
    let f = subst (FoundBy t.trees c.args.x c.args.y) (sym e) (lookup_is t.trees c.args.x c.args.y (omega (arith, t.holds.many, r.held.1)) t.holds.sized r.point.0 r.point.1) in
    record { sfits = omega (arith, f.edge_is, named_few t.trees c.args.x c.args.y, t.holds.many, r.held.2) }

pub returns : goal.returns
returns c = record {
  told = λ ts h.
      let r = c.requires in
      let e = simp (to_z-of_z, c.ranges.x, c.ranges.y) at (c.nearest-found.ensures.found ts h) in
      let f = subst (FoundBy ts c.args.x c.args.y) (sym e) (lookup_is ts c.args.x c.args.y (omega (arith, h.many, r.held.1)) h.sized r.point.0 r.point.1) in
      let l : SFits w64 c.nearest-found.result.lo = search rules in
      let u : SFits w64 c.nearest-found.result.hi = search rules in
      let few : c.nearest-found.result.edge < 2 ^ 63 = omega (arith, f.edge_is, named_few ts c.args.x c.args.y, h.many, r.held.2) in
      let n : to_z w64 c.nearest-found.result.edge ≡ pos c.nearest-found.result.edge = rw (lt-ltb c.nearest-found.result.edge (2 ^ 63) few) in
      three_eq (to_z-of_z l ∙ f.lo_is) (to_z-of_z u ∙ f.hi_is) (n ∙ ap pos f.edge_is);
}
