use Rattle.std.proofs.Common.{ap, ◌∙◌, ◌<◌, ◌^◌, List, ℤ, set, to_z, arith}
use Rattle.std.specs.Int.{w32}
use Rattle.std.proofs.lemmas.Int.{to_z_pos}
use Rattle.nodes.specs.Places.{count_place, with_side, with_span, written, put_is}
use Rattle.nodes.specs.Structs.{side, span}
use Rattle.nodes.proofs.put.Goals as goal

-- both coordinates of the strip, then the count, then both of the box
pub returns : goal.returns
returns c =
    let s = c.args.strip in
    let b = c.args.upright in
    let h : c.args.nodes < 2 ^ 31 = omega (arith, c.requires.sizes.3) in
    let first = c.put_side-2.ensures.written ∙ ap (λ (l : List ℤ). with_side l 1 (side s.y)) c.put_side.ensures.written in
    let counted = ap (λ (l : List ℤ). with_span (set l count_place (to_z w32 c.args.nodes)) 0 (span b.x)) first in
    let all = c.put_span-2.ensures.written ∙ ap (λ (l : List ℤ). with_span l 1 (span b.y)) (c.put_span.ensures.written ∙ counted) in
    record {
      written = all
          ∙ ap (λ (z : ℤ). written c.args.s.now (side s.x) (side s.y) z (span b.x) (span b.y)) (to_z_pos w32 c.args.nodes h)
          ∙ put_is c.args.s.now (side s.x) (side s.y) c.args.nodes (span b.x) (span b.y) c.requires.sizes.0;
    }
