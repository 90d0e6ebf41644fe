use Rattle.std.proofs.Common.{sym, ap, ◌∙◌, ◌<◌, ◌^◌, to_z, arith}
use Rattle.std.proofs.lemmas.Int.{to_z_pos}
use Rattle.std.specs.Int.{w64}
use Rattle.integers.specs.Signed.{read64}
use Rattle.strip_trees.proofs.Same.{boxes}
use Rattle.strip_trees.proofs.stands.Goals as goal

pub returns-then-count-nodes : goal.returns-then-count-nodes
returns-then-count-nodes c =
    let d = boxes c.upright_at.result c.args.upright c.eq.result c.eq.ensures in
    let e = c.upright_at.ensures in
    let small : c.args.nodes < 2 ^ 63 = omega (arith, c.requires.sizes.1) in
    let n = sym c.wide_at-count.ensures.element ∙ sym (read64 c.wide_at-count.result c.wide_at-count.type_inv) ∙ ap (to_z w64) c.if-count-nodes.true ∙ to_z_pos w64 c.args.nodes small in
    record { told = ((λ h. (n, sym e ∙ d.0 h)), (λ w. d.1 (e ∙ w.1))) }
