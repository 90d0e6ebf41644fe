-- An accepted question has what the lookup asks for.
use Rattle.std.proofs.Common.{sym, ap, ◌∙◌, to_z-of_z}
use Rattle.model.specs.Answers.{Nearest, as_nearest}
use Rattle.point_cases.proofs.Asked.{asked}
use Rattle.point_cases.proofs.show_answer.Goals as goal

pub nearest-found-requires : goal.nearest-found-requires
nearest-found-requires g c =
    let e = sym c.requires.answer ∙ ap as_nearest c.in-Ok.is in
    let a = asked c.args.job c.args.x c.args.y c.args.store.now (ap (λ (n : Nearest). n.refusal) e) in
    record { held = (a.trees, simp (to_z-of_z, c.ranges.x) a.x_in, simp (to_z-of_z, c.ranges.y) a.y_in) }
