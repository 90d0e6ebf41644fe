-- What `answering::put_answer` leaves: a map's text, or the line of its refusal.
use Rattle.std.proofs.Common.{◌∙◌, ap, subst, ◌∷◌, []}
use Rattle.std.specs.Prelude.{pos}
use Rattle.model.specs.Forms.{write_form}
use Rattle.model.specs.Printing.{refused_form, map_answered}
use Rattle.formatting.specs.Puts.{Put}
use Rattle.answering.proofs.Replies as steps
use Rattle.answering.proofs.put_answer.Goals as goal

pub returns-in-Ok-clause-wrote : goal.returns-in-Ok-clause-wrote
unfolding map_answered
returns-in-Ok-clause-wrote c =
    let p = c.put_map in
    subst (Put c.args.out.now p.new.out 0 p.result) (steps.drawn c.args.job _ _ c.draw.new.cells c.in-Ok.side c.in-Ok.ensures.refusal c.in-Ok.ensures.letters c.in-Ok.ensures.side.0) p.ensures.wrote

pub returns-in-Err-clause-wrote : goal.returns-in-Err-clause-wrote
unfolding map_answered
returns-in-Err-clause-wrote c =
    let p = c.put_refused in
    subst (Put c.args.out.now p.new.out 0 p.result) (ap (λ n. write_form refused_form (pos n ∷ [])) c.from.ensures ∙ steps.refused c.args.job _ _ c.in-Err.refusal c.in-Err.ensures.refusal) p.ensures.wrote
