-- What `answering::put_printed` leaves: the answer to the sheet's job, or the line of its refusal.
use Rattle.std.proofs.Common.{◌∙◌, ap, subst, ◌∷◌, []}
use Rattle.std.specs.Prelude.{pos}
use Rattle.model.specs.Forms.{write_form}
use Rattle.model.specs.Printing.{refused_form}
use Rattle.formatting.specs.Puts.{Put}
use Rattle.answering.proofs.Replies as steps
use Rattle.answering.proofs.put_printed.Goals as goal

pub returns-in-Ok-clause-wrote : goal.returns-in-Ok-clause-wrote
returns-in-Ok-clause-wrote c =
    let p = c.put_answer in
    subst (Put c.args.out.now p.new.out 0 p.result) (steps.sheet_read c.args.sheet.now c.in-Ok.job c.in-Ok.ensures.answer) p.ensures.wrote

pub returns-in-Err-clause-wrote : goal.returns-in-Err-clause-wrote
returns-in-Err-clause-wrote c =
    let p = c.put_refused in
    subst (Put c.args.out.now p.new.out 0 p.result) (ap (λ n. write_form refused_form (pos n ∷ [])) c.from.ensures ∙ steps.sheet_refused c.args.sheet.now c.in-Err.refusal c.in-Err.ensures.answer) p.ensures.wrote
