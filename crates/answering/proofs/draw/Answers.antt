-- What `answering::draw` answers: the map's refusal, or its side. A job whose map was drawn has a grid.
use Rattle.std.proofs.Common.{◌∙◌, refl}
use Rattle.std.specs.Prelude.{Ok, Err}
use Rattle.std.proofs.lemmas.Result.{err_from_is_err_and}
use Rattle.answering.proofs.Replies as steps
use Rattle.answering.proofs.draw.Goals as goal

pub returns-in_err-map-clause-refusal : goal.returns-in_err-map-clause-refusal
returns-in_err-map-clause-refusal c =
    let p = err_from_is_err_and c.from_residual.result c.from_residual.ensures.1 in
    rw (p.1, p.2) (steps.map_told c.args.job _ c.args.cells.now (Err c.in_err-map.field-0.0) c.in_err-map.ensures.answer)

pub returns-clause-refusal : goal.returns-clause-refusal
returns-clause-refusal c =
    let m = steps.map_told c.args.job _ c.args.cells.now (Ok c.in_ok-map.field-0) c.in_ok-map.ensures.answer in
    steps.grid_told c.args.job c.grid.result c.grid.ensures.answer ∙ steps.judged c.args.job _ c.args.cells.now (Ok c.in_ok-map.field-0) c.in_ok-map.ensures.answer refl ∙ m

pub returns-clause-side : goal.returns-clause-side
returns-clause-side c = steps.side c.args.job c.grid.result c.grid.ensures.answer (steps.judged c.args.job _ c.args.cells.now (Ok c.in_ok-map.field-0) c.in_ok-map.ensures.answer refl)
