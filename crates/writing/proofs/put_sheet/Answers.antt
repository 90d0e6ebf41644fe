-- What `writing::put_sheet` asks for and leaves: there is room for each line, and the lines are the job's sheet.
use Rattle.std.proofs.Common.{◌≡◌, arith, rules, length}
use Rattle.model.specs.Sheets.{grain_form, end_form}
use Rattle.sheet_text.specs.Forms.{weight, nil_small}
use Rattle.writing.proofs.Sheets as sheets
use Rattle.writing.proofs.put_sheet.Goals as goal

pub put_optional-b-requires-clause-small : goal.put_optional-b-requires-clause-small
put_optional-b-requires-clause-small c = search (rules, sheets.grain_ready)

pub put_edges-c-requires-clause-space : goal.put_edges-c-requires-clause-space
unfolding grain_form
put_edges-c-requires-clause-space c =
    let m : length c.args.job.now.marks ≡ 64 = search rules in
    sheets.edges_space c.args.job.now c.requires.legal c.args.out.now c.put_head-a.new.out c.put_optional-b.new.out c.put_head-a.result c.put_optional-b.result c.put_head-a.ensures.answer c.put_optional-b.ensures.answer
    m (omega arith)

pub put_edges-c-requires-clause-small : goal.put_edges-c-requires-clause-small
put_edges-c-requires-clause-small c = search (rules, sheets.places_ready)

pub put_form-requires-clause-space : goal.put_form-requires-clause-space
unfolding grain_form weight
put_form-requires-clause-space c =
    let m : length c.args.job.now.marks ≡ 64 = search rules in
    let e = sheets.end_by c.args.job.now c.requires.legal c.args.out.now c.put_head-a.new.out c.put_optional-b.new.out c.put_head-a.result c.put_optional-b.result c.put_head-a.ensures.answer c.put_optional-b.ensures.answer
    m c.put_edges-c.result c.put_edges-c.ensures.bound in
    omega arith

pub put_form-requires-clause-small : goal.put_form-requires-clause-small
put_form-requires-clause-small c = nil_small

pub returns-clause-answer : goal.returns-clause-answer
unfolding grain_form end_form
returns-clause-answer c =
    let m : length c.args.job.now.marks ≡ 64 = search rules in
    let n : length c.args.job.now.places ≡ 512 = search rules in
    sheets.sheet_put c.args.job.now c.requires.legal c.args.out.now c.put_head-a.new.out c.put_optional-b.new.out c.put_head-a.result c.put_optional-b.result c.put_head-a.ensures.answer c.put_optional-b.ensures.answer
    m c.put_edges-c.result c.put_edges-c.ensures.bound c.put_edges-c.new.out c.put_form.new.out c.put_form.result c.put_edges-c.ensures.answer c.put_form.ensures.answer n

pub returns-clause-bound : goal.returns-clause-bound
unfolding grain_form weight
returns-clause-bound c =
    let m : length c.args.job.now.marks ≡ 64 = search rules in
    let e = sheets.end_by c.args.job.now c.requires.legal c.args.out.now c.put_head-a.new.out c.put_optional-b.new.out c.put_head-a.result c.put_optional-b.result c.put_head-a.ensures.answer c.put_optional-b.ensures.answer
    m c.put_edges-c.result c.put_edges-c.ensures.bound in
    omega arith
