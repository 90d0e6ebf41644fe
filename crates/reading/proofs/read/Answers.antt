-- What `reading::read` answers: a sheet that is too long, that breaks off before its edges or goes on past its end, an illegal job, and a legal one.
use Rattle.std.proofs.Common.{◌≡◌, arith, rules, Some, None}
use Rattle.std.proofs.lemmas.Result.{err_from_is_err_and}
use Rattle.model.specs.declared.Refusal.TheVariants.{Form}
use Rattle.reading.proofs.Whole as whole
use Rattle.reading.proofs.read.Goals as goal

pub returns-then-sheet-gt8192 : goal.returns-then-sheet-gt8192
returns-then-sheet-gt8192 c = search (rules, whole.too_long)

pub returns-in_err-head : goal.returns-in_err-head
returns-in_err-head c =
    let p = err_from_is_err_and c.from_residual.result c.from_residual.ensures.1 in
    let n : c.head_at.result ≡ None = grind arith in
    let f : c.in_err-head.field-0.0 ≡ Form = grind arith in
    rw (p.1, p.2, f) (record { answer = whole.broken_sheet c.args.sheet.now (rw n at c.head_at.ensures.answer) })

pub returns-then-not-end_at : goal.returns-then-not-end_at
returns-then-not-end_at c =
    let h : c.head_at.result ≡ Some c.in_ok-head.head = grind arith in
    record { answer = whole.no_end c.args.sheet.now c.in_ok-head.head (rw h at c.head_at.ensures.answer) c.edges_at-edges.result c.edges_at-edges.ensures.answer c.end_at.result c.end_at.ensures.answer c.if-not-end_at.true }

pub returns-in_err-judge : goal.returns-in_err-judge
returns-in_err-judge c =
    let p = err_from_is_err_and c.from_residual-in_err-judge.result c.from_residual-in_err-judge.ensures.1 in
    let h : c.head_at.result ≡ Some c.in_ok-head.head = grind arith in
    rw (p.1, p.2) (record {
      answer = whole.illegal_sheet c.args.sheet.now c.in_ok-head.head (rw h at c.head_at.ensures.answer) c.edges_at-edges.result c.edges_at-edges.ensures.answer c.end_at.result c.end_at.ensures.answer c.if-not-end_at.false
          c.job_by-job.result c.job_by-job.ensures.answer c.in_err-judge.field-0.0 c.in_err-judge.ensures.answer;
    })

pub returns : goal.returns
returns c =
    let h : c.head_at.result ≡ Some c.in_ok-head.head = grind arith in
    record {
      answer = whole.legal_sheet c.args.sheet.now c.in_ok-head.head (rw h at c.head_at.ensures.answer) c.edges_at-edges.result c.edges_at-edges.ensures.answer c.end_at.result c.end_at.ensures.answer c.if-not-end_at.false
          c.job_by-job.result c.job_by-job.ensures.answer c.in_ok-judge.ensures.answer;
    }
