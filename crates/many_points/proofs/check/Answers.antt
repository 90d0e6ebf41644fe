-- Each return gives the number of the check that it stands for (`Checking`). Assumes nothing.
use Rattle.std.proofs.Common.{rules, ◌≡◌, ◌∙◌, sym, ap, arith, Err}
use Rattle.model.specs.Answers.{meant, number_of, told}
use Rattle.model.specs.Jobs.{judge_with}
use Rattle.ranges.specs.Refusals.{some_number}
use Rattle.many_points.proofs.Checking as checking
use Rattle.many_points.proofs.check.Goals as goal

pub returns-in_err-judge_with : goal.returns-in_err-judge_with
returns-in_err-judge_with c =
    let a = c.args in
    let k = c.in_err-judge_with.field-0.0 in
    let r : c.from_residual.result ≡ Err k = search rules in
    let e = c.in_err-judge_with.ensures.answer ∙ ap (judge_with a.job) c.coordinates.ensures.answer in
    record { refusal = ap told r ∙ checking.numbers_refused a.job a.spots.now a.store.now a.reply.now (number_of k) e (λ z. omega (arith, some_number (meant k), z)) }

pub returns-then-not-spots_fit : goal.returns-then-not-spots_fit
returns-then-not-spots_fit c =
    let a = c.args in
    let p = checking.ranged a.job a.spots.now a.store.now a.reply.now c.coordinates.result c.in_ok-judge_with.ensures.answer c.coordinates.ensures.answer in
    record { refusal = checking.count_refused a.job a.spots.now a.store.now a.reply.now p (sym c.spots_fit.ensures.fits ∙ c.if-not-spots_fit.true) }

pub check_store-held-requires : goal.check_store-held-requires
check_store-held-requires c =
    let a = c.args in
    record { legal = checking.legal_job a.job a.spots.now a.store.now a.reply.now c.coordinates.result c.in_ok-judge_with.ensures.answer c.coordinates.ensures.answer }

pub returns-then-is_of_trees : goal.returns-then-is_of_trees
returns-then-is_of_trees c =
    let a = c.args in
    let q = checking.counted a.job a.spots.now a.store.now a.reply.now c.coordinates.result c.in_ok-judge_with.ensures.answer c.coordinates.ensures.answer c.spots_fit.result c.spots_fit.ensures.fits c.if-not-spots_fit.false in
    record { refusal = checking.trees_refused a.job a.spots.now a.store.now a.reply.now q (told c.check_store-held.result) c.check_store-held.ensures.refusal (c.is_of_trees.ensures.either.0 c.if-is_of_trees.true) }

pub returns-then-reply-spots : goal.returns-then-reply-spots
returns-then-reply-spots c =
    let a = c.args in
    let q = checking.counted a.job a.spots.now a.store.now a.reply.now c.coordinates.result c.in_ok-judge_with.ensures.answer c.coordinates.ensures.answer c.spots_fit.result c.spots_fit.ensures.fits c.if-not-spots_fit.false in
    record { refusal = checking.room_refused a.job a.spots.now a.store.now a.reply.now q (told c.check_store-held.result) c.check_store-held.ensures.refusal (grind arith) (grind arith) c.if-reply-spots.true }

pub returns : goal.returns
returns c =
    let a = c.args in
    let q = checking.counted a.job a.spots.now a.store.now a.reply.now c.coordinates.result c.in_ok-judge_with.ensures.answer c.coordinates.ensures.answer c.spots_fit.result c.spots_fit.ensures.fits c.if-not-spots_fit.false in
    record { refusal = checking.store_told a.job a.spots.now a.store.now a.reply.now q (told c.check_store-held.result) c.check_store-held.ensures.refusal (grind arith) (grind arith) c.if-reply-spots.false }
