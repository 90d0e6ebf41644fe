-- A refused call has written nothing, and an accepted one has what `answer_all` asks for. Assumes nothing.
use Rattle.std.proofs.Common.{◌∙◌, sym, arith}
use Rattle.model.specs.Answers.{meant}
use Rattle.ranges.specs.Refusals.{some_number}
use Rattle.model.specs.Store.{forest}
use Rattle.subtrees.specs.Sizes.{forest_held}
use Rattle.many_points.proofs.Checking.{accepted_has, reply_kept, reply_written}
use Rattle.many_points.proofs.points.Goals as goal

pub returns-in_err-check-clause-lent : goal.returns-in_err-check-clause-lent
returns-in_err-check-clause-lent c = let a = c.args in reply_kept a.job a.spots.now a.store.now a.reply.now (λ z. omega (arith, some_number (meant c.in_err-check.field-0.0), c.in_err-check.ensures.refusal, z))

pub answer_all-requires-clause-held : goal.answer_all-requires-clause-held
answer_all-requires-clause-held c =
    let a = c.args in
    let w = accepted_has a.job a.spots.now a.store.now a.reply.now (sym c.in_ok-check.ensures.refusal) in
    (record { trees = forest a.job; holds = forest_held a.job a.store.now w.job w.begun }, w.job.some, w.job.few)

pub answer_all-requires-clause-points : goal.answer_all-requires-clause-points
answer_all-requires-clause-points c =
    let a = c.args in
    let w = accepted_has a.job a.spots.now a.store.now a.reply.now (sym c.in_ok-check.ensures.refusal) in
    (w.ranged, w.fits)

pub answer_all-requires-clause-room : goal.answer_all-requires-clause-room
answer_all-requires-clause-room c = let a = c.args in (accepted_has a.job a.spots.now a.store.now a.reply.now (sym c.in_ok-check.ensures.refusal)).room

pub returns-clause-lent : goal.returns-clause-lent
returns-clause-lent c =
    let a = c.args in
    let z = sym c.in_ok-check.ensures.refusal in
    let w = accepted_has a.job a.spots.now a.store.now a.reply.now z in
    c.answer_all.ensures.told (forest a.job) (forest_held a.job a.store.now w.job w.begun) ∙ reply_written a.job a.spots.now a.store.now a.reply.now z
