use Rattle.std.proofs.Common.{refl, rules}
use Rattle.table_four.proofs.Answers as answers
use Rattle.table_four.proofs.place.Goals as goal

pub returns-in_err-side-clause-answer : goal.returns-in_err-side-clause-answer
returns-in_err-side-clause-answer c = answers.own_refused c.args.job c.args.cells.now c.args.clamps c.in_err-side.field-0.0 c.from_residual.result c.in_err-side.ensures.answer (search rules)

pub overflow_mul-count : goal.overflow_mul-count
overflow_mul-count c = answers.square c.args.job c.args.cells.now c.args.clamps c.in_ok-side.ensures.answer

pub returns-then-cells-count-clause-answer : goal.returns-then-cells-count-clause-answer
returns-then-cells-count-clause-answer c = answers.too_short c.args.job c.args.cells.now c.args.clamps c.in_ok-side.ensures.answer c.if-cells-count.true

pub returns-then-not-all_on_plate-clause-answer : goal.returns-then-not-all_on_plate-clause-answer
returns-then-not-all_on_plate-clause-answer c =
    let h = rw c.clamps_of-clamps.ensures.answer at c.if-not-all_on_plate.ensures.answer in
    answers.off_plate_is c.args.job c.args.cells.now c.args.clamps c.in_ok-side.ensures.answer c.if-cells-count.false (λ all. let e = h.1 all in cc)

pub returns-then-not-all_letters-clause-answer : goal.returns-then-not-all_letters-clause-answer
returns-then-not-all_letters-clause-answer c =
    let on = rw c.clamps_of-clamps.ensures.answer at (c.if-not-all_on_plate.ensures.answer.0 refl) in
    let h = c.if-not-all_letters.ensures.answer in
    answers.no_letter c.args.job c.args.cells.now c.args.clamps c.in_ok-side.ensures.answer c.if-cells-count.false on (λ all. let e = h.1 all in cc)

pub first_stop-requires : goal.first_stop-requires
first_stop-requires c =
    let on = rw c.clamps_of-clamps.ensures.answer at (c.if-not-all_on_plate.ensures.answer.0 refl) in
    record { within = rw c.clamps_of-clamps.ensures.answer (answers.within c.args.job c.args.cells.now c.args.clamps c.in_ok-side.ensures.answer c.if-cells-count.false on) }

pub returns-in-None-clause-answer : goal.returns-in-None-clause-answer
returns-in-None-clause-answer c =
    let on = rw c.clamps_of-clamps.ensures.answer at (c.if-not-all_on_plate.ensures.answer.0 refl) in
    let clear = rw c.clamps_of-clamps.ensures.answer at c.in-None.ensures.first in
    answers.go_answer c.args.job c.args.cells.now c.args.clamps c.in_ok-side.ensures.answer c.if-cells-count.false on (c.if-not-all_letters.ensures.answer.0 refl) clear

pub returns-in-None-clause-go : goal.returns-in-None-clause-go
returns-in-None-clause-go c =
    let on = rw c.clamps_of-clamps.ensures.answer at (c.if-not-all_on_plate.ensures.answer.0 refl) in
    let clear = rw c.clamps_of-clamps.ensures.answer at c.in-None.ensures.first in
    λ e. answers.go_means c.args.job c.args.cells.now c.args.clamps c.in_ok-side.ensures.answer c.if-cells-count.false on (c.if-not-all_letters.ensures.answer.0 refl) clear

pub returns-in-Some-clause-answer : goal.returns-in-Some-clause-answer
returns-in-Some-clause-answer c =
    let on = rw c.clamps_of-clamps.ensures.answer at (c.if-not-all_on_plate.ensures.answer.0 refl) in
    let stop = rw c.clamps_of-clamps.ensures.answer at c.in-Some.ensures.first in
    answers.stop_answer c.args.job c.args.cells.now c.args.clamps c.in_ok-side.ensures.answer c.if-cells-count.false on (c.if-not-all_letters.ensures.answer.0 refl) c.in-Some.stop stop
