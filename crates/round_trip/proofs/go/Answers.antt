-- What the calls promise, by the laws of the face. Assumes nothing.
use Rattle.std.proofs.Common.{arith, rules, sym, length-take-le}
use Rattle.model.specs.Promises.{Whole}
use Rattle.round_trip.proofs.Trips as steps
use Rattle.round_trip.proofs.go.Goals as goal

pub slice_bounds-read-end : goal.slice_bounds-read-end
slice_bounds-read-end c =
    let w = c.write in
    omega (arith, steps.in_reach c.args.job c.args.out.now w.new.out c.in_ok-n.ensures.lent c.in_ok-n.n c.in_ok-n.ensures.answer w.auto.out)

pub slice_bounds-read-end-2 : goal.slice_bounds-read-end-2
slice_bounds-read-end-2 c =
    let w = c.write in
    sym (length-take-le _ w.new.out (omega (arith, steps.in_reach c.args.job c.args.out.now w.new.out c.in_ok-n.ensures.lent c.in_ok-n.n c.in_ok-n.ensures.answer w.auto.out)))

pub returns-in_err-back-clause-written : goal.returns-in_err-back-clause-written
returns-in_err-back-clause-written c =
    let whole : Whole c.args.job = search rules in
    absurd (steps.not_refused c.args.job c.args.out.now c.write.new.out c.in_ok-n.ensures.lent c.in_ok-n.n c.in_ok-n.ensures.answer whole c.in_err-back.field-0.0 c.in_err-back.ensures.answer)

pub returns-clause-came_back : goal.returns-clause-came_back
returns-clause-came_back c =
    let whole : Whole c.args.job = search rules in
    steps.job_is c.args.job c.args.out.now c.write.new.out c.in_ok-n.ensures.lent c.in_ok-n.n c.in_ok-n.ensures.answer whole c.in_ok-back.back c.in_ok-back.ensures.answer

pub returns-clause-mapped : goal.returns-clause-mapped
returns-clause-mapped c =
    let whole : Whole c.args.job = search rules in
    let same = steps.job_is c.args.job c.args.out.now c.write.new.out c.in_ok-n.ensures.lent c.in_ok-n.n c.in_ok-n.ensures.answer whole c.in_ok-back.back c.in_ok-back.ensures.answer in
    steps.map_told c.args.job c.in_ok-back.back same c.args.store.now c.args.cells.now c.map-mapped.new.cells c.map-mapped.result c.map-mapped.ensures.answer

pub returns-clause-demand3 : goal.returns-clause-demand3
returns-clause-demand3 c =
    let whole : Whole c.args.job = search rules in
    let same = steps.job_is c.args.job c.args.out.now c.write.new.out c.in_ok-n.ensures.lent c.in_ok-n.n c.in_ok-n.ensures.answer whole c.in_ok-back.back c.in_ok-back.ensures.answer in
    steps.map_true c.args.job c.in_ok-back.back same c.args.store.now c.args.cells.now c.map-mapped.new.cells c.map-mapped.result c.map-mapped.ensures.demand3
