use Rattle.std.proofs.Common.{rules, arith}
use Rattle.ranges.specs.Legal.{legal}
use Rattle.mapping.proofs.MapEntry.{grid_ok, grid_side, refused_early, refused_trees, refused_space, accepted_by, all_passed}
use Rattle.mapping.proofs.check.Goals as goal

pub returns-in_err-n-clause-refusal : goal.returns-in_err-n-clause-refusal
returns-in_err-n-clause-refusal c = refused_early c.args.job c.args.numbers c.args.room c.from_residual.result c.in_err-n.field-0.0 (search rules) c.in_err-n.ensures.answer

pub check_trees-requires : goal.check_trees-requires
check_trees-requires c = record { legal = legal c.args.job (grid_ok c.args.job c.in_ok-n.n c.in_ok-n.ensures.answer) }

pub returns-in_err-trees-clause-refusal : goal.returns-in_err-trees-clause-refusal
returns-in_err-trees-clause-refusal c =
    let ok = grid_ok c.args.job c.in_ok-n.n c.in_ok-n.ensures.answer in
    refused_trees c.args.job c.args.numbers c.args.room ok c.from_residual-in_err-trees.result c.in_err-trees.field-0.0 (search rules) c.in_err-trees.ensures.told.refusal_is

pub returns-then-room-n-clause-refusal : goal.returns-then-room-n-clause-refusal
returns-then-room-n-clause-refusal c =
    let n = c.in_ok-n.n in
    let e = c.in_ok-n.ensures.answer in
    refused_space c.args.job c.args.numbers c.args.room (grid_ok c.args.job n e) c.in_ok-trees.ensures.told.refusal_is n (grid_side c.args.job n e) (omega arith)

pub returns-clause-refusal : goal.returns-clause-refusal
returns-clause-refusal c =
    let n = c.in_ok-n.n in
    let e = c.in_ok-n.ensures.answer in
    accepted_by c.args.job c.args.numbers c.args.room (grid_ok c.args.job n e) c.in_ok-trees.ensures.told.refusal_is n (grid_side c.args.job n e) (omega arith)

pub returns-clause-passed : goal.returns-clause-passed
returns-clause-passed c =
    let n = c.in_ok-n.n in
    let e = c.in_ok-n.ensures.answer in
    let t = c.in_ok-trees.ensures.told in
    all_passed c.args.job c.args.numbers c.args.room (grid_ok c.args.job n e) t.refusal_is n (grid_side c.args.job n e) (omega arith) c.in_ok-trees.trees t.nodes_are
