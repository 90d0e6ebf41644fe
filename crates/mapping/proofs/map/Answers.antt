use Rattle.std.proofs.Common.{rules, length, refl}
use Rattle.mapping.specs.Checks.{accepted_answer, accepted_store, accepted_cells}
use Rattle.mapping.proofs.MapEntry.{answer_refused, store_refused, cells_refused, trees_ready, store_now, map_now}
use Rattle.mapping.proofs.map.Goals as goal

pub returns-in_err-nodes-clause-answer : goal.returns-in_err-nodes-clause-answer
returns-in_err-nodes-clause-answer c = answer_refused c.args.job c.args.store.now c.args.cells.now c.in_err-nodes.field-0.0 c.in_err-nodes.ensures.refusal c.from_residual.result (search rules)

pub returns-in_err-nodes-clause-trees : goal.returns-in_err-nodes-clause-trees
returns-in_err-nodes-clause-trees c = store_refused c.args.job c.args.store.now c.args.cells.now c.in_err-nodes.field-0.0 c.in_err-nodes.ensures.refusal

pub returns-in_err-nodes-clause-letters : goal.returns-in_err-nodes-clause-letters
returns-in_err-nodes-clause-letters c = cells_refused c.args.job c.args.store.now c.args.cells.now c.in_err-nodes.field-0.0 c.in_err-nodes.ensures.refusal

pub build_all-requires : goal.build_all-requires
build_all-requires c = record { ready = trees_ready c.args.job (length c.args.store.now) (length c.args.cells.now) c.in_ok-nodes.nodes c.in_ok-nodes.ensures.passed }

pub draw_map-requires : goal.draw_map-requires
draw_map-requires c = record { ready = map_now c.args.job c.in_ok-nodes.nodes c.args.store.now c.build_all.new.store c.args.cells.now c.in_ok-nodes.ensures.passed c.build_all.ensures.written }

pub returns-clause-answer : goal.returns-clause-answer
returns-clause-answer c = accepted_answer c.args.job c.args.store.now c.args.cells.now (c.in_ok-nodes.ensures.refusal.given c.args.store.now c.args.cells.now refl refl) c.in_ok-nodes.nodes c.in_ok-nodes.ensures.passed.nodes_are

pub returns-clause-trees : goal.returns-clause-trees
returns-clause-trees c =
    accepted_store c.args.job c.args.store.now c.args.cells.now (c.in_ok-nodes.ensures.refusal.given c.args.store.now c.args.cells.now refl refl) c.build_all.new.store
    (store_now c.args.job c.args.store.now c.build_all.new.store c.build_all.ensures.written)

pub returns-clause-letters : goal.returns-clause-letters
returns-clause-letters c =
    accepted_cells c.args.job c.args.store.now c.args.cells.now (c.in_ok-nodes.ensures.refusal.given c.args.store.now c.args.cells.now refl refl) c.draw_map.new.cells
    c.draw_map.ensures.map
