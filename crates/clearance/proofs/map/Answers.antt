use Rattle.clearance.proofs.Accepted.{map_true}
use Rattle.clearance.proofs.map.Goals as goal

pub returns-clause-demand3 : goal.returns-clause-demand3
returns-clause-demand3 c = map_true c.args.job c.args.store.now c.args.cells.now _ c.map.result c.map.ensures.answer c.map.ensures.letters
