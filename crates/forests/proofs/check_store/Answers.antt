use Rattle.std.proofs.Common.{refl}
use Rattle.model.specs.Store.{forest}
use Rattle.forests.specs.Walk.{StandAll}
use Rattle.forests.proofs.Checks.{held_0, strange_8}
use Rattle.forests.proofs.check_store.Goals as goal

pub returns-then-holds : goal.returns-then-holds
returns-then-holds c = record { refusal = held_0 c.args.job c.args.store.now (c.holds.ensures.holds.0 c.if-holds.true) }

pub returns : goal.returns
returns c =
    let n : StandAll (forest c.args.job) c.args.store.now → ⊥ = λ w. let h = c.holds.ensures.holds.1 w in let g = c.if-holds.false in cc in
    record { refusal = strange_8 c.args.job c.args.store.now n 0 c.in_ok-check_trees.ensures.told.refusal_is refl }
