use Rattle.std.proofs.Common.{rules, sym, ◌∙◌}
use Rattle.std.proofs.lemmas.Iterator.Search.{all_from_yields_List}
use Rattle.std.proofs.lemmas.Iterator.{YieldsList-from_slice}
use Rattle.model.specs.Jobs.{is_zero}
use Rattle.judging.proofs.Rows.{zeros_are}
use Rattle.judging.proofs.zeros.Goals as goal

pub returns : goal.returns
unfolding is_zero
returns c = record {
  answer =
      all_from_yields_List is_zero _ _ _ c.all.ensures.ran (YieldsList-from_slice c.args.row.now cc) (λ x b q k. search rules)
      ∙ sym (zeros_are c.args.row.now);
}
