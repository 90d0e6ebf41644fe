use Rattle.std.proofs.Common.{rules, arith, sym, ◌∙◌}
use Rattle.std.proofs.lemmas.List.{take_all}
use Rattle.std.proofs.lemmas.Iterator.Search.{all_from_yields_List}
use Rattle.std.proofs.lemmas.Iterator.{YieldsList-from_slice}
use Rattle.model.specs.Jobs.{coordinate}
use Rattle.judging.proofs.Rows.{coordinates_are}
use Rattle.judging.proofs.coordinates.Goals as goal

pub returns : goal.returns
returns c = record {
  answer =
      all_from_yields_List coordinate _ _ _ c.all.ensures.ran (YieldsList-from_slice c.args.row.now (c.iter.ensures.rest ∙ grind (arith, take_all))) (λ x b q k. search rules)
      ∙ sym (coordinates_are c.args.row.now);
}
