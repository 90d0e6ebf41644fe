use Rattle.std.proofs.Common.{◌≡◌, ◌∙◌, sym, ap, length, get_or, rules, arith}
use Rattle.levels.specs.Open.{closed}
use Rattle.levels.proofs.Kept.{put_there, put_elsewhere}
use Rattle.levels.proofs.Levels.put.Goals as goal

pub returns-clause-columns : goal.returns-clause-columns
returns-clause-columns c =
    let long : length c.self.inside.ends ≡ 3072 = search rules in
    put_there c.self.inside.ends c.place.result _ _ (sym c.place.ensures.place) (omega arith)
    ∙ c.normal-kept.ensures.same

pub returns-clause-others : goal.returns-clause-others
returns-clause-others c k h = put_elsewhere _ _ k _ (λ e. h (e ∙ c.place.ensures.place)) ∙ ap (λ l. get_or l k closed) c.self.view_is
