use Rattle.std.proofs.Common.{rules}
use Rattle.std.specs.Prelude.{pos}
use Rattle.row_laws.specs.Columns.{off}
use Rattle.columns.specs.Views.{inside_at}
use Rattle.columns.proofs.Numbers.{gap_of, vy_made}
use Rattle.columns.proofs.Walks.{trimmed_is, inside_sides}
use Rattle.columns.proofs.deep.Goals as goal

pub returns-clause-found : goal.returns-clause-found
returns-clause-found c =
    let f = c.args.frame in
    let v = c.args.v in
    let s = c.requires.sizes in
    let y = gap_of f.q c.args.j (vy_made v s.0) c.gap-w.ensures.from c.gap-w.ensures.size in
    let t = c.trimmed.ensures in
    trimmed_is (inside_at f v (off f.q v.y (pos c.args.j))) (inside_sides f s.1 v s.0 (off f.q v.y (pos c.args.j))) c.args.c c.trimmed.result
    t.inner
    (λ i h k. let x = t.left i h k in search rules)
    (λ i h k l. let x = t.right i h k l in search rules)
    (λ h. let x = t.ends h in (search rules, search rules))
