-- What an accepted map left is ready to be drawn again.
use Rattle.std.proofs.Common.{sym, ap, ◌∙◌}
use Prim.Native.Nat.{ℕ}
use lib.ListN.{length-replicate}
use Rattle.model.specs.Answers.{Map}
use Rattle.drawing_cases.proofs.Left.{left}
use Rattle.drawing_cases.proofs.draw_job.Goals as goal

pub show_ways-requires : goal.show_ways-requires
show_ways-requires g c =
    let m = c.map in
    let n = m.auto.cells ∙ length-replicate {A = ℕ} 65536 0 in
    record { ready = left c.args.job _ m.new.store _ m.new.cells (sym (ap (λ (r : Map). r.refusal) c.in-Ok.ensures.answer)) c.in-Ok.ensures.trees n }
