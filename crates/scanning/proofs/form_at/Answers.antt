-- A turn of the loop of `scanning::form_at`, by whether the form has a # or another byte there.
use Rattle.std.proofs.Common.{◌∙◌, drop, take, get_or, arith, rules, refl}
use Rattle.std.proofs.lemmas.Option.{slice_get_within}
use Rattle.std.proofs.lemmas.Grind.{common_steps}
use Rattle.scanning.proofs.Forms.{mark_read, marks_at, byte_read, values_more, still_spare}
use Rattle.scanning.proofs.form_at.Goals as goal
use Rattle.scanning.proofs.form_at.Goals.{then-f-eq35+in_ok-n, else-f-eq35+then-eq}

pub loop-f-preserved : goal.loop-f-preserved
loop-f-preserved c =
    elim c.if-f-eq35.branch [
      | then-f-eq35+in_ok-n w ↦ record {
        whole =
            c.loop-f.invariant.whole
            ∙ mark_read c.args.form.now c.loop-f.f-index (take c.loop-f.count c.loop-f.value) (drop c.loop-f.next c.args.s.now) w.in_ok-n.n.value (drop w.in_ok-n.n.next c.args.s.now) (omega arith) (omega arith) (search rules)
            ∙ rw (w.value-is, w.count-is, w.next-is, values_more c.loop-f.value c.loop-f.count w.in_ok-n.n.value (search rules) (grind (arith, marks_at))) refl;
        left = grind (arith, marks_at);
        within = grind (arith, common_steps);
        long = grind (arith, common_steps);
        spare = λ k h. rw w.value-is (still_spare _ _ _ c.loop-f.invariant.spare k (omega arith));
      }
      | else-f-eq35+then-eq w ↦ record {
        whole = c.loop-f.invariant.whole ∙ byte_read c.args.form.now c.loop-f.f-index (take c.loop-f.count c.loop-f.value) c.args.s.now c.loop-f.next (omega arith) (search rules) (search rules) ∙ rw (w.value-is, w.count-is, w.next-is) refl;
        left = grind (arith, marks_at);
        within = let l = slice_get_within c.args.s.now c.loop-f.next (get_or c.args.form.now c.loop-f.f-index 0) (search rules) in omega arith;
        long = grind (arith, common_steps);
        spare = λ k h. rw w.value-is (c.loop-f.invariant.spare k (omega arith));
      }
    ]
