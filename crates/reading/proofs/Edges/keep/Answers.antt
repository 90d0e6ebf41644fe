-- What `reading::Edges::keep` leaves: the numbers of one more edge in their place, where it is one of the first 64.
use Rattle.std.proofs.Common.{◌≡◌, refl, ap₂, ◌∙◌, [], ◌∷◌, arith, rules}
use Rattle.std.proofs.lemmas.Slice.{put_mid-paste}
use Rattle.reading.specs.Progress.{keep}
use Rattle.reading.proofs.Kept as kept
use Rattle.reading.proofs.Edges.keep.Goals as goal
use Rattle.reading.proofs.Edges.keep.Goals.{then-placed, else-placed, then-marked, else-marked}

pub returns-clause-places : goal.returns-clause-places
returns-clause-places c =
    let p : c.if-placed.self.places ≡ keep 8 c.args.self.now.places c.args.self.now.count c.args.edge.places =
    elim c.if-placed.branch [
      | then-placed w ↦ rw w.self-is (put_mid-paste _ _ _ _ c.args.edge.places 8 w.copy_from_slice.ensures.after (omega arith) (search rules) ∙ kept.one_kept 8 _ _ _ (omega arith))
      | else-placed w ↦ rw w.self-is (search (rules, kept.all_kept))
    ] in
    let q : c.if-marked.self.places ≡ c.if-placed.self.places = elim c.if-marked.branch [ then-marked w ↦ rw w.self-is refl | else-marked w ↦ rw w.self-is refl ] in
    q ∙ p

pub returns-clause-marks : goal.returns-clause-marks
returns-clause-marks c =
    let m : c.if-placed.self.marks ≡ c.args.self.now.marks = elim c.if-placed.branch [ then-placed w ↦ rw w.self-is refl | else-placed w ↦ rw w.self-is refl ] in
    let n : c.if-placed.self.count ≡ c.args.self.now.count = elim c.if-placed.branch [ then-placed w ↦ rw w.self-is refl | else-placed w ↦ rw w.self-is refl ] in
    let k : c.if-marked.self.marks ≡ keep 1 c.if-placed.self.marks c.if-placed.self.count (c.args.edge.mark ∷ []) =
    elim c.if-marked.branch [
      | then-marked w ↦ rw w.self-is (search (rules, kept.mark_kept))
      | else-marked w ↦ rw w.self-is (search (rules, kept.all_kept))
    ] in
    k ∙ ap₂ (λ u v. keep 1 u v (c.args.edge.mark ∷ [])) m n
