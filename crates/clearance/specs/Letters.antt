-- From a byte of a map of which demand 3 holds to what it says of its cell. Assumes nothing.
use Rattle.std.specs.Prelude.{◌≡◌, refl, cond, ℕ, eqb}
use Rattle.std.proofs.Common.{sym, ap, ◌∙◌}
use Rattle.model.specs.Plates.{Verdict, clear, within, doubtful, mixed, letter}
use Rattle.model.specs.Promises.{ClearByte, InsideByte, DoubtfulByte, NoOtherByte}

-- ---- a letter has one verdict
spoken : ℕ → Verdict
spoken b = cond (eqb b 67) clear (cond (eqb b 73) within (cond (eqb b 68) doubtful mixed))

spoken_letter : (v : Verdict) → spoken (letter v) ≡ v
unfolding spoken
spoken_letter clear = refl
spoken_letter within = refl
spoken_letter doubtful = refl
spoken_letter mixed = refl

same_verdict : (v w : Verdict) → letter v ≡ letter w → v ≡ w
same_verdict v w e = sym (spoken_letter v) ∙ ap spoken e ∙ spoken_letter w

-- and a byte that is no letter has none
of_none : (v : Verdict) (b : ℕ) → letter v ≡ b → (b ≡ 67 → ⊥) → (b ≡ 73 → ⊥) → (b ≡ 68 → ⊥) → v ≡ mixed
of_none clear b e c i d = absurd (c (sym e))
of_none within b e c i d = absurd (i (sym e))
of_none doubtful b e c i d = absurd (d (sym e))
of_none mixed b e c i d = refl

-- ---- the four laws
pub clear_byte : ClearByte
clear_byte j cells h i k hi hk e = (h.demand3 i k hi hk).if_clear (same_verdict (h.verdict i k) clear (sym (h.letters i k hi hk) ∙ e))

pub inside_byte : InsideByte
inside_byte j cells h i k hi hk e = (h.demand3 i k hi hk).if_inside (same_verdict (h.verdict i k) within (sym (h.letters i k hi hk) ∙ e))

pub doubtful_byte : DoubtfulByte
doubtful_byte j cells h i k hi hk e = (h.demand3 i k hi hk).if_doubtful (same_verdict (h.verdict i k) doubtful (sym (h.letters i k hi hk) ∙ e))

pub no_other_byte : NoOtherByte
no_other_byte b c n d j cells h i k hi hk e = (h.demand3 i k hi hk).not_mixed (of_none (h.verdict i k) b (sym (h.letters i k hi hk) ∙ e) c n d)
