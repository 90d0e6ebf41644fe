-- The needs of `Edges::keep`, and that what they keep is what a job has: the numbers and marks of its first 64 edges.
-- Assumes nothing.
use Rattle.std.proofs.Common.{◌≡◌, refl, sym, ap, ap₂, ◌∙◌, Bool, true, false, cond, List, [], ◌∷◌, ◌++◌, ℕ, ◌+◌, ◌-◌, ◌*◌, ◌≤◌, ◌<◌, arith, w32, FitsSigned, to_z, of_z, ltb, length, drop, set, length-append, replicate}
use Rattle.std.specs.Prelude.{ℤ, pos}
use Rattle.std.proofs.lemmas.Int.{to_z-of_z}
use lib.ListN.{length-replicate, replicate-append-replicate}
use native.Mathlib.Nat.{mul-le-mul_right}
use lib.Seq.{paste, paste-zero, paste-suc, take_at, drop_at, take_all, drop-append-add}
use borrow.Author.Tests.{lt-ltb, le-ltb, ltb-true, ltb-false}
use Rattle.model.specs.Sheets.{fit}
use Rattle.sheet_text.specs.Places.{fit_is, fit_long}
use Rattle.reading.specs.Progress.{keep}

-- ---- one more edge: 64 are kept
pub all_kept : (w : ℕ) (values line : List ℤ) (count : ℕ) → 64 ≤ count → values ≡ keep w values count line
unfolding keep
all_kept w values line count h = rw (le-ltb count 64 h)

pub one_kept : (w : ℕ) (values line : List ℤ) (count : ℕ) → count < 64 → paste values (count * w) line w ≡ keep w values count line
unfolding keep
one_kept w values line count h = sym (rw (lt-ltb count 64 h))

pub mark_kept : (marks : List ℤ) (mark : ℤ) (count : ℕ) → count < 64 → length marks ≡ 64 → FitsSigned w32 mark → set marks count (to_z w32 (of_z w32 mark)) ≡ keep 1 marks count (mark ∷ [])
mark_kept marks mark count h n f =
    ap₂ (λ k v. set marks k v) (let z : count ≡ count * 1 + 0 = omega arith in z) (to_z-of_z w32 mark f)
    ∙ ap (λ u. set u (count * 1 + 0) mark) (paste-zero marks (count * 1) (mark ∷ []))
    ∙ paste-suc marks (count * 1) (mark ∷ []) 0 (pos 0) (omega arith) (omega arith)
    ∙ one_kept 1 marks (mark ∷ []) count h

-- ---- what is kept is what a job has
drop_replicate : (m n : ℕ) → drop m (replicate (m + n) (pos 0)) ≡ replicate n (pos 0)
drop_replicate m n = sym (ap (drop m) (replicate-append-replicate m n (pos 0))) ∙ drop_at (replicate m (pos 0)) (replicate n (pos 0)) m (length-replicate m (pos 0))

-- what stands after vs in n places
fit_paste : (n a k : ℕ) (vs ws : List ℤ) → length vs ≡ a → length ws ≡ k → a + k ≤ n → paste (fit n vs) a ws k ≡ fit n (vs ++ ws)
fit_paste n a k vs ws h e l =
    let z : n - length vs ≡ k + (n - (a + k)) = omega arith in
    let d : fit n vs ≡ vs ++ replicate (k + (n - (a + k))) (pos 0) = fit_is n vs (omega arith) ∙ ap (λ u. vs ++ replicate u (pos 0)) z in
    ap (λ u. paste u a ws k) d
    ∙ ap₂ ◌++◌
    (ap₂ ◌++◌ (take_at vs (replicate (k + (n - (a + k))) (pos 0)) a h) (take_all k ws (omega arith)))
    (ap (λ u. drop (u + k) (vs ++ replicate (k + (n - (a + k))) (pos 0))) (sym h) ∙ drop-append-add vs (replicate (k + (n - (a + k))) (pos 0)) k ∙ drop_replicate k (n - (a + k)))
    ∙ sym (fit_is n (vs ++ ws) (simp length-append (omega arith))
    ∙ ap (λ u. (vs ++ ws) ++ replicate u (pos 0)) (let y : n - length (vs ++ ws) ≡ n - (a + k) = simp length-append (omega arith) in y))

pub keep_is : (w c : ℕ) (vs ws : List ℤ) → length vs ≡ c * w → length ws ≡ w → keep w (fit (64 * w) vs) c ws ≡ fit (64 * w) (vs ++ ws)
unfolding keep
keep_is w c vs ws h k = go (ltb c 64) refl
  where
    go : (t : Bool) → ltb c 64 ≡ t → cond t (paste (fit (64 * w) vs) (c * w) ws w) (fit (64 * w) vs) ≡ fit (64 * w) (vs ++ ws)
    go true e = fit_paste (64 * w) (c * w) w vs ws h k (omega (arith, mul-le-mul_right w (ltb-true c 64 e)))
    go false e = sym (fit_long (64 * w) vs ws (omega (arith, mul-le-mul_right w (ltb-false c 64 e))))
