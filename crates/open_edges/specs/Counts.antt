-- How many trees were kept tells the answer, where it is not inside. Assumes nothing.
use Rattle.std.specs.Prelude.{◌≡◌, ℕ, zero, suc, ◌≤◌, ◌<◌, ℤ, length, take}
use Rattle.std.proofs.Math.Path.{refl}
use Rattle.std.proofs.Common.{◌∙◌, subst, arith, length-take-le}
use mathlib.Core.List.{List, [], ◌∷◌}
use Rattle.model.specs.Strips.{Strip}
use Rattle.model.specs.Trees.{Tree}
use Rattle.model.specs.Explore.{Answer, inside, away, maybe, join, explore, explore_all}
use Rattle.inheritance.specs.Edges.{keep, opened}
use Rattle.open_edges.specs.Starts.{Starts}
use Rattle.open_edges.specs.Looked.{starts_long}

-- joined: away where none is kept, maybe where one is
abbrev Told : ℕ → Answer → Type 0
Told zero a = a ≡ away
Told (suc n) a = a ≡ maybe

told_join : (a b : Answer) (t : Tree) (us : List Tree) → (join a b ≡ inside → ⊥) → ((b ≡ inside → ⊥) → Told (length us) b) → Told (length (keep a t us)) (join a b)
told_join inside b t us f h = absurd (f refl)
told_join away b t us f h = h f
told_join maybe inside t us f h = absurd (f refl)
told_join maybe away t us f h = refl
told_join maybe maybe t us f h = refl

module _ (v : Strip → Answer) where
  told : (ts : List Tree) → (explore_all v ts ≡ inside → ⊥) → Told (length (opened v ts)) (explore_all v ts)
  unfolding explore_all opened
  told [] f = refl
  told (t ∷ ts) f = let rest = told ts in told_join (explore v t) (explore_all v ts) t (opened v ts) f rest

  pub none_kept : {store : List ℤ} (kp : List ℕ) (kept : ℕ) (ts : List Tree) → kept ≤ length kp → (explore_all v ts ≡ inside → ⊥) → Starts store (take kept kp) (opened v ts) → kept ≡ 0 → explore_all v ts ≡ away
  none_kept kp kept ts l f s e = subst (λ n. Told n (explore_all v ts)) (starts_long s ∙ length-take-le kept kp l ∙ e) (told ts f)

  some : (n : ℕ) (a : Answer) → 0 < n → Told n a → a ≡ maybe
  some zero a h t = absurd (omega arith)
  some (suc n) a h t = t

  pub some_kept : {store : List ℤ} (kp : List ℕ) (kept : ℕ) (ts : List Tree) → kept ≤ length kp → (explore_all v ts ≡ inside → ⊥) → Starts store (take kept kp) (opened v ts) → 0 < kept → explore_all v ts ≡ maybe
  some_kept kp kept ts l f s h = some kept (explore_all v ts) h (subst (λ n. Told n (explore_all v ts)) (starts_long s ∙ length-take-le kept kp l) (told ts f))
