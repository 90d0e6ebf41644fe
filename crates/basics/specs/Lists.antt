-- Lists given by what stands at each place. Assumes nothing.
use Rattle.std.specs.Prelude.{List, [], ◌∷◌, ◌++◌, ℕ, zero, suc}

module _ {A : Type 0} where
  -- f 0, f 1, up to f (n − 1)
  unfoldable pub table : ℕ → (ℕ → A) → List A
  table zero f = []
  table (suc n) f = f 0 ∷ table n (λ k. f (suc k))

  -- a rectangle of w columns and h rows, row after row: what stands in column i and row j, f i j, has place j · w + i
  unfoldable pub row_major : ℕ → ℕ → (ℕ → ℕ → A) → List A
  row_major w zero f = []
  row_major w (suc h) f = table w (λ i. f i 0) ++ row_major w h (λ i j. f i (suc j))
