-- What drawing into a square of a map leaves of each cell, over what stood there. Assumes nothing.
use Rattle.std.specs.Prelude.{◌≡◌, Bool, ◌&&◌, cond, List, ℕ, ◌+◌, ◌*◌, ◌≤◌, ◌<◌, leb, ltb, get_or}

-- is i one of the w numbers from c on?
abbrev pub among : ℕ → ℕ → ℕ → Bool
among c w i = leb c i && ltb i (c + w)

-- cell (i, j) is one of the square of side w at column c and row r
pub record In (c r w i j : ℕ) : Type 0 where
  pub left : c ≤ i
  pub right : i < c + w
  pub low : r ≤ j
  pub high : j < r + w

-- cell (i, j) becomes f i j in the square of side w at column c and row r, and any other stays as it was
abbrev pub over : (ℕ → ℕ → ℕ) → ℕ → ℕ → ℕ → ℕ → ℕ → ℕ → ℕ
over f c r w i j old = cond (among c w i && among r w j) (f i j) old

-- of bytes held in rows of n, each cell is what g makes of what it was; rows past the end have none
pub record Drawn (n : ℕ) (new old : List ℕ) (g : ℕ → ℕ → ℕ → ℕ) : Type 0 where
  pub cells : (i j : ℕ) → i < n → get_or new (j * n + i) 0 ≡ g i j (get_or old (j * n + i) 0)
