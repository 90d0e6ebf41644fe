-- RULES, "Roots": the smallest whole number whose square is at least n, as a function that computes by halving the digits:
-- with the root h of a quarter of n, rounded up, it is 2h − 1 or 2h. Assumes nothing.
use Rattle.std.specs.Prelude.{true, false, ℕ, zero, suc, ◌+◌, ◌*◌, ◌-◌, ◌/◌, leb}

abbrev pub pick : ℕ → ℕ → ℕ
pick n h = elim (leb n ((h + h - 1) * (h + h - 1))) [ true ↦ h + h - 1 | false ↦ h + h ]

-- the first number bounds the steps
unfoldable pub root_by : ℕ → ℕ → ℕ
root_by zero n = n
root_by (suc f) n = elim (leb n 1) [ true ↦ n | false ↦ pick n (root_by f ((n + 3) / 4)) ]

unfoldable pub root : ℕ → ℕ
root n = root_by n n
