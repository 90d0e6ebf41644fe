-- RULES, "Forms": the form of a line, its bytes with # (35) wherever a number stands. One writer and one reader serve every
-- form, so that a kind of line is no more than its form. Assumes nothing.
use Rattle.std.specs.Prelude.{true, false, cond, List, [], ◌∷◌, ◌++◌, ℕ, suc, eqb, ℤ, pos, get_or, drop}
use Rattle.model.specs.Bytes.{Got, got, none, given}
use Rattle.model.specs.Numbers.{text, number}

-- the line's text, with the numbers in order
unfoldable pub write_form : List ℕ → List ℤ → List ℕ
write_form [] vs = []
write_form (f ∷ fs) vs = elim (eqb f 35) [ true ↦ text (get_or vs 0 (pos 0)) ++ write_form fs (drop 1 vs) | false ↦ f ∷ write_form fs vs ]

-- how many numbers a form has
unfoldable pub marks : List ℕ → ℕ
marks [] = 0
marks (f ∷ fs) = cond (eqb f 35) (suc (marks fs)) (marks fs)

-- the byte f
unfoldable pub byte : ℕ → List ℕ → Got ℕ
byte f [] = none
byte f (b ∷ s) = elim (eqb b f) [ true ↦ got b s | false ↦ none ]

-- the line's numbers, after the numbers vs that were read already
unfoldable pub read_form : List ℕ → List ℤ → List ℕ → Got (List ℤ)
read_form [] vs s = got vs s
read_form (f ∷ fs) vs s = elim (eqb f 35) [
  | true ↦ given (number s) (λ v t. read_form fs (vs ++ (v ∷ [])) t) none
  | false ↦ given (byte f s) (λ b t. read_form fs vs t) none
]
