-- RULES, "Numbers": how a number is written, in seven decimal digits at the most, and how it is read back: exactly what is written, and nothing else.
-- Assumes nothing.
use Rattle.std.specs.Prelude.{true, false, ◌&&◌, not, List, [], ◌∷◌, ◌++◌, ℕ, zero, suc, ◌+◌, ◌*◌, ◌-◌, ◌/◌, ◌%◌, ◌<◌, ltb, eqb, ℤ, pos, negsuc, nat_abs, neg_ℤ}
use Rattle.model.specs.Bytes.{Got, got, none, given, digit}

-- ---- written: n in at most k decimal digits
unfoldable pub decimal : ℕ → ℕ → List ℕ
decimal zero n = []
decimal (suc k) n = elim (ltb n 10) [ true ↦ (48 + n) ∷ [] | false ↦ decimal k (n / 10) ++ ((48 + n % 10) ∷ []) ]

unfoldable pub text : ℤ → List ℕ
text (pos n) = decimal 7 n
text (negsuc n) = 45 ∷ decimal 7 (suc n)

-- the numbers that have a text: seven digits hold them
unfoldable pub Small : ℤ → Type 0
Small z = nat_abs z < 10000000

-- ---- read: at most k more digits after the number a
unfoldable pub more_digits : ℕ → ℕ → List ℕ → Got ℕ
more_digits zero a s = got a s
more_digits (suc k) a [] = got a []
more_digits (suc k) a (d ∷ s) = elim (digit d) [ true ↦ more_digits k (a * 10 + (d - 48)) s | false ↦ got a (d ∷ s) ]

-- a digit that is not 0 and at most six more
unfoldable pub natural : List ℕ → Got ℕ
natural [] = none
natural (d ∷ s) = elim (digit d && not (eqb d 48)) [ true ↦ more_digits 6 (d - 48) s | false ↦ none ]

-- a lone 0, a minus (45) and a natural, or a natural
unfoldable pub number : List ℕ → Got ℤ
number [] = none
number (d ∷ s) = elim (eqb d 48) [
  | true ↦ got (pos 0) s
  | false ↦ elim (eqb d 45) [ true ↦ given (natural s) (λ n t. got (neg_ℤ (pos n)) t) none | false ↦ given (natural (d ∷ s)) (λ n t. got (pos n) t) none ]
]
