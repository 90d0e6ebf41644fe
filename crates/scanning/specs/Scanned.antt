-- What the readers' answers say of the bytes that were read: the value, and the bytes from the next position on. Assumes nothing.
use Rattle.std.specs.Prelude.{cond, List, [], ◌∷◌, ℕ, ◌-◌, ℤ, drop, take, Option, Some, None}
use Rattle.model.specs.Bytes.{Got, got, none, digit}
use Rattle.sheet_text.specs.Forms.{marks}
use Rattle.scanning.specs.declared.Scanned.{Scanned}

-- the first byte's digit
unfoldable pub digit_of : List ℕ → Option ℕ
digit_of [] = None
digit_of (b ∷ s) = cond (digit b) (Some (b - 48)) None

-- how many digits the code takes after a number's first
abbrev pub following : ℕ
following = 6

-- what a reader of s found
abbrev pub found : {A : Type 0} → List ℕ → Option (Scanned A) → Got A
found s None = none
found s (Some r) = got r.value (drop r.next s)

-- the numbers of the form F
abbrev pub line_found : List ℕ → List ℕ → Option (Scanned (List ℤ)) → Got (List ℤ)
line_found F s None = none
line_found F s (Some r) = got (take (marks F) r.value) (drop r.next s)
