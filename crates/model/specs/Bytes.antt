-- RULES, "Bytes": bytes, as numbers 0 to 255, and what a reader of them gives. Assumes nothing.
use Rattle.std.specs.Prelude.{Bool, ◌&&◌, List, [] as none_left, ◌∷◌ as ◌then◌, ℕ, leb}
use Prim.Native.String.{String, [], ◌∷◌}
use Prim.Native.Char.{code}

-- a text's bytes, one for each of its characters, all of which are ASCII here
abbrev pub bytes : String → List ℕ
bytes [] = none_left
bytes (c ∷ s) = code c then bytes s

-- A reader takes bytes and gives what it read with the bytes that are left, or nothing.
pub data Got (A : Type 0) : Type 0 where
  got : A → List ℕ → Got A
  none : Got A

-- goes on with what was read, or takes the other way where there is nothing
abbrev pub given : {A B : Type 0} → Got A → (A → List ℕ → B) → B → B
given (got a s) k b = k a s
given none k b = b

-- 0 to 9
unfoldable pub digit : ℕ → Bool
digit b = leb 48 b && leb b 57
