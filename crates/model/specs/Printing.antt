-- RULES, "Printing": what the program writes for its standard input. Assumes nothing.
use Rattle.std.specs.Prelude.{List, [], ◌∷◌, ◌++◌, ℕ, zero, suc, pos, take, drop, replicate}
use Rattle.model.specs.declared.Job.{Job}
use Rattle.model.specs.Bytes.{bytes}
use Rattle.model.specs.Forms.{write_form}
use Rattle.model.specs.Plates.{columns, map_of}
use Rattle.model.specs.Entries.{read, map_refusal}

unfoldable pub refused_form : List ℕ
refused_form = bytes "(refused #)\n"

unfoldable pub map_form : List ℕ
map_form = bytes "(map #\n"

-- a row's line
unfoldable pub row_text : List ℕ → List ℕ
row_text letters = bytes "(row " ++ (letters ++ bytes ")\n")

-- the lines of k rows of n letters, from the front of `cells`
unfoldable pub rows_text : ℕ → ℕ → List ℕ → List ℕ
rows_text n zero cells = []
rows_text n (suc k) cells = row_text (take n cells) ++ rows_text n k (drop n cells)

unfoldable pub map_text : ℕ → List ℕ → List ℕ
map_text n cells = write_form map_form (pos n ∷ []) ++ (rows_text n n cells ++ bytes ")\n")

-- ---- whole: the program lends the library this many numbers for the trees and this many bytes for the letters, and neither is looked at before
-- it is written
abbrev pub store_lent : ℕ
store_lent = 16379

abbrev pub cells_lent : ℕ
cells_lent = 65536

unfoldable pub answered : ℕ → Job → List ℕ
answered zero j = map_text (columns j) (map_of j)
answered (suc k) j = write_form refused_form (pos (suc k) ∷ [])

unfoldable pub map_answered : ℕ → Job → List ℕ
map_answered zero j = answered (map_refusal j (replicate store_lent (pos 0)) (replicate cells_lent 0)) j
map_answered (suc k) j = answered (suc k) j

unfoldable pub printed : List ℕ → List ℕ
printed input = map_answered (read input).refusal (read input).job
