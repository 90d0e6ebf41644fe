-- The number by which a caller tells a library from one with other rows, nodes or functions. Assumes nothing.
use Rattle.std.specs.Prelude.{◌≡◌, ℕ, ◌+◌, ◌*◌, ◌≤◌, ◌<◌}
use Rattle.std.proofs.Common.{arith}
use Rattle.model.specs.Store.{width}
use Rattle.flat_jobs.specs.FlatJobs.{row_long}

-- ---- the version, by its parts: docs/VERSIONS.md says when each of them rises
abbrev pub major : ℕ
major = 1

abbrev pub minor : ℕ
minor = 1

abbrev pub patch : ℕ
patch = 0

-- how long a job's row and a node are stands in front: read in decimal, three digits for each part of the version and two for the node
abbrev pub version_of : ℕ → ℕ → ℕ → ℕ → ℕ → ℕ
version_of row node a b c = (((row * 100 + node) * 1000 + a) * 1000 + b) * 1000 + c

-- this library's
abbrev pub version_number : ℕ
version_number = version_of row_long width major minor patch

-- ---- numbers with one quotient by 1,000,000 are of libraries with rows of one length, nodes of one length and one major version
-- what a number over 1,000,000, rounded down, is
abbrev pub Front : ℕ → ℕ → Type 0
Front q v = (q * 1000000 ≤ v) × (v < q * 1000000 + 1000000)

pub record SameRows (row node a row' node' a' : ℕ) : Type 0 where
  pub rows : row ≡ row'
  pub nodes : node ≡ node'
  pub majors : a ≡ a'

abbrev pub VersionTells : Type 0
VersionTells = (q row node a b c row' node' a' b' c' : ℕ) → node < 100 → a < 1000 → b < 1000 → c < 1000 → node' < 100 → a' < 1000 → b' < 1000 → c' < 1000 → Front q (version_of row node a b c) → Front q (version_of row' node' a' b' c') → SameRows row node a row' node' a'

pub version_tells : VersionTells
version_tells q row node a b c row' node' a' b' c' h₁ h₂ h₃ h₄ h₅ h₆ h₇ h₈ f g =
    record {
      rows = omega (arith, h₁, h₂, h₃, h₄, h₅, h₆, h₇, h₈, f.0, f.1, g.0, g.1);
      nodes = omega (arith, h₁, h₂, h₃, h₄, h₅, h₆, h₇, h₈, f.0, f.1, g.0, g.1);
      majors = omega (arith, h₁, h₂, h₃, h₄, h₅, h₆, h₇, h₈, f.0, f.1, g.0, g.1);
    }
