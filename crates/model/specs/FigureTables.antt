-- What the tables of figures share: when all figures of a table hold, numbers that differ, and jobs in short. Assumes nothing.
use Rattle.std.specs.Prelude.{◌≡◌, List, [], ◌∷◌, ◌++◌, ℕ, ◌-◌, T, ℤ, pos, length, replicate}
use Rattle.std.proofs.Common.{subst}
use Rattle.std.specs.Int.Signed.{lt_z, lt_z_yes, <ℤ_irrefl}
use Rattle.basics.specs.Orders.{◌≺◌}
use Rattle.model.specs.declared.Job.{Job}
pub use Rattle.model.specs.Jobs.{cubic, line}
use Rattle.model.specs.Jobs.{Component, Edge}
use Rattle.model.specs.Strips.{Side, Strip}

-- a table of figures of the kinds F, of which H says when one holds
abbrev pub AllHold : {F : Type 0} → (F → Type 0) → List F → Type 0
AllHold H [] = Unit {0}
AllHold H (f ∷ fs) = H f × AllHold H fs

infixr 4 ◌and◌
pub ◌and◌ : {A B : Type 0} → A → B → A × B
a and b = (a, b)

-- of two numbers one is the lesser, by computation
pub unequal : (a b : ℤ) → T (lt_z b a) → a ≡ b → ⊥
unequal a b t e = <ℤ_irrefl (subst (λ z. b ≺ z) e (lt_z_yes t))

-- ---- shorthands
abbrev pub edge : Component → Component → Edge
edge x y = record { x = x; y = y }

abbrev pub side : ℤ → ℤ → ℤ → Side
side c a b = record { centre = c; axis = a; box = b }

abbrev pub strip_of : Side → Side → Strip
strip_of x y = record { x = x; y = y }

-- 512 numbers: these, then zeros
abbrev pub padded : List ℤ → List ℤ
padded vs = vs ++ replicate (512 - length vs) (pos 0)

-- 64 marks: these, then zeros
abbrev pub marking : List ℤ → List ℤ
marking ms = ms ++ replicate (64 - length ms) (pos 0)

-- corner x and y, N, M, reach, grain, count of edges, and their numbers; with their marks, and of cubics alone
abbrev pub mixed_job : ℤ → ℤ → ℤ → ℤ → ℤ → ℤ → ℕ → List ℤ → List ℤ → Job
mixed_job x y n m r t k vs ms = record { x = x; y = y; n = n; m = m; reach = r; grain = t; count = k; places = padded vs; marks = marking ms }

abbrev pub job : ℤ → ℤ → ℤ → ℤ → ℤ → ℤ → ℕ → List ℤ → Job
job x y n m r t k vs = mixed_job x y n m r t k vs []
