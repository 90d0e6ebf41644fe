-- What the code's struct stands for in the model, and one leaf more. Assumes nothing.
use Rattle.std.specs.Prelude.{◌≡◌, cond, ℕ, ℤ}
use Rattle.std.proofs.Common.{ap, ◌∙◌}
use Rattle.std.specs.Int.Signed.{lt_z}
use Rattle.model.specs.Boxes.{Box, lesser}
use Rattle.model.specs.Explore.{Cell}
use Rattle.model.specs.Distance.{near², far²}
use Rattle.model.specs.Lookup.{State, taken}
use Rattle.boxes.specs.declared.Bounds.{Bounds}
use Rattle.distance.specs.declared.Found.{Found}

abbrev pub state : Found → State
state f = record { lo = f.lo; hi = f.hi; edge = f.edge; reads = f.reads }

pub record Taken (f : Found) (b : Bounds) (e : ℕ) (r : Found) : Type 0 where
  pub lo_is : r.lo ≡ lesser f.lo b.lo
  pub hi_is : r.hi ≡ lesser f.hi b.hi
  pub edge_is : r.edge ≡ cond (lt_z b.hi f.hi) e f.edge
  pub reads_is : r.reads ≡ f.reads

-- ---- it is the model's step, where b are the bounds of the box
state_eq : {a b c d : ℤ} {e f g h : ℕ} → a ≡ c → b ≡ d → e ≡ g → f ≡ h → ◌≡◌ {A = State} (record { lo = a; hi = b; edge = e; reads = f }) (record { lo = c; hi = d; edge = g; reads = h })
state_eq p q r s = cc

pub took : (p : Cell) (e : ℕ) (box : Box) {f r : Found} {b : Bounds} {st : State} → Taken f b e r → b.lo ≡ near² p box → b.hi ≡ far² p box → state f ≡ st → state r ≡ taken p e box st
took p e box {f} {r} {b} {st} t n h i =
    state_eq
    (t.lo_is ∙ ap (lesser f.lo) n)
    (t.hi_is ∙ ap (lesser f.hi) h)
    (t.edge_is ∙ ap (λ (z : ℤ). cond (lt_z z f.hi) e f.edge) h)
    t.reads_is
    ∙ ap (taken p e box) i
