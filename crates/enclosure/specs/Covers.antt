-- A point in a strip, and a tree that covers a set of points. Nothing above this page speaks of curves. Assumes nothing.
use Rattle.std.specs.Prelude.{◌⊎◌, List, [], ◌∷◌, pos, ◌+ℤ◌, ◌-ℤ◌, ◌*ℤ◌}
use Rattle.model.specs.Fractions.{Frac, Point}
use Rattle.model.specs.Exact.{Points}
use Rattle.model.specs.Strips.{Side, Strip}
use Rattle.model.specs.Trees.{Tree, leaf, long, node}
use Rattle.integers.specs.Within.{Within}

-- a coordinate in fine units, 16·a, is off centre + e·axis by the box at most; multiplied out
abbrev pub Beside : Side → Frac → Frac → Type 0
Beside s e a = Within (pos 16 *ℤ a.top *ℤ e.low -ℤ (s.centre *ℤ e.low +ℤ s.axis *ℤ e.top) *ℤ a.low) (s.box *ℤ (a.low *ℤ e.low))

-- both coordinates share one e from −1 to 1
pub record In (S : Strip) (P : Point) : Type 0 where
  pub e : Frac
  pub unit : Within e.top e.low
  pub beside_x : Beside S.x e P.x
  pub beside_y : Beside S.y e P.y

-- each node's strip encloses its set; each leaf's set has a point; a node's set is the union of its halves'. No strip is asked to lie in its parent's
pub data Covers : Points → Tree → Type 1 where
  at_leaf : {S : Points} {s : Strip} → ((P : Point) → S P → In s P) → (P : Point) → S P → Covers S (leaf s)
  at_long : {S : Points} {s : Strip} → ((P : Point) → S P → In s P) → (P : Point) → S P → Covers S (long s)
  at_node : {S : Points} {s : Strip} {l r : Tree} → ((P : Point) → S P → In s P) → (A B : Points) → ((P : Point) → S P → A P ⊎ B P) → ((P : Point) → A P → S P) → ((P : Point) → B P → S P) → Covers A l → Covers B r → Covers S (node s l r)

-- a list of trees covers the union of the sets that they cover
pub data CoversAll : Points → List Tree → Type 1 where
  at_end : {S : Points} → ((P : Point) → S P → ⊥) → CoversAll S []
  at_cons : {S : Points} {t : Tree} {ts : List Tree} (A B : Points) → ((P : Point) → S P → A P ⊎ B P) → ((P : Point) → A P → S P) → ((P : Point) → B P → S P) → Covers A t → CoversAll B ts → CoversAll S (t ∷ ts)
