-- The place of each number of a node, with which the model's row of them is read and put. Assumes nothing.
use Rattle.std.specs.Prelude.{◌≡◌, refl, List, [], ◌∷◌, ℕ, zero, suc, ◌+◌, ◌≤◌, ℤ, pos, length, get_or, set, drop}
use Rattle.std.proofs.Common.{ap, ◌∙◌, arith}
use Rattle.model.specs.Strips.{Side, Strip}
use Rattle.model.specs.Boxes.{Span, Box}
use Rattle.model.specs.Store.{width, numbers}

-- ---- the places. In coordinate i, 0 for x and 1 for y, each number of the strip and of the box stands i behind these
abbrev pub centre_place : ℕ
centre_place = 0

abbrev pub axis_place : ℕ
axis_place = 2

abbrev pub box_place : ℕ
box_place = 4

abbrev pub count_place : ℕ
count_place = 6

abbrev pub least_place : ℕ
least_place = 7

abbrev pub greatest_place : ℕ
greatest_place = 9

-- ---- a list's first node by them: one coordinate of its strip, its strip, the same of its box; and the list with another coordinate put there
abbrev pub side_in : List ℤ → ℕ → Side
side_in l i = record { centre = get_or l (i + centre_place) (pos 0); axis = get_or l (i + axis_place) (pos 0); box = get_or l (i + box_place) (pos 0) }

abbrev pub strip_in : List ℤ → Strip
strip_in l = record { x = side_in l 0; y = side_in l 1 }

abbrev pub span_in : List ℤ → ℕ → Span
span_in l i = record { least = get_or l (i + least_place) (pos 0); greatest = get_or l (i + greatest_place) (pos 0) }

abbrev pub box_in : List ℤ → Box
box_in l = record { x = span_in l 0; y = span_in l 1 }

abbrev pub with_side : List ℤ → ℕ → Side → List ℤ
with_side l i s = set (set (set l (i + centre_place) s.centre) (i + axis_place) s.axis) (i + box_place) s.box

abbrev pub with_span : List ℤ → ℕ → Span → List ℤ
with_span l i v = set (set l (i + least_place) v.least) (i + greatest_place) v.greatest

-- ---- a number that was read at place k, which is place n in other words
pub at_place : (l : List ℤ) (n : ℕ) (z : ℤ) (k : ℕ) → z ≡ get_or l k (pos 0) → k ≡ n → z ≡ get_or l n (pos 0)
at_place l n z k e i = e ∙ ap (λ (m : ℕ). get_or l m (pos 0)) i

-- ---- they are those of the model's row
module _ (s : Strip) (n : ℕ) (b : Box) (r : List ℤ) where
  pub centre_placed : (get_or (numbers s n b r) centre_place (pos 0) ≡ s.x.centre) × (get_or (numbers s n b r) (1 + centre_place) (pos 0) ≡ s.y.centre)
  centre_placed = (refl, refl)

  pub axis_placed : (get_or (numbers s n b r) axis_place (pos 0) ≡ s.x.axis) × (get_or (numbers s n b r) (1 + axis_place) (pos 0) ≡ s.y.axis)
  axis_placed = (refl, refl)

  pub box_placed : (get_or (numbers s n b r) box_place (pos 0) ≡ s.x.box) × (get_or (numbers s n b r) (1 + box_place) (pos 0) ≡ s.y.box)
  box_placed = (refl, refl)

  pub count_placed : get_or (numbers s n b r) count_place (pos 0) ≡ pos n
  count_placed = refl

  pub least_placed : (get_or (numbers s n b r) least_place (pos 0) ≡ b.x.least) × (get_or (numbers s n b r) (1 + least_place) (pos 0) ≡ b.y.least)
  least_placed = (refl, refl)

  pub greatest_placed : (get_or (numbers s n b r) greatest_place (pos 0) ≡ b.x.greatest) × (get_or (numbers s n b r) (1 + greatest_place) (pos 0) ≡ b.y.greatest)
  greatest_placed = (refl, refl)

  pub strip_placed : strip_in (numbers s n b r) ≡ s
  strip_placed = refl

  pub around_placed : box_in (numbers s n b r) ≡ b
  around_placed = refl

-- ---- a list by its first numbers, as many as one likes
abbrev row : (ℕ → ℤ) → ℕ → List ℤ → List ℤ
row f zero r = r
row f (suc k) r = f 0 ∷ row (λ (i : ℕ). f (suc i)) k r

heads : (k : ℕ) (l : List ℤ) → k ≤ length l → l ≡ row (λ (i : ℕ). get_or l i (pos 0)) k (drop k l)
heads zero l h = refl
heads (suc k) [] h = absurd (omega arith)
heads (suc k) (z ∷ l) h = ap (λ (t : List ℤ). z ∷ t) (heads k l (omega arith))

-- a list with room for a node is a node, the one that is read there
pub front : (l : List ℤ) (n : ℕ) → width ≤ length l → get_or l count_place (pos 0) ≡ pos n → l ≡ numbers (strip_in l) n (box_in l) (drop width l)
front l n h c = heads width l h ∙ rw c

-- both coordinates of a strip, the count and both coordinates of a box, once put, are a node
abbrev pub written : List ℤ → Side → Side → ℤ → Span → Span → List ℤ
written l x y n h v = with_span (with_span (set (with_side (with_side l 0 x) 1 y) count_place n) 0 h) 1 v

pub put_is : (l : List ℤ) (x y : Side) (n : ℕ) (h v : Span) → width ≤ length l → written l x y (pos n) h v ≡ numbers (record { x = x; y = y }) n (record { x = h; y = v }) (drop width l)
put_is l x y n h v k = ap (λ (t : List ℤ). written t x y (pos n) h v) (heads width l k)

-- ---- a coordinate by its three numbers, a strip by its two coordinates
pub side_eq : {a b c p q r : ℤ} → a ≡ p → b ≡ q → c ≡ r → ◌≡◌ {A = Side} (record { centre = a; axis = b; box = c }) (record { centre = p; axis = q; box = r })
side_eq e f g = cc

pub strip_eq : {a b p q : Side} → a ≡ p → b ≡ q → ◌≡◌ {A = Strip} (record { x = a; y = b }) (record { x = p; y = q })
strip_eq e f = cc

-- ---- a box likewise
pub span_eq : {a b p q : ℤ} → a ≡ p → b ≡ q → ◌≡◌ {A = Span} (record { least = a; greatest = b }) (record { least = p; greatest = q })
span_eq e f = cc

pub box_eq : {a b p q : Span} → a ≡ p → b ≡ q → ◌≡◌ {A = Box} (record { x = a; y = b }) (record { x = p; y = q })
box_eq e f = cc
