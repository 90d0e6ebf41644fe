-- Lists that begin with a tree's numbers in preorder: where its node's numbers and its halves stand, and what makes one. Assumes nothing.
use Rattle.std.specs.Prelude.{◌≡◌, refl, List, [], ◌∷◌, ◌++◌, ℕ, suc, ◌+◌, ◌*◌, ◌-◌, ◌≤◌, ℤ, pos, length, get_or, take, drop}
use Rattle.std.proofs.Common.{sym, ap, ◌∙◌, append_assoc, arith, length-append, length-drop, take_all, drop_at, drop-drop}
use Rattle.model.specs.Strips.{Strip}
use Rattle.model.specs.Trees.{Tree, leaf, long, node}
use Rattle.model.specs.Boxes.{Box, upright, around, box_of}
use Rattle.model.specs.Store.{width, size, sizes, numbers, flatten, flatten_all}
use Rattle.nodes.specs.Places as nodes
use Rattle.nodes.specs.Places.{count_place, strip_in, box_in, strip_placed, around_placed}

-- ---- how many numbers
pub size_pos : (t : Tree) → 1 ≤ size t
size_pos (leaf s) = omega arith
size_pos (long s) = omega arith
size_pos (node s l r) = omega arith

pub length_flatten : (t : Tree) → length (flatten t) ≡ width * size t
length_flatten (leaf s) = refl
length_flatten (long s) = refl
length_flatten (node s l r) = omega (arith, length-append (flatten l) (flatten r), length_flatten l, length_flatten r)

pub length_all : (ts : List Tree) → length (flatten_all ts) ≡ width * sizes ts
length_all [] = refl
length_all (t ∷ ts) = omega (arith, length-append (flatten t) (flatten_all ts), length_flatten t, length_all ts)

-- a part that runs to the end of its slice
pub tail : (p : ℕ) (l : List ℤ) → take (length l - p) (drop p l) ≡ drop p l
tail p l = take_all (length l - p) (drop p l) (rw length-drop (omega arith))

-- ---- a list that begins with a tree, with several
abbrev pub Begins : Tree → List ℤ → Type 0
Begins t l = l ≡ flatten t ++ drop (width * size t) l

abbrev pub BeginsAll : List Tree → List ℤ → Type 0
BeginsAll ts l = l ≡ flatten_all ts ++ drop (width * sizes ts) l

pub later : (l r : List ℤ) (t : Tree) → l ≡ flatten t ++ r → drop (width * size t) l ≡ r
later l r t e = ap (λ (z : List ℤ). drop (width * size t) z) e ∙ drop_at (flatten t) r (width * size t) (length_flatten t)

pub begun : (l r : List ℤ) (t : Tree) → l ≡ flatten t ++ r → Begins t l
begun l r t e = e ∙ ap (λ (z : List ℤ). flatten t ++ z) (sym (later l r t e))

pub all_begun : (l r : List ℤ) (ts : List Tree) → l ≡ flatten_all ts ++ r → BeginsAll ts l
all_begun l r ts e =
    e ∙ ap (λ (z : List ℤ). flatten_all ts ++ z) (sym (ap (λ (z : List ℤ). drop (width * sizes ts) z) e ∙ drop_at (flatten_all ts) r (width * sizes ts) (length_all ts)))

-- ---- the first node, by the places of its numbers. Its count is the tree's, whatever follows
count_first : (t : Tree) (rest : List ℤ) → get_or (flatten t ++ rest) count_place (pos 0) ≡ pos (size t)
count_first (leaf s) rest = refl
count_first (long s) rest = refl
count_first (node s l r) rest = refl

front : (l : List ℤ) (s : Strip) (n : ℕ) (b : Box) → width ≤ length l → strip_in l ≡ s → get_or l count_place (pos 0) ≡ pos n → box_in l ≡ b → l ≡ numbers s n b (drop width l)
front l s n b h k c e = nodes.front l n h c ∙ ap (λ (z : Strip). numbers z n (box_in l) (drop width l)) k ∙ ap (λ (z : Box). numbers s n z (drop width l)) e

-- what is read of a node, where the list is one and then r
read_of : (l r : List ℤ) (s : Strip) (n : ℕ) (b : Box) → l ≡ numbers s n b r → (strip_in l ≡ s) × (box_in l ≡ b)
read_of l r s n b e = (ap strip_in e ∙ strip_placed s n b r, ap box_in e ∙ around_placed s n b r)

abbrev pub top : Tree → Strip
top (leaf s) = s
top (long s) = s
top (node s l r) = s

begins_read : (t : Tree) (l : List ℤ) → Begins t l → (strip_in l ≡ top t) × (box_in l ≡ box_of t)
begins_read (leaf s) l e = read_of l (drop width l) s 1 (upright s) e
begins_read (long s) l e = read_of l (drop width l) s 1 (upright s) e
begins_read (node s a b) l e = read_of l ((flatten a ++ flatten b) ++ drop (width * suc (size a + size b)) l) s (suc (size a + size b)) (around (box_of a) (box_of b)) e

pub begins_strip : (t : Tree) (l : List ℤ) → Begins t l → strip_in l ≡ top t
begins_strip t l e = (begins_read t l e).0

pub begins_box : (t : Tree) (l : List ℤ) → Begins t l → box_in l ≡ box_of t
begins_box t l e = (begins_read t l e).1

pub begins_count : (t : Tree) (l : List ℤ) → Begins t l → get_or l count_place (pos 0) ≡ pos (size t)
begins_count t l e = ap (λ (z : List ℤ). get_or z count_place (pos 0)) e ∙ count_first t (drop (width * size t) l)

pub leaf_begins : (l : List ℤ) (s : Strip) → width ≤ length l → strip_in l ≡ s → get_or l count_place (pos 0) ≡ pos 1 → box_in l ≡ upright s → Begins (leaf s) l
leaf_begins l s h k c e = front l s 1 (upright s) h k c e

-- ---- a node and its halves
pub halves_begin : (l rest : List ℤ) (a b : Tree) → drop width l ≡ (flatten a ++ flatten b) ++ rest → Begins a (drop width l) × Begins b (drop (width + width * size a) l)
halves_begin l rest a b e =
    let u : drop width l ≡ flatten a ++ (flatten b ++ rest) = e ∙ append_assoc (flatten a) (flatten b) rest in
    (begun (drop width l) (flatten b ++ rest) a u, begun (drop (width + width * size a) l) rest b (sym (drop-drop (width * size a) width l) ∙ later (drop width l) (flatten b ++ rest) a u))

pub node_halves : (l : List ℤ) (s : Strip) (a b : Tree) → Begins (node s a b) l → Begins a (drop width l) × Begins b (drop (width + width * size a) l)
node_halves l s a b e = halves_begin l (drop (width * suc (size a + size b)) l) a b (ap (λ (z : List ℤ). drop width z) e)

pub node_begins : (l : List ℤ) (s : Strip) (a b : Tree) → width ≤ length l → strip_in l ≡ s → Begins a (drop width l) → Begins b (drop (width + width * size a) l) → get_or l count_place (pos 0) ≡ pos (suc (size a + size b)) → box_in l ≡ around (box_of a) (box_of b) →
    Begins (node s a b) l
node_begins l s a b h k p q c e =
    let i : width + width * size a + width * size b ≡ width * suc (size a + size b) = omega arith in
    let u : drop (width + width * size a) l ≡ flatten b ++ drop (width * suc (size a + size b)) l = q ∙ ap (λ (z : List ℤ). flatten b ++ z) (drop-drop (width * size b) (width + width * size a) l ∙ ap (λ (n : ℕ). drop n l) i) in
    let v : drop width l ≡ flatten a ++ (flatten b ++ drop (width * suc (size a + size b)) l) = p ∙ ap (λ (z : List ℤ). flatten a ++ z) (drop-drop (width * size a) width l ∙ u) in
    front l s (suc (size a + size b)) (around (box_of a) (box_of b)) h k c e ∙ ap (λ (z : List ℤ). numbers s (suc (size a + size b)) (around (box_of a) (box_of b)) z) (v ∙ sym (append_assoc (flatten a) (flatten b) (drop (width * suc (size a + size b)) l)))

-- ---- several trees
pub joined : (s : List ℤ) (t : Tree) (us : List Tree) → flatten t ++ (flatten_all us ++ drop (width * sizes us) (drop (width * size t) s)) ≡ (flatten t ++ flatten_all us) ++ drop (width * (size t + sizes us)) s
joined s t us =
    let k : width * size t + width * sizes us ≡ width * (size t + sizes us) = omega arith in
    sym (append_assoc (flatten t) (flatten_all us) (drop (width * sizes us) (drop (width * size t) s)))
    ∙ ap (λ (z : List ℤ). (flatten t ++ flatten_all us) ++ z) (drop-drop (width * sizes us) (width * size t) s ∙ ap (λ (i : ℕ). drop i s) k)

pub all_yes : (t : Tree) (us : List Tree) (s : List ℤ) → Begins t s → BeginsAll us (drop (width * size t) s) → BeginsAll (t ∷ us) s
all_yes t us s p q = p ∙ ap (λ (z : List ℤ). flatten t ++ z) q ∙ joined s t us

after_first : (t : Tree) (us : List Tree) (s : List ℤ) → BeginsAll (t ∷ us) s → s ≡ flatten t ++ (flatten_all us ++ drop (width * sizes us) (drop (width * size t) s))
after_first t us s b = b ∙ sym (joined s t us)

pub all_first : (t : Tree) (us : List Tree) (s : List ℤ) → BeginsAll (t ∷ us) s → Begins t s
all_first t us s b = begun s (flatten_all us ++ drop (width * sizes us) (drop (width * size t) s)) t (after_first t us s b)

pub all_others : (t : Tree) (us : List Tree) (s : List ℤ) → BeginsAll (t ∷ us) s → BeginsAll us (drop (width * size t) s)
all_others t us s b = later s (flatten_all us ++ drop (width * sizes us) (drop (width * size t) s)) t (after_first t us s b)
