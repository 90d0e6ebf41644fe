-- What the builder leaves after both halves. Assumes nothing.
use mathlib.Core.Path.{◌≡◌, sym, ap, ap₂, ◌∙◌}
use mathlib.Core.List.{List, ◌++◌, append_assoc}
use Prim.Native.Nat.{ℕ, suc, ◌+◌, ◌*◌, ◌-◌, ◌≤◌}
use native.Mathlib.Omega.{arith}
use lib.IntN.{ℤ}
use lib.ListN.{length, take, drop, length-append, length-drop}
use lib.Seq.{take_at, drop_at, drop-drop, length-take-le}
use borrow.Rule.Slice.PartMut.{put_mid, mid_of}
use Rattle.sequences.specs.Parts.{tail_mid, tail_put}
use Rattle.model.specs.Strips.{Strip}
use Rattle.model.specs.Trees.{Tree}
use Rattle.model.specs.Boxes.{Box, around, box_of}
use Rattle.model.specs.Store.{width, size, numbers, flatten}
use Rattle.nodes.specs.Places.{box_in}
use Rattle.subtrees.specs.Preorder.{length_flatten, Begins, begins_box}

two' : (p a b t : List ℤ) (i j : ℕ) → length p ≡ width → length (p ++ a) ≡ i →
    drop width (take i (p ++ (a ++ t)) ++ (b ++ drop j (drop i (p ++ (a ++ t))))) ≡ (a ++ b) ++ drop j t
two' p a b t i j hp hi =
    rw (← append_assoc p a t, take_at (p ++ a) t i hi, drop_at (p ++ a) t i hi, append_assoc p a, drop_at p _ width hp)
    (sym (append_assoc a b (drop j t)))

-- what the builder leaves after the first node's numbers
pub two : (s a b : List ℤ) (m n : ℕ) → length a ≡ width * m → width + width * m + width * n ≤ length s →
    drop width (take (width + width * m) (take width s ++ (a ++ drop (width * m) (drop width s))) ++ (b ++ drop (width * n) (drop (width + width * m) (take width s ++ (a ++ drop (width * m) (drop width s))))))
    ≡ (a ++ b) ++ drop (width * suc (m + n)) s
two s a b m n ha h =
    let z : length (take width s) ≡ width = length-take-le width s (omega arith) in
    let y : width + width * m + width * n ≡ width * suc (m + n) = omega arith in
    two' (take width s) a b (drop (width * m) (drop width s)) (width + width * m) (width * n) z (omega (arith, length-append (take width s) a))
    ∙ rw (drop-drop (width * m) width s, drop-drop (width * n) (width + width * m) s, y)

-- s with the left half's part u put behind the first node, and with the right half's v behind m nodes more
abbrev pub lent : List ℤ → List ℤ → List ℤ
lent s u = put_mid width (length s - width) s u

kept_length : (p : ℕ) (s u : List ℤ) → p ≤ length s → length u ≡ length (mid_of p (length s - p) s) → length (put_mid p (length s - p) s u) ≡ length s
kept_length p s u h e =
    let z : length (take p s) ≡ p = length-take-le p s h in
    let k : length u ≡ length s - p = rw (tail_mid p s, length-drop) at e in
    rw (tail_put p s u h) (omega (arith, length-append (take p s) u))

-- it is as long
pub lent_length : (s u : List ℤ) → width ≤ length s → length u ≡ length (mid_of width (length s - width) s) → length (lent s u) ≡ length s
lent_length s u h e = kept_length width s u h e

abbrev pub lent_both : List ℤ → List ℤ → ℕ → List ℤ → List ℤ
lent_both s u m v = put_mid (width + width * m) (length (lent s u) - (width + width * m)) (lent s u) v

pub both_length : (s u v : List ℤ) (m : ℕ) → length (lent s u) ≡ length s → width + width * m ≤ length s → length v ≡ length (mid_of (width + width * m) (length (lent s u) - (width + width * m)) (lent s u)) → length (lent_both s u m v) ≡ length s
both_length s u v m n h e = kept_length (width + width * m) (lent s u) v (omega arith) e ∙ n

-- the same with the parts as they come back from the two calls
pub both : (s u v : List ℤ) (l r : Tree) (m : ℕ) → m ≡ size l → width + width * size l + width * size r ≤ length s →
    length (lent s u) ≡ length s →
    u ≡ flatten l ++ drop (width * size l) (mid_of width (length s - width) s) →
    v ≡ flatten r ++ drop (width * size r) (mid_of (width + width * m) (length (lent s u) - (width + width * m)) (lent s u)) →
    drop width (lent_both s u m v) ≡ (flatten l ++ flatten r) ++ drop (width * suc (size l + size r)) s
both s u v l r m e h n p q =
    let i : width ≤ length s = omega arith in
    let j : width + width * m ≤ length (lent s u) = omega arith in
    let k : lent s u ≡ take width s ++ (flatten l ++ drop (width * size l) (drop width s)) = tail_put width s u i ∙ ap (λ (z : List ℤ). take width s ++ z) (p ∙ ap (λ (z : List ℤ). flatten l ++ drop (width * size l) z) (tail_mid width s)) in
    let w = rw (tail_mid (width + width * m) (lent s u)) at q in
    rw (tail_put (width + width * m) (lent s u) v j, w, k, e) (two s (flatten l) (flatten r) (size l) (size r) (length_flatten l) h)

-- a node's numbers by its strip and its box
pub put_eq : {s u : Strip} {b c : Box} (n : ℕ) (l : List ℤ) → s ≡ u → b ≡ c → numbers s n b l ≡ numbers u n c l
put_eq n l e f = rw (e, f)

-- a box around the two that are stored behind a node
pub around_eq : (l : List ℤ) (a b : Tree) (p : ℕ) {x : Box} → Begins a (drop width l) × Begins b (drop (width + width * size a) l) → p ≡ width + width * size a
    → x ≡ around (box_in (drop width l)) (box_in (drop p l)) → x ≡ around (box_of a) (box_of b)
around_eq l a b p w i e = e ∙ ap (λ (p : ℕ). around (box_in (drop width l)) (box_in (drop p l))) i ∙ ap₂ around (begins_box a (drop width l) w.0) (begins_box b (drop (width + width * size a) l) w.1)
