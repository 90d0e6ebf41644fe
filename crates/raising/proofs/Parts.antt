-- A raised part of a row, seen from each cell. Assumes nothing.
use Rattle.std.specs.Prelude.{◌≡◌, Bool, ◌&&◌, List, ℕ, ◌+◌, ◌*◌, ◌-◌, ◌≤◌, ◌<◌, max, leb, ltb, eqb, length, get_or}
use Rattle.std.proofs.Common.{drop, refl, ap, ◌∙◌, arith}
use Rattle.std.proofs.Math.Seq.{get_or-take, get_or-drop}
use borrow.Rule.Slice.PartMut.{put_mid, mid_of, mid_len, Post-is}
use Rattle.sequences.specs.Stretches.{part_at}
use Rattle.spans.specs.declared.Span.{Span}
use Rattle.spans.specs.Among.{among}
use Rattle.filling.specs.Squares.{Drawn}
use Rattle.filling.specs.Places.{in_row}
use Rattle.raising.specs.Raised.{raised}

-- the places from a on and below e, seen from place k
module _ (l ys : List ℕ) (a e b : ℕ) (ae : a ≤ e) (room : e ≤ length l) (long : length ys ≡ length (mid_of a (e - a) l))
    (larger : (m : ℕ) → m < length (mid_of a (e - a) l) → get_or ys m 0 ≡ max (get_or (mid_of a (e - a) l) m 0) b) where
  size : length (mid_of a (e - a) l) ≡ e - a
  size = mid_len a e l room

  inner : (k : ℕ) → a ≤ k → k < e → get_or ys (k - a) 0 ≡ max (get_or l k 0) b
  inner k p q =
      let z : a + (k - a) ≡ k = omega arith in
      let old : get_or (mid_of a (e - a) l) (k - a) 0 ≡ get_or l k 0 = get_or-take (e - a) (drop a l) (k - a) 0 (omega arith) ∙ get_or-drop a l (k - a) 0 ∙ ap (λ (m : ℕ). get_or l m 0) z in
      larger (k - a) (omega (arith, size)) ∙ rw old refl

  part_raised : (k : ℕ) → get_or (put_mid a (e - a) l ys) k 0 ≡ raised (leb a k && ltb k e) b (get_or l k 0)
  part_raised k = rw (Post-is a e l ae) (part_at 0 l ys a e k (max (get_or l k 0) b) room (omega (arith, long, size)) (inner k))

-- the columns c of row j
pub row_raised : (l ys : List ℕ) (n j b : ℕ) (c : Span) → c.lo < c.hi → c.hi ≤ n → j * n + n ≤ length l →
    length ys ≡ length (mid_of (j * n + c.lo) (j * n + c.hi - (j * n + c.lo)) l) →
    ((m : ℕ) → m < length (mid_of (j * n + c.lo) (j * n + c.hi - (j * n + c.lo)) l) → get_or ys m 0 ≡ max (get_or (mid_of (j * n + c.lo) (j * n + c.hi - (j * n + c.lo)) l) m 0) b) →
    Drawn n (put_mid (j * n + c.lo) (j * n + c.hi - (j * n + c.lo)) l ys) l (λ i y. raised (eqb y j && among c i) b)
row_raised l ys n j b c h w room long larger = record {
  cells = λ i y i<.
      part_raised l ys (j * n + c.lo) (j * n + c.hi) b (omega arith) (omega arith) long larger (y * n + i)
      ∙ ap (λ (t : Bool). raised t b (get_or l (y * n + i) 0)) (in_row n j c.lo c.hi i y i< w);
}
