-- A part of a cell inherits a tree's answers, where the tree covers a set, for any way to judge of which one record holds. Assumes nothing.
use Rattle.std.specs.Prelude.{◌≡◌, refl, pos}
use Rattle.std.proofs.Math.Logic.{⊎_elim}
use Rattle.integers.specs.Order.{◌≼◌}
use Rattle.model.specs.Fractions.{Point}
use Rattle.model.specs.Strips.{Strip}
use Rattle.model.specs.Exact.{Points}
use Rattle.model.specs.Trees.{Tree}
use Rattle.model.specs.Explore.{Cell, Answer, inside, away, maybe, join, settle, explore}
use Rattle.enclosure.specs.Covers.{In, Covers, at_leaf, at_long, at_node}
use Rattle.verdicts.specs.AnswerCases.{settle_inside, settle_away, join_inside, join_away}
use Rattle.verdicts.specs.Trees.{Sound, some, tree_inside, tree_away}
use Rattle.inheritance.specs.Parts.{PartOf}

-- what is asked of a way to judge a strip for a cell: a part of the cell inherits inside and away of a strip that has a point, and of two
-- strips with a point in common one is not inside where the other is away
pub record Judges (v : Cell → Strip → Answer) : Type 0 where
  pub inside_part : (c d : Cell) → PartOf d c → (S : Strip) (P : Point) → In S P → v c S ≡ inside → v d S ≡ inside
  pub away_part : (c d : Cell) → PartOf d c → (S : Strip) (P : Point) → In S P → v c S ≡ away → v d S ≡ away
  pub exclude : (d : Cell) → pos 0 ≼ d.s → (S T : Strip) (P : Point) → In S P → In T P → v d S ≡ inside → v d T ≡ away → ⊥

-- ---- answers, by cases
settled_inside : (a b : Answer) → (a ≡ away → ⊥) → b ≡ inside → settle a b ≡ inside
settled_inside inside b f e = refl
settled_inside away b f e = absurd (f refl)
settled_inside maybe b f e = e

settled_away : (a b : Answer) → (a ≡ inside → ⊥) → b ≡ away → settle a b ≡ away
settled_away inside b f e = absurd (f refl)
settled_away away b f e = refl
settled_away maybe b f e = e

own_inside : (a b : Answer) → a ≡ inside → settle a b ≡ inside
own_inside a b e = rw e

own_away : (a b : Answer) → a ≡ away → settle a b ≡ away
own_away a b e = rw e

pub left_inside : (a b : Answer) → a ≡ inside → join a b ≡ inside
left_inside a b e = rw e

pub right_inside : (a b : Answer) → b ≡ inside → join a b ≡ inside
right_inside inside b e = refl
right_inside away b e = e
right_inside maybe b e = rw e

pub both_away : (a b : Answer) → a ≡ away → b ≡ away → join a b ≡ away
both_away a b e f = rw (e, f)

-- ---- the laws, for a part d of c
module _ (v : Cell → Strip → Answer) (w : Judges v) (c d : Cell) (part : PartOf d c) where
  -- a point is told inside, or away, by some strip that it is in
  abbrev Told : Answer → Points
  Told a P = (S : Strip) × In S P × (v d S ≡ a)

  sound : Sound (pos 0) (v d) (Told inside) (Told away) (λ P. Unit {0}) (λ P. Unit {0})
  sound = record {
    if_inside = λ S P i e. (S, i, e);
    if_away = λ S P i e. (S, i, e);
    if_maybe_lower = λ S P i s e. tt;
    if_maybe_upper = λ S P i s e. tt;
    far_lower = λ P f. tt;
    near_upper = λ P n. tt;
  }

  -- no half is inside where the whole is away, and no whole is where its halves are
  pub tree_inside_part : {A : Points} {t : Tree} → Covers A t → explore (v c) t ≡ inside → explore (v d) t ≡ inside
  unfolding explore
  tree_inside_part (at_leaf {s = s} h P a) e = w.inside_part c d part s P (h P a) e
  tree_inside_part (at_long {s = s} h P a) e = w.inside_part c d part s P (h P a) e
  tree_inside_part (at_node {S = S} {s = s} {l = l} {r = q} h A B u f g x y) e =
      let hl = tree_inside_part x in
      let hq = tree_inside_part y in
      let m = some x in
      let not : (P : Point) → S P → Told inside P → v d s ≡ away → ⊥ = λ P a n k. w.exclude d part.half n.0 s P n.1 (h P a) n.2 k in
      ⊎_elim
      (λ (i : v c s ≡ inside). own_inside (v d s) (join (explore (v d) l) (explore (v d) q)) (w.inside_part c d part s m.0 (h m.0 (f m.0 m.1)) i))
      (λ (i : join (explore (v c) l) (explore (v c) q) ≡ inside). ⊎_elim
      (λ (k : explore (v c) l ≡ inside).
      let n = tree_inside (pos 0) (v d) (Told inside) (Told away) (λ P. Unit {0}) (λ P. Unit {0}) sound x (hl k) in
      settled_inside (v d s) (join (explore (v d) l) (explore (v d) q)) (not n.0 (f n.0 n.1) n.2) (left_inside (explore (v d) l) (explore (v d) q) (hl k)))
      (λ (k : explore (v c) q ≡ inside).
      let n = tree_inside (pos 0) (v d) (Told inside) (Told away) (λ P. Unit {0}) (λ P. Unit {0}) sound y (hq k) in
      settled_inside (v d s) (join (explore (v d) l) (explore (v d) q)) (not n.0 (g n.0 n.1) n.2) (right_inside (explore (v d) l) (explore (v d) q) (hq k)))
      (join_inside (explore (v c) l) (explore (v c) q) i))
      (settle_inside (v c s) (join (explore (v c) l) (explore (v c) q)) e)

  pub tree_away_part : {A : Points} {t : Tree} → Covers A t → explore (v c) t ≡ away → explore (v d) t ≡ away
  unfolding explore
  tree_away_part (at_leaf {s = s} h P a) e = w.away_part c d part s P (h P a) e
  tree_away_part (at_long {s = s} h P a) e = w.away_part c d part s P (h P a) e
  tree_away_part (at_node {S = S} {s = s} {l = l} {r = q} h A B u f g x y) e =
      let hl = tree_away_part x in
      let hq = tree_away_part y in
      let m = some x in
      let here = h m.0 (f m.0 m.1) in
      ⊎_elim
      (λ (i : v c s ≡ away). own_away (v d s) (join (explore (v d) l) (explore (v d) q)) (w.away_part c d part s m.0 here i))
      (λ (i : join (explore (v c) l) (explore (v c) q) ≡ away).
      let k = join_away (explore (v c) l) (explore (v c) q) i in
      let n = tree_away (pos 0) (v d) (Told inside) (Told away) (λ P. Unit {0}) (λ P. Unit {0}) sound x (hl k.0) m.0 m.1 in
      settled_away (v d s) (join (explore (v d) l) (explore (v d) q)) (λ z. w.exclude d part.half s n.0 m.0 here n.1 z n.2)
      (both_away (explore (v d) l) (explore (v d) q) (hl k.0) (hq k.1)))
      (settle_away (v c s) (join (explore (v c) l) (explore (v c) q)) e)
