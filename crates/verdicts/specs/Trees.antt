-- What the answer for a tree means, from what it means for a strip. For any way to judge a strip, and any tree that covers a set. Assumes nothing.
use Rattle.std.specs.Prelude.{◌≡◌, true, List, [], ◌∷◌, ℤ}
use Rattle.std.proofs.Math.Path.{refl}
use Rattle.std.proofs.Math.Logic.{⊎_elim}
use Rattle.model.specs.Fractions.{Point}
use Rattle.model.specs.Strips.{Strip, short}
use Rattle.model.specs.Exact.{Points}
use Rattle.model.specs.Trees.{Tree, leaf, long, node}
use Rattle.model.specs.Explore.{Answer, inside, away, maybe, join, explore, explore_all}
use Rattle.verdicts.specs.AnswerCases.{clash, settle_inside, settle_away, settle_not_inside, settle_not_away, join_inside, join_away, join_not_inside, join_not_away}
use Rattle.enclosure.specs.Covers.{In, Covers, at_leaf, at_long, at_node, CoversAll, at_end, at_cons}

-- what a strip's answer says of the points in it. `lower` and `upper` are the two halves of the band
pub record Sound (T : ℤ) (v : Strip → Answer) (near far lower upper : Points) : Type 0 where
  pub if_inside : (S : Strip) (P : Point) → In S P → v S ≡ inside → near P
  pub if_away : (S : Strip) (P : Point) → In S P → v S ≡ away → far P
  pub if_maybe_lower : (S : Strip) (P : Point) → In S P → short T S ≡ true → v S ≡ maybe → lower P
  pub if_maybe_upper : (S : Strip) (P : Point) → In S P → short T S ≡ true → v S ≡ maybe → upper P
  pub far_lower : (P : Point) → far P → lower P
  pub near_upper : (P : Point) → near P → upper P

-- every leaf is short, and no piece is long
abbrev pub Shorts : ℤ → Tree → Type 0
Shorts T (leaf S) = short T S ≡ true
Shorts T (long S) = ⊥
Shorts T (node S l r) = Shorts T l × Shorts T r

abbrev pub AllShorts : ℤ → List Tree → Type 0
AllShorts T [] = Unit {0}
AllShorts T (t ∷ ts) = Shorts T t × AllShorts T ts

-- every set that is covered has a point
pub some : {S : Points} {t : Tree} → Covers S t → (P : Point) × S P
some (at_leaf h P a) = (P, a)
some (at_long h P a) = (P, a)
some (at_node h A B c l r u v) = let p = some u in (p.0, l p.0 p.1)

module _ (T : ℤ) (v : Strip → Answer) (near far lower upper : Points) (sound : Sound T v near far lower upper) where
  -- a leaf
  at_lower : (S : Strip) (P : Point) → In S P → short T S ≡ true → (a : Answer) → v S ≡ a → (a ≡ inside → ⊥) → lower P
  at_lower S P h s inside e f = absurd (f refl)
  at_lower S P h s away e f = sound.far_lower P (sound.if_away S P h e)
  at_lower S P h s maybe e f = sound.if_maybe_lower S P h s e

  at_upper : (S : Strip) (P : Point) → In S P → short T S ≡ true → (a : Answer) → v S ≡ a → (a ≡ away → ⊥) → upper P
  at_upper S P h s inside e f = sound.near_upper P (sound.if_inside S P h e)
  at_upper S P h s away e f = absurd (f refl)
  at_upper S P h s maybe e f = sound.if_maybe_upper S P h s e

  -- inside: one node has a point, and that is near
  pub tree_inside : {S : Points} {t : Tree} → Covers S t → explore v t ≡ inside → (P : Point) × S P × near P
  unfolding explore
  tree_inside (at_leaf {s = s} h P a) e = (P, a, sound.if_inside s P (h P a) e)
  tree_inside (at_long {s = s} h P a) e = (P, a, sound.if_inside s P (h P a) e)
  tree_inside (at_node {S = S} {s = s} {l = l} {r = r} h A B c f g p q) e =
      let m = some p in
      let hl = tree_inside p in
      let hr = tree_inside q in
      ⊎_elim
      (λ (i : v s ≡ inside). (m.0, f m.0 m.1, sound.if_inside s m.0 (h m.0 (f m.0 m.1)) i))
      (λ (i : join (explore v l) (explore v r) ≡ inside). ⊎_elim
      (λ (k : explore v l ≡ inside). let x = hl k in (x.0, f x.0 x.1, x.2))
      (λ (k : explore v r ≡ inside). let x = hr k in (x.0, g x.0 x.1, x.2))
      (join_inside (explore v l) (explore v r) i))
      (settle_inside (v s) (join (explore v l) (explore v r)) e)

  -- away: every point is far
  pub tree_away : {S : Points} {t : Tree} → Covers S t → explore v t ≡ away → (P : Point) → S P → far P
  unfolding explore
  tree_away (at_leaf {s = s} h P a) e P' a' = sound.if_away s P' (h P' a') e
  tree_away (at_long {s = s} h P a) e P' a' = sound.if_away s P' (h P' a') e
  tree_away (at_node {S = S} {s = s} {l = l} {r = r} h A B c f g p q) e P' a' =
      let hl = tree_away p in
      let hr = tree_away q in
      ⊎_elim
      (λ (i : v s ≡ away). sound.if_away s P' (h P' a') i)
      (λ (i : join (explore v l) (explore v r) ≡ away).
      let k = join_away (explore v l) (explore v r) i in
      ⊎_elim (λ (x : A P'). hl k.0 P' x) (λ (x : B P'). hr k.1 P' x) (c P' a'))
      (settle_away (v s) (join (explore v l) (explore v r)) e)

  -- not inside: every point keeps off, at a node that answered away or at a leaf that did not answer inside
  pub tree_lower : {S : Points} {t : Tree} → Covers S t → Shorts T t → (explore v t ≡ inside → ⊥) → (P : Point) → S P → lower P
  unfolding explore
  tree_lower (at_leaf {s = s} h P a) sh n P' a' = at_lower s P' (h P' a') sh (v s) refl n
  tree_lower (at_long h P a) sh n P' a' = absurd sh
  tree_lower (at_node {S = S} {s = s} {l = l} {r = r} h A B c f g p q) sh n P' a' =
      let hl = tree_lower p in
      let hr = tree_lower q in
      ⊎_elim
      (λ (i : v s ≡ away). sound.far_lower P' (sound.if_away s P' (h P' a') i))
      (λ (i : join (explore v l) (explore v r) ≡ inside → ⊥).
      let k = join_not_inside (explore v l) (explore v r) i in
      ⊎_elim (λ (x : A P'). hl sh.0 k.0 P' x) (λ (x : B P'). hr sh.1 k.1 P' x) (c P' a'))
      (settle_not_inside (v s) (join (explore v l) (explore v r)) n)

  -- not away: some point is not far, at a node that answered inside or at a leaf that did not answer away
  pub tree_upper : {S : Points} {t : Tree} → Covers S t → Shorts T t → (explore v t ≡ away → ⊥) → (P : Point) × S P × upper P
  unfolding explore
  tree_upper (at_leaf {s = s} h P a) sh n = (P, a, at_upper s P (h P a) sh (v s) refl n)
  tree_upper (at_long h P a) sh n = absurd sh
  tree_upper (at_node {S = S} {s = s} {l = l} {r = r} h A B c f g p q) sh n =
      let m = some p in
      let hl = tree_upper p in
      let hr = tree_upper q in
      ⊎_elim
      (λ (i : v s ≡ inside). (m.0, f m.0 m.1, sound.near_upper m.0 (sound.if_inside s m.0 (h m.0 (f m.0 m.1)) i)))
      (λ (i : join (explore v l) (explore v r) ≡ away → ⊥). ⊎_elim
      (λ (k : explore v l ≡ away → ⊥). let x = hl sh.0 k in (x.0, f x.0 x.1, x.2))
      (λ (k : explore v r ≡ away → ⊥). let x = hr sh.1 k in (x.0, g x.0 x.1, x.2))
      (join_not_away (explore v l) (explore v r) i))
      (settle_not_away (v s) (join (explore v l) (explore v r)) n)

  -- ---- the same for a list of trees
  pub all_inside : {S : Points} {ts : List Tree} → CoversAll S ts → explore_all v ts ≡ inside → (P : Point) × S P × near P
  unfolding explore_all
  all_inside (at_end z) e = clash (cc)
  all_inside (at_cons {t = t} {ts = ts} A B c f g p q) e =
      let hr = all_inside q in
      ⊎_elim
      (λ (k : explore v t ≡ inside). let x = tree_inside p k in (x.0, f x.0 x.1, x.2))
      (λ (k : explore_all v ts ≡ inside). let x = hr k in (x.0, g x.0 x.1, x.2))
      (join_inside (explore v t) (explore_all v ts) e)

  pub all_away : {S : Points} {ts : List Tree} → CoversAll S ts → explore_all v ts ≡ away → (P : Point) → S P → far P
  unfolding explore_all
  all_away (at_end z) e P a = absurd (z P a)
  all_away (at_cons {t = t} {ts = ts} A B c f g p q) e P a =
      let hr = all_away q in
      let k = join_away (explore v t) (explore_all v ts) e in
      ⊎_elim (λ (x : A P). tree_away p k.0 P x) (λ (x : B P). hr k.1 P x) (c P a)

  pub all_lower : {S : Points} {ts : List Tree} → CoversAll S ts → AllShorts T ts → (explore_all v ts ≡ inside → ⊥) → (P : Point) → S P → lower P
  unfolding explore_all
  all_lower (at_end z) sh n P a = absurd (z P a)
  all_lower (at_cons {t = t} {ts = ts} A B c f g p q) sh n P a =
      let hr = all_lower q in
      let k = join_not_inside (explore v t) (explore_all v ts) n in
      ⊎_elim (λ (x : A P). tree_lower p sh.0 k.0 P x) (λ (x : B P). hr sh.1 k.1 P x) (c P a)

  pub all_upper : {S : Points} {ts : List Tree} → CoversAll S ts → AllShorts T ts → (explore_all v ts ≡ away → ⊥) → (P : Point) × S P × upper P
  unfolding explore_all
  all_upper (at_end z) sh n = absurd (n refl)
  all_upper (at_cons {t = t} {ts = ts} A B c f g p q) sh n =
      let hr = all_upper q in
      ⊎_elim
      (λ (k : explore v t ≡ away → ⊥). let x = tree_upper p sh.0 k in (x.0, f x.0 x.1, x.2))
      (λ (k : explore_all v ts ≡ away → ⊥). let x = hr sh.1 k in (x.0, g x.0 x.1, x.2))
      (join_not_away (explore v t) (explore_all v ts) n)
