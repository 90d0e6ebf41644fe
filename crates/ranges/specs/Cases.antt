-- RULES, "Cases": each check fails in its row's case and in no other. Assumes nothing.
use Rattle.std.specs.Prelude.{◌≡◌, Bool, not, ◌&&◌, ◌||◌, List, [], ◌∷◌, ◌⊎◌, leb, eqb, ℤ, pos, negsuc, ◌-ℤ◌, length, get_or, drop, ◌<ℤ◌}
use Rattle.std.proofs.Math.Path.{refl, subst}
use Rattle.std.proofs.Common.{sym, ap, ◌∙◌, inl, inr, add-one, lt→ltb, get_or-drop, leb-false, eqb-true}
use Rattle.std.proofs.Math.Bool.{true, false}
use Rattle.std.proofs.Math.Logic.{⊎_elim}
use Prim.Native.Nat.{ℕ, zero, suc, ◌+◌, ◌*◌, ◌/◌, ◌≤◌, ◌<◌}
use native.Mathlib.Omega.{arith}
use Rattle.std.proofs.Math.Dec.{T}
use Rattle.std.specs.Int.Signed.{le_z, lt_z, lt_z_yes, clash_ℤ}
use Rattle.std.proofs.lemmas.Bool.{lt-leb, eqb-false}
use Rattle.integers.specs.Tests.{le_true, or_true, or_yes}
use Rattle.model.specs.declared.Job.{Job}
use Rattle.model.specs.Jobs.{Edge, between, coordinate, coordinates, is_zero, is_one, spare, kind, placed, marked, counted, ranged, celled, edge_at, edges_from, outline}
use Rattle.model.specs.Strips.{strip, short}
use Rattle.model.specs.Trees.{leaf, long, node, pieces, tree, trees, is_long, any_long}
use Rattle.model.specs.Store.{forest, store_of, begins}
use Rattle.model.specs.Entries.{spots_in, spots_fit}
use Rattle.model.specs.Cases.{EdgesCase, Outside, Strays, PlaceCase, MarkCase, RangeCase, SpotCase, RowCase, CellCase, Reached, LongPiece, LongCase, StrangerCase, SheafCase}
use Rattle.ranges.specs.Equal.{begins_is, begins_self}

-- ---- tests that fail
-- a test fails just where something holds
abbrev pub Just : Bool → Type 0 → Type 0
Just b P = (b ≡ false → P) × (P → b ≡ false)

pub either : (a b : Bool) (P Q : Type 0) → Just a P → Just b Q → Just (a && b) (P ⊎ Q)
either true b P Q p q = ((λ e. inr (q.0 e)), by)
  where
    by : P ⊎ Q → b ≡ false
    by (inl h) = absurd (subst T (p.1 h) tt)
    by (inr h) = q.1 h
either false b P Q p q = ((λ e. inl (p.0 refl)), (λ h. refl))

pub less : (m n : ℕ) → Just (leb m n) (n < m)
less m n = (leb-false m n, lt-leb m n)

less_ℤ : (y z : ℤ) → Just (le_z y z) (z <ℤ y)
less_ℤ y z = ((λ e. lt_z_yes (other y z e)), (λ h. go h (le_z y z) refl))
  where
    other : (y z : ℤ) → le_z y z ≡ false → T (lt_z z y)
    other (pos a) (pos b) e = lt→ltb b a (leb-false a b e)
    other (pos a) (negsuc b) e = tt
    other (negsuc a) (pos b) e = subst T e tt
    other (negsuc a) (negsuc b) e = lt→ltb a b (leb-false b a e)

    go : z <ℤ y → (t : Bool) → le_z y z ≡ t → t ≡ false
    go h true e = clash_ℤ h (le_true e)
    go h false e = refl

unlike : (m n : ℕ) → Just (eqb m n) (m ≡ n → ⊥)
unlike m n = (eqb-false m n, (λ h. go (eqb m n) refl h))
  where
    go : (t : Bool) → eqb m n ≡ t → (m ≡ n → ⊥) → t ≡ false
    go true e h = absurd (h (eqb-true m n e))
    go false e h = refl

as_well : (b : Bool) (P Q : Type 0) → Just b P → (P → Q) → (Q → P) → Just b Q
as_well b P Q p f g = ((λ e. f (p.0 e)), (λ h. p.1 (g h)))

-- a test that is the denial of another fails just where something holds, if the other passes just there
denied : (b : Bool) (P : Type 0) → (b ≡ true → P) → (P → b ≡ true) → Just (not b) P
denied true P f g = ((λ e. f refl), (λ h. refl))
denied false P f g = ((λ e. absurd (subst T e tt)), (λ h. sym (g h)))

-- ---- 2 and 4
pub edges_row : (j : Job) → Just (counted j) (EdgesCase j)
unfolding counted
edges_row j = either (leb 1 j.count) (leb j.count 64) (j.count < 1) (64 < j.count) (less 1 j.count) (less j.count 64)

pub cell_row : (j : Job) → Just (celled j) (CellCase j)
unfolding celled
cell_row j = either (le_z j.m j.n) (le_z (j.n -ℤ j.m) (pos 8)) _ _ (less_ℤ j.m j.n) (less_ℤ (j.n -ℤ j.m) (pos 8))

-- ---- 3
between_row : (lo hi z : ℤ) → Just (between lo hi z) (Outside lo hi z)
unfolding between
between_row lo hi z = either (le_z lo z) (le_z z hi) _ _ (less_ℤ lo z) (less_ℤ z hi)

coordinate_row : (z : ℤ) → Just (coordinate z) (Strays z)
unfolding coordinate
coordinate_row z = between_row (negsuc 999999) (pos 1000000) z

pub zero_row : (z : ℤ) → Just (is_zero z) (z ≡ pos 0 → ⊥)
unfolding is_zero
zero_row (pos n) = ((λ e h. eqb-false n 0 e (cc)), (λ h. go (eqb n 0) refl h))
  where
    go : (t : Bool) → eqb n 0 ≡ t → (pos n ≡ pos 0 → ⊥) → t ≡ false
    go true e h = absurd (h (ap pos (eqb-true n 0 e)))
    go false e h = refl
zero_row (negsuc n) = ((λ e h. absurd (subst T (sym (ap is_zero h)) tt)), (λ h. refl))

-- the first number, or one after it
abbrev Strewn : ℕ → List ℤ → Type 0
Strewn n vs = (i : ℕ) × PlaceCase n vs i

none_strewn : (n i : ℕ) → PlaceCase n [] i → ⊥
none_strewn n i (inl h) = absurd (subst T ((coordinate_row (pos 0)).1 h.1) (unfold coordinate between in tt))
none_strewn n i (inr h) = h.1 refl

placed_row : (n : ℕ) (vs : List ℤ) → Just (placed n vs) (Strewn n vs)
unfolding placed
placed_row n [] = ((λ e. absurd (subst T e tt)), (λ h. absurd (none_strewn n h.0 h.1)))
placed_row zero (v ∷ vs) = as_well (is_zero v && placed 0 vs) _ _ (either (is_zero v) (placed 0 vs) _ _ (zero_row v) (placed_row 0 vs)) to from
  where
    to : (v ≡ pos 0 → ⊥) ⊎ Strewn 0 vs → Strewn 0 (v ∷ vs)
    to (inl h) = (0, inr (omega arith, h))
    to (inr (i, inl h)) = absurd (omega (arith, h.0))
    to (inr (i, inr h)) = (suc i, inr (omega arith, h.1))

    from : Strewn 0 (v ∷ vs) → (v ≡ pos 0 → ⊥) ⊎ Strewn 0 vs
    from (i, inl h) = absurd (omega (arith, h.0))
    from (zero, inr h) = inl h.1
    from (suc i, inr h) = inr (i, inr (omega arith, h.1))
placed_row (suc n) (v ∷ vs) = as_well (coordinate v && placed n vs) _ _ (either (coordinate v) (placed n vs) _ _ (coordinate_row v) (placed_row n vs)) to from
  where
    to : Strays v ⊎ Strewn n vs → Strewn (suc n) (v ∷ vs)
    to (inl h) = (0, inl (omega arith, h))
    to (inr (i, inl h)) = (suc i, inl (omega (arith, h.0), h.1))
    to (inr (i, inr h)) = (suc i, inr (omega (arith, h.0), h.1))

    from : Strewn (suc n) (v ∷ vs) → Strays v ⊎ Strewn n vs
    from (zero, inl h) = inl h.1
    from (zero, inr h) = absurd (omega (arith, h.0))
    from (suc i, inl h) = inr (i, inl (omega (arith, h.0), h.1))
    from (suc i, inr h) = inr (i, inr (omega (arith, h.0), h.1))

-- ---- of a mark and the numbers from its place on
one_row : (z : ℤ) → Just (is_one z) (z ≡ pos 1 → ⊥)
unfolding is_one
one_row (pos n) = ((λ e h. eqb-false n 1 e (cc)), (λ h. go (eqb n 1) refl h))
  where
    go : (t : Bool) → eqb n 1 ≡ t → (pos n ≡ pos 1 → ⊥) → t ≡ false
    go true e h = absurd (h (ap pos (eqb-true n 1 e)))
    go false e h = refl
one_row (negsuc n) = ((λ e h. absurd (subst T (sym (ap is_one h)) tt)), (λ h. refl))

abbrev Spared : List ℤ → ℕ → Type 0
Spared vs i = (k : ℕ) × (4 ≤ k) × (k < 8) × (get_or vs (8 * i + k) (pos 0) ≡ pos 0 → ⊥)

abbrev Nonzero : List ℤ → ℕ → Type 0
Nonzero vs k = get_or vs k (pos 0) ≡ pos 0 → ⊥

spare_row : (vs : List ℤ) → Just (spare vs) (Spared vs 0)
unfolding spare
spare_row vs = as_well (spare vs) _ _
    (either _ _ _ _ (zero_row (get_or vs 4 (pos 0))) (either _ _ _ _ (zero_row (get_or vs 5 (pos 0))) (either _ _ _ _ (zero_row (get_or vs 6 (pos 0))) (zero_row (get_or vs 7 (pos 0)))))) to from
  where
    to : Nonzero vs 4 ⊎ (Nonzero vs 5 ⊎ (Nonzero vs 6 ⊎ Nonzero vs 7)) → Spared vs 0
    to (inl h) = (4, omega arith, omega arith, h)
    to (inr (inl h)) = (5, omega arith, omega arith, h)
    to (inr (inr (inl h))) = (6, omega arith, omega arith, h)
    to (inr (inr (inr h))) = (7, omega arith, omega arith, h)

    at : (k n : ℕ) → k ≡ n → (get_or vs (8 * 0 + k) (pos 0) ≡ pos 0 → ⊥) → Nonzero vs n
    at k n e h = subst (Nonzero vs) (let z : 8 * 0 + k ≡ n = omega arith in z) h

    from : Spared vs 0 → Nonzero vs 4 ⊎ (Nonzero vs 5 ⊎ (Nonzero vs 6 ⊎ Nonzero vs 7))
    from (k, a, b, h) = go (eqb k 4) (eqb k 5) (eqb k 6) refl refl refl
      where
        go : (p q r : Bool) → eqb k 4 ≡ p → eqb k 5 ≡ q → eqb k 6 ≡ r → Nonzero vs 4 ⊎ (Nonzero vs 5 ⊎ (Nonzero vs 6 ⊎ Nonzero vs 7))
        go true q r e f g = inl (at k 4 (eqb-true k 4 e) h)
        go false true r e f g = inr (inl (at k 5 (eqb-true k 5 f) h))
        go false false true e f g = inr (inr (inl (at k 6 (eqb-true k 6 g) h)))
        go false false false e f g = inr (inr (inr (at k 7 (let x = eqb-false k 4 e in let y = eqb-false k 5 f in let z = eqb-false k 6 g in omega arith) h)))

neither : (a b : Bool) (P Q : Type 0) → Just a P → Just b Q → Just (a || b) (P × Q)
neither true b P Q p q = ((λ e. absurd (subst T e tt)), (λ h. p.1 h.0))
neither false b P Q p q = ((λ e. (p.0 refl, q.0 e)), (λ h. q.1 h.1))

kind_row : (m : ℤ) (vs : List ℤ) → Just (kind m vs) ((m ≡ pos 0 → ⊥) × ((m ≡ pos 1 → ⊥) ⊎ Spared vs 0))
unfolding kind
kind_row m vs = neither (is_zero m) (is_one m && spare vs) _ _ (zero_row m) (either (is_one m) (spare vs) _ _ (one_row m) (spare_row vs))

-- the first mark, or one after it
abbrev Stamped : ℕ → List ℤ → List ℤ → Type 0
Stamped n ms vs = (i : ℕ) × MarkCase n ms vs i

later : (vs : List ℤ) (i k : ℕ) → get_or (drop 8 vs) (8 * i + k) (pos 0) ≡ get_or vs (8 * suc i + k) (pos 0)
later vs i k = get_or-drop 8 vs (8 * i + k) (pos 0) ∙ ap (λ n. get_or vs n (pos 0)) (let z : 8 + (8 * i + k) ≡ 8 * suc i + k = omega arith in z)

marked_row : (n : ℕ) (ms vs : List ℤ) → Just (marked n ms vs) (Stamped n ms vs)
unfolding marked
marked_row n [] vs = ((λ e. absurd (subst T e tt)), (λ h. absurd (h.1.0 refl)))
marked_row zero (m ∷ ms) vs = as_well (is_zero m && marked 0 ms (drop 8 vs)) _ _ (either (is_zero m) (marked 0 ms (drop 8 vs)) _ _ (zero_row m) (marked_row 0 ms (drop 8 vs))) to from
  where
    to : (m ≡ pos 0 → ⊥) ⊎ Stamped 0 ms (drop 8 vs) → Stamped 0 (m ∷ ms) vs
    to (inl h) = (0, (h, inl (omega arith)))
    to (inr (i, h)) = (suc i, (h.0, inl (omega arith)))

    from : Stamped 0 (m ∷ ms) vs → (m ≡ pos 0 → ⊥) ⊎ Stamped 0 ms (drop 8 vs)
    from (zero, h) = inl h.0
    from (suc i, h) = inr (i, (h.0, inl (omega arith)))
marked_row (suc n) (m ∷ ms) vs = as_well (kind m vs && marked n ms (drop 8 vs)) _ _ (either (kind m vs) (marked n ms (drop 8 vs)) _ _ (kind_row m vs) (marked_row n ms (drop 8 vs))) to from
  where
    to : ((m ≡ pos 0 → ⊥) × ((m ≡ pos 1 → ⊥) ⊎ Spared vs 0)) ⊎ Stamped n ms (drop 8 vs) → Stamped (suc n) (m ∷ ms) vs
    to (inl h) = (0, (h.0, inr h.1))
    to (inr (i, (h, inl l))) = (suc i, (h, inl (omega (arith, l))))
    to (inr (i, (h, inr (inl o)))) = (suc i, (h, inr (inl o)))
    to (inr (i, (h, inr (inr (k, a, b, z))))) = (suc i, (h, inr (inr (k, a, b, λ e. z (later vs i k ∙ e)))))

    from : Stamped (suc n) (m ∷ ms) vs → ((m ≡ pos 0 → ⊥) × ((m ≡ pos 1 → ⊥) ⊎ Spared vs 0)) ⊎ Stamped n ms (drop 8 vs)
    from (zero, (h, inl l)) = absurd (omega (arith, l))
    from (zero, (h, inr q)) = inl (h, q)
    from (suc i, (h, inl l)) = inr (i, (h, inl (omega (arith, l))))
    from (suc i, (h, inr (inl o))) = inr (i, (h, inr (inl o)))
    from (suc i, (h, inr (inr (k, a, b, z)))) = inr (i, (h, inr (inr (k, a, b, λ e. z (sym (later vs i k) ∙ e)))))

pub range_row : (j : Job) → Just (ranged j) (RangeCase j)
unfolding ranged
range_row j =
    either _ _ _ _ (coordinate_row j.x)
    (either _ _ _ _ (coordinate_row j.y)
    (either _ _ _ _ (between_row (pos 0) (pos 20) j.n)
    (either _ _ _ _ (between_row (pos 0) (pos 20) j.m)
    (either _ _ _ _ (between_row (pos 1) (pos 1000000) j.reach)
    (either _ _ _ _ (between_row (pos 1) (pos 100000) j.grain)
    (either _ _ _ _ (placed_row (8 * j.count) j.places) (marked_row j.count j.marks j.places)))))))

pub spot_row : (x y : ℤ) → Just (coordinate x && coordinate y) (SpotCase x y)
spot_row x y = either (coordinate x) (coordinate y) _ _ (coordinate_row x) (coordinate_row y)

pub row_row : (zs : List ℤ) → Just (coordinates zs) (RowCase zs)
unfolding coordinates
row_row [] = ((λ e. absurd (subst T e tt)), (λ h. absurd (omega (arith, h.1))))
row_row (z ∷ zs) = as_well (coordinate z && coordinates zs) _ _ (either (coordinate z) (coordinates zs) _ _ (coordinate_row z) (row_row zs)) to from
  where
    to : Strays z ⊎ RowCase zs → RowCase (z ∷ zs)
    to (inl h) = (0, omega arith, h)
    to (inr (i, l, h)) = (suc i, omega (arith, l), h)

    from : RowCase (z ∷ zs) → Strays z ⊎ RowCase zs
    from (zero, l, h) = inl h
    from (suc i, l, h) = inr (i, omega (arith, l), h)

-- ---- 5: a long end is a piece that is reached and not short, found by going down from the whole edge and up again
module _ (G : ℤ) (e : Edge) where
  abbrev End : ℕ → Type 0
  End d = (k : ℕ) × (Reached G e d k × (short G (strip e d k) ≡ false))

  abbrev Long : ℕ → ℕ → ℕ → Type 0
  Long left d k = is_long (pieces G (strip e) left d k) ≡ true

  -- piece i of the next depth, where it comes from piece k of this one
  next : (d k i : ℕ) → i / 2 ≡ k → Reached G e d k → short G (strip e d k) ≡ false → Reached G e (d + 1) i
  unfolding Reached
  next d k i w r p = subst (λ n. Reached G e n i) (sym (add-one d)) (subst (λ u. Reached G e d u × (short G (strip e d u) ≡ false)) (sym w) (r, p))

  down : (D left d k : ℕ) → left + d ≡ D → Reached G e d k → Long left d k → End D
  unfolding pieces
  down D zero d k q r h = subst End (let z : d ≡ D = omega arith in z) (go (short G (strip e d k)) refl h)
    where
      go : (t : Bool) → short G (strip e d k) ≡ t → is_long (elim t [ true ↦ leaf (strip e d k) | false ↦ long (strip e d k) ]) ≡ true → End d
      go true p h = absurd (subst T (sym h) tt)
      go false p h = (k, (r, p))
  down D (suc left) d k q r h = go (short G (strip e d k)) refl h
      (λ p. down D left (d + 1) (2 * k) (omega arith) (next d k (2 * k) (omega arith) r p))
      (λ p. down D left (d + 1) (2 * k + 1) (omega arith) (next d k (2 * k + 1) (omega arith) r p))
    where
      go : (t : Bool) → short G (strip e d k) ≡ t → is_long (elim t [ true ↦ leaf (strip e d k) | false ↦ node (strip e d k) (pieces G (strip e) left (d + 1) (2 * k)) (pieces G (strip e) left (d + 1) (2 * k + 1)) ]) ≡ true
          → (short G (strip e d k) ≡ false → Long left (d + 1) (2 * k) → End D) → (short G (strip e d k) ≡ false → Long left (d + 1) (2 * k + 1) → End D) → End D
      go true p h l r = absurd (subst T (sym h) tt)
      go false p h l r = ⊎_elim (l p) (r p) (or_true (is_long (pieces G (strip e) left (d + 1) (2 * k))) (is_long (pieces G (strip e) left (d + 1) (2 * k + 1))) h)

  -- a piece that is not short is long where one of its halves is
  whole_long : (left d k i : ℕ) → i / 2 ≡ k → short G (strip e d k) ≡ false → Long left (d + 1) i → Long (suc left) d k
  unfolding pieces
  whole_long left d k i w p h = go (short G (strip e d k)) p
    where
      side : (n : ℕ) → i ≡ n → Long left (d + 1) n
      side n q = subst (Long left (d + 1)) q h

      half : (b : Bool) → eqb i (2 * k) ≡ b → (is_long (pieces G (strip e) left (d + 1) (2 * k)) || is_long (pieces G (strip e) left (d + 1) (2 * k + 1))) ≡ true
      half true q = rw (side (2 * k) (eqb-true i (2 * k) q))
      half false q = let z = eqb-false i (2 * k) q in rw (side (2 * k + 1) (odd z), or_yes (is_long (pieces G (strip e) left (d + 1) (2 * k))))
        where
          odd : (i ≡ 2 * k → ⊥) → i ≡ 2 * k + 1
          odd z = omega (arith, w)

      go : (t : Bool) → t ≡ false → is_long (elim t [ true ↦ leaf (strip e d k) | false ↦ node (strip e d k) (pieces G (strip e) left (d + 1) (2 * k)) (pieces G (strip e) left (d + 1) (2 * k + 1)) ]) ≡ true
      go true p = absurd (subst T p tt)
      go false p = half (eqb i (2 * k)) refl

  up : (D left d k : ℕ) → left + d ≡ D → Reached G e d k → Long left d k → Long D 0 0
  unfolding Reached
  up D left zero k q r h = subst (λ n. Long n 0 0) (let z : left ≡ D = omega arith in z) (subst (Long left 0) r h)
  up D left (suc d) k q r h = up D (suc left) d (k / 2) (omega arith) r.0 (whole_long left d (k / 2) k refl r.1 (subst (λ n. Long left n k) (sym (add-one d)) h))

  -- the last piece by itself
  end_long : (d k : ℕ) → short G (strip e d k) ≡ false → Long 0 d k
  unfolding pieces
  end_long d k p = go (short G (strip e d k)) p
    where
      go : (t : Bool) → t ≡ false → is_long (elim t [ true ↦ leaf (strip e d k) | false ↦ long (strip e d k) ]) ≡ true
      go true p = absurd (subst T p tt)
      go false p = refl

  tree_long : is_long (tree G e) ≡ true → (k : ℕ) × LongPiece G e k
  unfolding tree
  tree_long h = down 10 10 0 0 (omega arith) (unfold Reached in refl) h

  long_tree : (k : ℕ) → LongPiece G e k → is_long (tree G e) ≡ true
  unfolding tree
  long_tree k (r, p) = up 10 0 10 k (omega arith) r (end_long 10 k p)

-- of several edges
abbrev SomePiece : ℤ → List ℤ → List ℤ → ℕ → Type 0
SomePiece G ms vs i = (k : ℕ) × LongPiece G (edge_at ms vs i) k

abbrev SomeLong : ℤ → List ℤ → List ℤ → ℕ → ℕ → Type 0
SomeLong G ms vs n a = (i : ℕ) × (i < n) × SomePiece G ms vs (a + i)

any_long_is : (G : ℤ) (ms vs : List ℤ) (n a : ℕ) → any_long (trees G (edges_from ms vs n a)) ≡ true → SomeLong G ms vs n a
unfolding edges_from
any_long_is G ms vs zero a h = absurd (subst T (sym h) tt)
any_long_is G ms vs (suc n) a h = go (or_true (is_long (tree G (edge_at ms vs a))) (any_long (trees G (edges_from ms vs n (a + 1)))) h) (any_long_is G ms vs n (a + 1))
  where
    go : (is_long (tree G (edge_at ms vs a)) ≡ true) ⊎ (any_long (trees G (edges_from ms vs n (a + 1))) ≡ true) → (any_long (trees G (edges_from ms vs n (a + 1))) ≡ true → SomeLong G ms vs n (a + 1)) → SomeLong G ms vs (suc n) a
    go (inl h) ih = (0, omega arith, subst (SomePiece G ms vs) (let z : a ≡ a + 0 = omega arith in z) (tree_long G (edge_at ms vs a) h))
    go (inr h) ih = let r = ih h in (suc r.0, omega (arith, r.1), subst (SomePiece G ms vs) (let z : (a + 1) + r.0 ≡ a + suc r.0 = omega arith in z) r.2)

long_any : (G : ℤ) (ms vs : List ℤ) (n a i : ℕ) → i < n → SomePiece G ms vs (a + i) → any_long (trees G (edges_from ms vs n a)) ≡ true
unfolding edges_from
long_any G ms vs zero a i l p = absurd (omega arith)
long_any G ms vs (suc n) a zero l p = let q = subst (SomePiece G ms vs) (let z : a + 0 ≡ a = omega arith in z) p in rw (long_tree G (edge_at ms vs a) q.0 q.1)
long_any G ms vs (suc n) a (suc i) l p = rw (long_any G ms vs n (a + 1) i (omega arith) (subst (SomePiece G ms vs) (let z : a + suc i ≡ (a + 1) + i = omega arith in z) p), or_yes (is_long (tree G (edge_at ms vs a))))

pub long_row : (j : Job) → Just (not (any_long (forest j))) (LongCase j)
unfolding forest outline
long_row j = denied (any_long (forest j)) (LongCase j) some each
  where
    from : (i : ℕ) → 0 + i ≡ i
    from i = omega arith

    some : any_long (forest j) ≡ true → LongCase j
    some h = let r = any_long_is j.grain j.marks j.places j.count 0 h in (r.0, r.1, subst (SomePiece j.grain j.marks j.places) (from r.0) r.2)

    each : LongCase j → any_long (forest j) ≡ true
    each (i, l, p) = long_any j.grain j.marks j.places j.count 0 i l (subst (SomePiece j.grain j.marks j.places) (sym (from i)) p)

-- ---- 8
pub stranger_row : (j : Job) (lent : List ℤ) → Just (begins lent (store_of j)) (StrangerCase j lent)
stranger_row j lent = ((λ e rest h. subst T (sym (begins_self (store_of j) rest) ∙ ap (λ s. begins s (store_of j)) (sym h) ∙ e) tt), (λ h. go h (begins lent (store_of j)) refl))
  where
    go : StrangerCase j lent → (t : Bool) → begins lent (store_of j) ≡ t → t ≡ false
    go h true e = absurd (h (drop (length (store_of j)) lent) (begins_is lent (store_of j) e))
    go h false e = refl

-- ---- 9
pub sheaf_row : (zs : List ℤ) → Just (spots_fit zs) (SheafCase zs)
unfolding spots_fit
sheaf_row zs = as_well (spots_fit zs) _ _ (either _ _ _ _ (less 1 (spots_in zs)) (either _ _ _ _ (less (spots_in zs) 256) (unlike (length zs) (2 * spots_in zs)))) to from
  where
    to : (spots_in zs < 1) ⊎ ((256 < spots_in zs) ⊎ (length zs ≡ 2 * spots_in zs → ⊥)) → SheafCase zs
    to (inl h) = few (eqb (length zs) 0) refl
      where
        few : (t : Bool) → eqb (length zs) 0 ≡ t → SheafCase zs
        few true e = inl (eqb-true (length zs) 0 e)
        few false e = let n = eqb-false (length zs) 0 e in inr (inr (0, omega arith))
    to (inr (inl h)) = inr (inl (omega arith))
    to (inr (inr h)) = inr (inr (spots_in zs, omega arith))

    from : SheafCase zs → (spots_in zs < 1) ⊎ ((256 < spots_in zs) ⊎ (length zs ≡ 2 * spots_in zs → ⊥))
    from (inl h) = inl (omega arith)
    from (inr (inl h)) = many (eqb (length zs) 513) refl
      where
        many : (t : Bool) → eqb (length zs) 513 ≡ t → (spots_in zs < 1) ⊎ ((256 < spots_in zs) ⊎ (length zs ≡ 2 * spots_in zs → ⊥))
        many true e = let n = eqb-true (length zs) 513 e in inr (inr (λ w. absurd (omega arith)))
        many false e = let n = eqb-false (length zs) 513 e in inr (inl (omega arith))
    from (inr (inr (k, h))) = inr (inr (λ w. absurd (omega arith)))
