-- Stretches that are kept, and one that is put among them. Assumes nothing.
use Rattle.std.specs.Prelude.{◌≡◌, Bool, true, false, List, ℕ, zero, suc, ◌+◌, ◌≤◌, ◌<◌, eqb, length, get_or, map, replicate}
use Rattle.std.proofs.Common.{refl, ap, ◌∙◌, set, arith, eqb-true, lt-ltb, get_or-set_same, get_or-set_other}
use Rattle.std.proofs.lemmas.Bool.{eqb-false}
use Rattle.std.proofs.lemmas.List.{map-set, length-map}
use Rattle.spans.specs.declared.Span.{Span}
use Rattle.levels.specs.declared.Ends.{Ends}
use Rattle.levels.specs.Open.{place_of, closed, span_in, normal_of, Fits}
use Rattle.levels.specs.Kept.{span_of}

pub none_open : (n k : ℕ) → get_or (map span_of (replicate n (record { lo = 0; hi = 0 }))) k closed ≡ closed
none_open zero k = refl
none_open (suc n) zero = refl
none_open (suc n) (suc k) = none_open n k

pub put_there : (l : List Ends) (i p : ℕ) (e : Ends) → p ≡ i → i < length l → get_or (map span_of (set l i e)) p closed ≡ span_of e
put_there l i p e z h = rw z (ap (λ m. get_or m i closed) (map-set span_of l i e) ∙ get_or-set_same (map span_of l) i (span_of e) closed (rw length-map h))

pub put_elsewhere : (l : List Ends) (i k : ℕ) (e : Ends) → (k ≡ i → ⊥) → get_or (map span_of (set l i e)) k closed ≡ get_or (map span_of l) k closed
put_elsewhere l i k e h = ap (λ m. get_or m k closed) (map-set span_of l i e) ∙ get_or-set_other (map span_of l) i k (span_of e) closed h

-- every column of the first j rows
abbrev pub Opened : ℕ → List Span → ℕ → Type 0
Opened n l j = (y : ℕ) → y < j → span_in l 0 y ≡ record { lo = 0; hi = n }

-- every column is kept as such
normal_all : (n : ℕ) → normal_of (record { lo = 0; hi = n }) ≡ record { lo = 0; hi = n }
normal_all zero = refl
normal_all (suc n) = rw (lt-ltb 0 (suc n) (omega arith)) refl

module _ (l m : List Span) (n j : ℕ) (new : span_in m 0 j ≡ normal_of (record { lo = 0; hi = n }))
    (others : (k : ℕ) → (k ≡ place_of 0 j → ⊥) → get_or m k closed ≡ get_or l k closed) where
  pub still_fits : Fits n l → Fits n m
  still_fits f k = go (eqb k (place_of 0 j)) refl
    where
      go : (t : Bool) → eqb k (place_of 0 j) ≡ t → ((get_or m k closed).lo ≤ 256) × ((get_or m k closed).hi ≤ n)
      go true e = let z : k ≡ place_of 0 j = eqb-true k (place_of 0 j) e in rw z (omega (arith, ap (λ (s : Span). s.lo) (new ∙ normal_all n)), omega (arith, ap (λ (s : Span). s.hi) (new ∙ normal_all n)))
      go false e = rw (others k (eqb-false k (place_of 0 j) e)) (f k)

  pub more_open : Opened n l j → Opened n m (j + 1)
  more_open o y h = go (eqb y j) refl
    where
      go : (t : Bool) → eqb y j ≡ t → span_in m 0 y ≡ record { lo = 0; hi = n }
      go true e = let z : y ≡ j = eqb-true y j e in rw z (new ∙ normal_all n)
      go false e =
          let f : y ≡ j → ⊥ = eqb-false y j e in
          others (place_of 0 y) (λ z. f (omega (arith, z))) ∙ o y (omega arith)
