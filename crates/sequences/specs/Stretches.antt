-- A stretch of places that is overwritten, with other elements or every place with b: what stands at each place then. Assumes nothing.
use Rattle.std.specs.Prelude.{◌≡◌, refl, Bool, true, false, ◌&&◌, cond, List, ◌++◌, ℕ, ◌+◌, ◌-◌, ◌≤◌, ◌<◌, leb, ltb, length, get_or, take, drop, replicate}
use Rattle.std.proofs.Common.{ap, ◌∙◌, arith, ltb-true, ltb-false, leb-true, leb-false, get_or-append-add, get_or-take, get_or-drop, length-take-le}
use Rattle.std.proofs.lemmas.List.{length-replicate, get_or-replicate}
use Rattle.std.proofs.Math.ListN.{get_or-append}

module _ {A : Type 0} (d : A) where
  abbrev pub filled : List A → ℕ → ℕ → A → List A
  filled l a w b = take a l ++ (replicate w b ++ drop (a + w) l)

  -- past the first of two lists
  past : (xs ys : List A) (n k : ℕ) → length xs ≡ n → n ≤ k → get_or (xs ++ ys) k d ≡ get_or ys (k - n) d
  past xs ys n k e h =
      let z : length xs + (k - n) ≡ k = omega arith in
      rw z at (get_or-append-add xs ys (k - n) d)

  -- ys written over the places from a on and below e, seen from place k: v is what stands there of ys
  module _ (l ys : List A) (a e k : ℕ) (v : A) (h : e ≤ length l) (whole : a + length ys ≡ e) (there : a ≤ k → k < e → get_or ys (k - a) d ≡ v) where
    front : length (take a l) ≡ a
    front = length-take-le a l (omega arith)

    pub part_at : get_or (take a l ++ (ys ++ drop e l)) k d ≡ cond (leb a k && ltb k e) v (get_or l k d)
    part_at = go (leb a k) (ltb k e) refl refl
      where
        go : (s t : Bool) → leb a k ≡ s → ltb k e ≡ t → get_or (take a l ++ (ys ++ drop e l)) k d ≡ cond (s && t) v (get_or l k d)
        go true true f g =
            let p : a ≤ k = leb-true a k f in
            let q : k < e = ltb-true k e g in
            past (take a l) _ a k front p ∙ get_or-append ys (drop e l) d (k - a) (omega arith) ∙ there p q
        go true false f g =
            let q : e ≤ k = ltb-false k e g in
            let z : e + (k - a - length ys) ≡ k = omega arith in
            past (take a l) _ a k front (omega arith) ∙ past ys (drop e l) (length ys) (k - a) refl (omega arith)
            ∙ get_or-drop e l (k - a - length ys) d ∙ ap (λ (m : ℕ). get_or l m d) z
        go false t f g =
            let p : k < a = leb-false a k f in
            get_or-append (take a l) _ d k (omega (arith, front)) ∙ get_or-take a l k d p

  pub filled_at : (l : List A) (a w : ℕ) (b : A) (k : ℕ) → a + w ≤ length l → get_or (filled l a w b) k d ≡ cond (leb a k && ltb k (a + w)) b (get_or l k d)
  filled_at l a w b k h =
      part_at l (replicate w b) a (a + w) k b h (ap (λ (m : ℕ). a + m) (length-replicate w b)) (λ p q. get_or-replicate w (k - a) b d (omega (arith, p, q)))
