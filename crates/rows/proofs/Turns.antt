-- A loop that paints rows: those from the first to below j are done. Assumes nothing.
use Rattle.std.specs.Prelude.{◌≡◌, Bool, true, false, ◌&&◌, List, ℕ, ◌+◌, ◌*◌, ◌≤◌, ◌<◌, ltb, eqb, get_or}
use Rattle.std.proofs.Common.{refl, sym, ap, ◌∙◌, arith, le-leb, lt-ltb, le-ltb, eq-eqb, lt→ltb}
use Rattle.std.proofs.Math.Decide.{dec_le}
use Rattle.std.proofs.lemmas.Bool.{ne_eqb}
use Rattle.integers.specs.Tests.{and_false}
use Rattle.filling.specs.Squares.{Drawn}
use Rattle.spans.specs.declared.Span.{Span}
use Rattle.spans.specs.Among.{among}
use Rattle.raising.specs.Raised.{raised}
use Rattle.rows.proofs.Tests.{brought, inside, empty}

one_more : (a : Bool) (j y b x : ℕ) (t u : Bool) → (y ≡ j → a ≡ true) → (y ≡ j → t ≡ u) → raised (eqb y j && t) b (raised (a && ltb y j && u) b x) ≡ raised (a && ltb y (j + 1) && u) b x
one_more a j y b x t u h f = elim (dec_le j y) [
  | yes p ↦ elim (dec_le y j) [
    | yes q ↦ same (omega arith)
    | no q ↦ rw (ne_eqb y j (λ e. absurd (omega arith)), le-ltb y j p, le-ltb y (j + 1) (omega arith)) refl
  ]
  | no p ↦ rw (ne_eqb y j (λ e. absurd (omega arith)), lt-ltb y j (omega arith), lt-ltb y (j + 1) (omega arith)) refl
]
  where
    same : y ≡ j → raised (eqb y j && t) b (raised (a && ltb y j && u) b x) ≡ raised (a && ltb y (j + 1) && u) b x
    same e = rw (eq-eqb y j e, f e, h e, le-ltb y j (omega arith), lt-ltb y (j + 1) (omega arith)) refl

module _ (n : ℕ) (rows : Span) (P : ℕ → ℕ → Bool) (b : ℕ) where
  abbrev pub Painted : List ℕ → List ℕ → ℕ → Type 0
  Painted new old j = Drawn n new old (λ i y. raised (among rows y && ltb y j && P i y) b)

  -- none yet
  pub none_painted : (l : List ℕ) → Painted l l rows.lo
  none_painted l = record { cells = λ i y h. ap (λ t. raised (t && P i y) b (get_or l (y * n + i) 0)) (sym (first y)) }
    where
      first : (y : ℕ) → (among rows y && ltb y rows.lo) ≡ false
      first y = elim (dec_le rows.lo y) [ yes h ↦ ap (λ t. among rows y && t) (le-ltb y rows.lo h) ∙ and_false (among rows y) | no h ↦ ap (λ t. t && ltb y rows.lo) (empty rows y (λ p. absurd (omega arith))) ]

  -- one row more
  pub more_painted : {l l' old : List ℕ} (j : ℕ) (c : Span) → rows.lo ≤ j → j < rows.hi → Drawn n l' l (λ i y. raised (eqb y j && among c i) b) → ((i : ℕ) → among c i ≡ P i j) → Painted l old j → Painted l' old (j + 1)
  more_painted {l} {l'} {old} j c h k d e p = record {
    cells = λ i y a.
        d.cells i y a
        ∙ ap (raised (eqb y j && among c i) b) (p.cells i y a)
        ∙ one_more (among rows y) j y b (get_or old (y * n + i) 0) (among c i) (P i y) (λ z. rw (le-leb rows.lo y (omega arith), lt-ltb y rows.hi (omega arith)) refl) (λ z. e i ∙ ap (P i) (sym z));
  }

  -- all of them
  pub all_painted : {l old : List ℕ} (j : ℕ) → rows.hi ≤ j → Painted l old j → Drawn n l old (λ i y. raised (among rows y && P i y) b)
  all_painted {l} {old} j h p = record {
    cells = λ i y a. p.cells i y a ∙ ap (λ t. raised (t && P i y) b (get_or old (y * n + i) 0)) (last y);
  }
    where
      last : (y : ℕ) → (among rows y && ltb y j) ≡ among rows y
      last y = brought (among rows y) (ltb y j) (λ t. lt→ltb y j (let q = inside rows y t in omega arith))
