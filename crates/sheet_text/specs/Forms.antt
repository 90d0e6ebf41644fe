-- The text of a form: what was written is read (`form_text`), and what was read is what is written (`text_form`), for every form that is
-- sound, which is that a number is ended by a byte that is neither a digit nor a mark. Assumes nothing.
use Rattle.std.specs.Prelude.{◌≡◌, refl, Bool, true, false, not, cond, ◌&&◌, List, [], ◌∷◌, ◌++◌, ℕ, zero, suc, ◌+◌, ◌≤◌, eqb, ℤ, pos, length, get_or, take, drop}
use Rattle.std.proofs.Common.{sym, ap, ◌∙◌, subst, append_assoc, append-nil, arith, lit<, length-append, eqb-true, eq-eqb}
use Rattle.model.specs.Bytes.{Got, got, none, given, digit}
use Rattle.model.specs.Numbers.{text, number}
use Rattle.model.specs.Forms.{write_form, byte, read_form}
unfoldable pub use Rattle.model.specs.Forms.{marks}
unfoldable pub use Rattle.model.specs.Layouts.{AllSmall}
use Rattle.integers.specs.Tests.{both}
use Rattle.sheet_text.specs.Tests.{no_way, yes, no}
use Rattle.sheet_text.specs.Numbers.{Small, number_text, text_number, text_long}

-- ---- how many bytes the text of a form has at most, and that it is sound
unfoldable pub weight : List ℕ → ℕ
weight [] = 0
weight (f ∷ fs) = cond (eqb f 35) 8 1 + weight fs

unfoldable pub ends : List ℕ → Bool
ends [] = false
ends (b ∷ fs) = not (digit b) && not (eqb b 35)

unfoldable pub sound : List ℕ → Bool
sound [] = true
sound (f ∷ fs) = cond (eqb f 35) (ends fs) true && sound fs

pub nil_small : AllSmall []
unfolding AllSmall Small
nil_small i = lit< tt

pub cons_small : (v : ℤ) (vs : List ℤ) → Small v → AllSmall vs → AllSmall (v ∷ vs)
unfolding AllSmall
cons_small v vs h a zero = h
cons_small v vs h a (suc i) = a i

-- ---- a step of the reader and of the writer, by whether the form's first byte is a mark
abbrev pub number_then : List ℕ → List ℤ → Got ℤ → Got (List ℤ)
number_then fs acc r = given r (λ v t. read_form fs (acc ++ (v ∷ [])) t) none

abbrev pub byte_then : List ℕ → List ℤ → Got ℕ → Got (List ℤ)
byte_then fs acc r = given r (λ b t. read_form fs acc t) none

abbrev pub piece : Bool → List ℕ → ℕ → List ℤ → List ℕ → Got (List ℤ)
piece t fs f acc s = elim t [ true ↦ number_then fs acc (number s) | false ↦ byte_then fs acc (byte f s) ]

abbrev pub put : Bool → List ℕ → ℕ → List ℤ → List ℕ
put t fs f vs = elim t [ true ↦ text (get_or vs 0 (pos 0)) ++ write_form fs (drop 1 vs) | false ↦ f ∷ write_form fs vs ]

-- ---- what was written is read
pub ends_text : (fs : List ℕ) (ws : List ℤ) (rest : List ℕ) → ends fs ≡ true → (b : ℕ) × (u : List ℕ) × (digit b ≡ false) × (write_form fs ws ++ rest ≡ b ∷ u)
unfolding ends write_form
ends_text [] ws rest h = no_way h
ends_text (b ∷ fs) ws rest h = go (digit b) (eqb b 35) refl refl h
  where
    go : (t m : Bool) → digit b ≡ t → eqb b 35 ≡ m → (not t && not m) ≡ true → (c : ℕ) × (u : List ℕ) × (digit c ≡ false) × (put (eqb b 35) fs b ws ++ rest ≡ c ∷ u)
    go true m p q e = no_way e
    go false true p q e = no_way e
    go false false p q e = (b, write_form fs ws ++ rest, p, ap (λ t. put t fs b ws ++ rest) q)

-- one number, and then whatever reading the rest gives
pub number_step : (fs gs : List ℕ) (acc : List ℤ) (v : ℤ) (vs : List ℤ) (rest : List ℕ) → Small v → ends gs ≡ true → number_then fs acc (number ((text v ++ write_form gs vs) ++ rest)) ≡ read_form fs (acc ++ (v ∷ [])) (write_form gs vs ++ rest)
number_step fs gs acc v vs rest a h =
    let r = ends_text gs vs rest h in
    ap (λ u. number_then fs acc (number u)) (append_assoc (text v) (write_form gs vs) rest ∙ ap (λ u. text v ++ u) r.3)
    ∙ ap (number_then fs acc) (number_text v r.0 r.1 a r.2)
    ∙ ap (read_form fs (acc ++ (v ∷ []))) (sym r.3)

pub byte_same : (f g : ℕ) (s : List ℕ) → eqb g f ≡ true → byte f (g ∷ s) ≡ got g s
unfolding byte
byte_same f g s q = yes (eqb g f) _ _ q

pub byte_other : (f g : ℕ) (s : List ℕ) → eqb g f ≡ false → byte f (g ∷ s) ≡ none
unfolding byte
byte_other f g s q = no (eqb g f) _ _ q

abbrev Reads : List ℕ → Type 0
Reads fs = (acc vs : List ℤ) (rest : List ℕ) → AllSmall vs → marks fs ≤ length vs → read_form fs acc (write_form fs vs ++ rest) ≡ got (acc ++ take (marks fs) vs) rest

reads_piece : (f : ℕ) (fs : List ℕ) (t : Bool) → Reads fs → (cond t (ends fs) true ≡ true) → (acc vs : List ℤ) (rest : List ℕ) → AllSmall vs → cond t (suc (marks fs)) (marks fs) ≤ length vs → piece t fs f acc (put t fs f vs ++ rest) ≡ got (acc ++ take (cond t (suc (marks fs)) (marks fs)) vs) rest
unfolding AllSmall
reads_piece f fs true ih h acc [] rest a l = absurd (omega arith)
reads_piece f fs true ih h acc (v ∷ vs) rest a l =
    number_step fs fs acc v vs rest (a 0) h
    ∙ ih (acc ++ (v ∷ [])) vs rest (λ i. a (suc i)) (omega arith)
    ∙ ap (λ u. got u rest) (append_assoc acc (v ∷ []) (take (marks fs) vs))
reads_piece f fs false ih h acc vs rest a l = ap (byte_then fs acc) (byte_same f f (write_form fs vs ++ rest) (eq-eqb f f refl)) ∙ ih acc vs rest a l

reads : (fs : List ℕ) → sound fs ≡ true → Reads fs
unfolding read_form write_form marks sound
reads [] h = λ acc vs rest a l. ap (λ u. got u rest) (sym (append-nil acc))
reads (f ∷ fs) h =
    let p = both (cond (eqb f 35) (ends fs) true) (sound fs) h in
    reads_piece f fs (eqb f 35) (reads fs p.1) p.0

pub form_text : (fs : List ℕ) (vs : List ℤ) (rest : List ℕ) → sound fs ≡ true → AllSmall vs → marks fs ≤ length vs → read_form fs [] (write_form fs vs ++ rest) ≡ got (take (marks fs) vs) rest
form_text fs vs rest h a l = reads fs h [] vs rest a l

-- ---- what was read is what is written
abbrev Text : List ℕ → List ℤ → List ℕ → List ℤ → List ℕ → Type 0
Text fs acc s vs rest = (ws : List ℤ) × (vs ≡ acc ++ ws) × (length ws ≡ marks fs) × AllSmall ws × (s ≡ write_form fs ws ++ rest)

abbrev Writes : List ℕ → Type 0
Writes fs = (acc : List ℤ) (s : List ℕ) (vs : List ℤ) (rest : List ℕ) → read_form fs acc s ≡ got vs rest → Text fs acc s vs rest

abbrev PieceText : Bool → ℕ → List ℕ → List ℤ → List ℕ → List ℤ → List ℕ → Type 0
PieceText t f fs acc s vs rest = (ws : List ℤ) × (vs ≡ acc ++ ws) × (length ws ≡ cond t (suc (marks fs)) (marks fs)) × AllSmall ws × (s ≡ put t fs f ws ++ rest)

number_was : (f : ℕ) (fs : List ℕ) → Writes fs → (acc : List ℤ) (s : List ℕ) (r : Got ℤ) (vs : List ℤ) (rest : List ℕ) → number s ≡ r → number_then fs acc r ≡ got vs rest → PieceText true f fs acc s vs rest
number_was f fs ih acc s none vs rest q e = no_way (cc)
number_was f fs ih acc s (got v u) vs rest q e =
    let r = ih (acc ++ (v ∷ [])) u vs rest e in
    let n = text_number s v u q in (
      v ∷ r.0,
      r.1 ∙ append_assoc acc (v ∷ []) r.0,
      ap suc r.2,
      cons_small v r.0 n.0 r.3,
      n.1 ∙ ap (λ w. text v ++ w) r.4 ∙ sym (append_assoc (text v) (write_form fs r.0) rest),
    )

byte_was : (f : ℕ) (s : List ℕ) (b : ℕ) (t : List ℕ) → byte f s ≡ got b t → s ≡ f ∷ t
unfolding byte
byte_was f [] b t e = no_way (cc)
byte_was f (c ∷ s) b t e = go (eqb c f) refl e
  where
    go : (y : Bool) → eqb c f ≡ y → elim y [ true ↦ got c s | false ↦ none ] ≡ got b t → c ∷ s ≡ f ∷ t
    go true q e = let w : s ≡ t = cc in rw (eqb-true c f q, w)
    go false q e = no_way (cc)

line_byte_was : (f : ℕ) (fs : List ℕ) → Writes fs → (acc : List ℤ) (s : List ℕ) (r : Got ℕ) (vs : List ℤ) (rest : List ℕ) → byte f s ≡ r → byte_then fs acc r ≡ got vs rest → PieceText false f fs acc s vs rest
line_byte_was f fs ih acc s none vs rest q e = no_way (cc)
line_byte_was f fs ih acc s (got b u) vs rest q e =
    let r = ih acc u vs rest e in
    (r.0, r.1, r.2, r.3, byte_was f s b u q ∙ ap (λ t. f ∷ t) r.4)

piece_text : (t : Bool) (f : ℕ) (fs : List ℕ) → Writes fs → (acc : List ℤ) (s : List ℕ) (vs : List ℤ) (rest : List ℕ) → piece t fs f acc s ≡ got vs rest → PieceText t f fs acc s vs rest
piece_text true f fs ih acc s vs rest e = number_was f fs ih acc s (number s) vs rest refl e
piece_text false f fs ih acc s vs rest e = line_byte_was f fs ih acc s (byte f s) vs rest refl e

writes : (fs : List ℕ) → Writes fs
unfolding read_form write_form marks
writes [] acc s vs rest e = ([], (let p : acc ≡ vs = cc in sym p) ∙ sym (append-nil acc), refl, nil_small, cc)
writes (f ∷ fs) acc s vs rest e = piece_text (eqb f 35) f fs (writes fs) acc s vs rest e

pub text_form : (fs s : List ℕ) (vs : List ℤ) (rest : List ℕ) → read_form fs [] s ≡ got vs rest → (length vs ≡ marks fs) × AllSmall vs × (s ≡ write_form fs vs ++ rest)
text_form fs s vs rest e =
    let r = writes fs [] s vs rest e in
    (ap length r.1 ∙ r.2, subst AllSmall (sym r.1) r.3, r.4 ∙ ap (λ u. write_form fs u ++ rest) (sym r.1))

-- ---- its length
pub form_long : (fs : List ℕ) (vs : List ℤ) → length (write_form fs vs) ≤ weight fs
unfolding write_form weight
form_long [] vs = omega arith
form_long (f ∷ fs) vs = go (eqb f 35) (form_long fs)
  where
    go : (t : Bool) → ((ws : List ℤ) → length (write_form fs ws) ≤ weight fs) → length (put t fs f vs) ≤ cond t 8 1 + weight fs
    go true ih = simp length-append (omega (arith, text_long (get_or vs 0 (pos 0)), ih (drop 1 vs)))
    go false ih = omega (arith, ih vs)

-- the numbers past those that are written do not matter
pub form_take : (fs : List ℕ) (vs : List ℤ) → marks fs ≤ length vs → write_form fs (take (marks fs) vs) ≡ write_form fs vs
unfolding write_form marks
form_take [] vs l = refl
form_take (f ∷ fs) vs l = go (eqb f 35) vs (form_take fs) l
  where
    go : (t : Bool) (vs : List ℤ) → ((ws : List ℤ) → marks fs ≤ length ws → write_form fs (take (marks fs) ws) ≡ write_form fs ws) → cond t (suc (marks fs)) (marks fs) ≤ length vs → put t fs f (take (cond t (suc (marks fs)) (marks fs)) vs) ≡ put t fs f vs
    go true [] ih l = absurd (omega arith)
    go true (v ∷ vs) ih l = ap (λ u. text v ++ u) (ih vs (omega arith))
    go false vs ih l = ap (λ u. f ∷ u) (ih vs l)
