-- The needs of `put_form`: a turn of its loop is a step of `write_form`. Assumes nothing.
use Rattle.std.proofs.Common.{◌≡◌, refl, sym, ap, ap₂, ◌∙◌, subst, List, [], ◌∷◌, ◌++◌, append_assoc, append-nil, ℕ, suc, ◌+◌, ◌≤◌, ◌<◌, add-one, arith, w32, to_z, of_z, length, get_or, drop}
use Rattle.std.specs.Prelude.{eqb, ℤ, pos}
use Rattle.std.proofs.lemmas.Int.{to_z-of_z}
use Rattle.std.proofs.Math.ListN.{drop_of_length-le}
use Rattle.std.proofs.Math.Seq.{drop-cons}
use borrow.Author.Tests.{ne_eqb}
use Rattle.model.specs.Numbers.{text}
use Rattle.model.specs.Forms.{write_form}
use Rattle.sheet_text.specs.Tests.{no}
use Rattle.sheet_text.specs.Numbers.{Small, text_long}
use Rattle.sheet_text.specs.Forms.{marks, weight, AllSmall, form_long}
use Rattle.formatting.specs.Puts.{Put}
use Rattle.formatting.specs.Texts.{put_then, small_fits, small_again}

-- ---- steps of the definitions
module _ (fs : List ℕ) where
  write_mark : (v : ℤ) (vs : List ℤ) → write_form (35 ∷ fs) (v ∷ vs) ≡ text v ++ write_form fs vs
  unfolding write_form
  write_mark v vs = refl

  marks_mark : marks (35 ∷ fs) ≡ suc (marks fs)
  unfolding marks
  marks_mark = refl

  weight_mark : weight (35 ∷ fs) ≡ 8 + weight fs
  unfolding weight
  weight_mark = refl

  module _ (f : ℕ) (h : f ≡ 35 → ⊥) where
    write_byte : (vs : List ℤ) → write_form (f ∷ fs) vs ≡ f ∷ write_form fs vs
    unfolding write_form
    write_byte vs = no (eqb f 35) _ _ (ne_eqb f 35 h)

    marks_byte : marks (f ∷ fs) ≡ marks fs
    unfolding marks
    marks_byte = rw (ne_eqb f 35 h)

    weight_byte : weight (f ∷ fs) ≡ 1 + weight fs
    unfolding weight
    weight_byte = rw (ne_eqb f 35 h)

-- ---- at j of the form and k of the numbers: what is written with what is to come is the whole, and there is room for the rest
pub record Going (form : List ℕ) (values : List ℤ) (start : List ℕ) (at : ℕ) (out : List ℕ) (i k j : ℕ) : Type 0 where
  pub t : List ℕ
  pub placed : Put start out at i t
  pub same : write_form form values ≡ t ++ write_form (drop j form) (drop k values)
  pub room : i + weight (drop j form) ≤ length out
  pub left : k + marks (drop j form) ≤ length values

module _ (form : List ℕ) (values : List ℤ) (start : List ℕ) (at : ℕ) (out : List ℕ) (i k j : ℕ) (g : Going form values start at out i k j) where
  pub ends : length form ≤ j → Put start out at i (write_form form values)
  unfolding write_form
  ends h = subst (Put start out at i) (sym (g.same ∙ ap (λ u. g.t ++ write_form u (drop k values)) (drop_of_length-le form h) ∙ append-nil g.t)) g.placed

  pub ends_by : length form ≤ j → i ≤ at + weight form
  ends_by h = omega (arith, (ends h).next_is, form_long form values)

  module _ (l : j < length form) where
    here : drop j form ≡ get_or form j 0 ∷ drop (j + 1) form
    here = drop-cons form j 0 l ∙ ap (λ n. get_or form j 0 ∷ drop n form) (sym (add-one j))

    module _ (q : get_or form j 0 ≡ 35) where
      mark : drop j form ≡ 35 ∷ drop (j + 1) form
      mark = here ∙ ap (λ u. u ∷ drop (j + 1) form) q

      pub has_value : k < length values
      has_value = omega (arith, g.left, ap marks mark ∙ marks_mark (drop (j + 1) form))

      pub number_room : i + 8 ≤ length out
      number_room = omega (arith, g.room, ap weight mark ∙ weight_mark (drop (j + 1) form))

      pub number_small : AllSmall values → Small (to_z w32 (of_z w32 (get_or values k (pos 0))))
      unfolding AllSmall
      number_small a = small_again (get_or values k (pos 0)) (a k)

      pub number_on : (next : List ℕ) (n : ℕ) → AllSmall values → Put out next i n (text (to_z w32 (of_z w32 (get_or values k (pos 0))))) → length next ≡ length out → Going form values start at next n (k + 1) (j + 1)
      unfolding AllSmall
      number_on next n a p m =
          let v = get_or values k (pos 0) in
          let o : Put out next i n (text v) = subst (λ u. Put out next i n (text u)) (to_z-of_z w32 v (small_fits v (a k))) p in
          record {
            t = g.t ++ text v;
            placed = put_then start out next at i n g.t (text v) g.placed o;
            same = g.same
                ∙ ap₂ (λ x y. g.t ++ write_form x y) mark (drop-cons values k (pos 0) has_value ∙ ap (λ u. v ∷ drop u values) (sym (add-one k)))
                ∙ ap (λ u. g.t ++ u) (write_mark (drop (j + 1) form) v (drop (k + 1) values))
                ∙ sym (append_assoc g.t (text v) (write_form (drop (j + 1) form) (drop (k + 1) values)));
            room = omega (arith, g.room, ap weight mark ∙ weight_mark (drop (j + 1) form), o.next_is, text_long v, m);
            left = omega (arith, g.left, ap marks mark ∙ marks_mark (drop (j + 1) form));
          }

    module _ (q : get_or form j 0 ≡ 35 → ⊥) where
      pub byte_room : i < length out
      byte_room = omega (arith, g.room, ap weight here ∙ weight_byte (drop (j + 1) form) (get_or form j 0) q)

      pub byte_on : (next : List ℕ) (n : ℕ) → Put out next i n (get_or form j 0 ∷ []) → length next ≡ length out → Going form values start at next n k (j + 1)
      byte_on next n p m = record {
        t = g.t ++ (get_or form j 0 ∷ []);
        placed = put_then start out next at i n g.t (get_or form j 0 ∷ []) g.placed p;
        same = g.same
            ∙ ap (λ x. g.t ++ write_form x (drop k values)) here
            ∙ ap (λ u. g.t ++ u) (write_byte (drop (j + 1) form) (get_or form j 0) q (drop k values))
            ∙ sym (append_assoc g.t (get_or form j 0 ∷ []) (write_form (drop (j + 1) form) (drop k values)));
        room = omega (arith, g.room, ap weight here ∙ weight_byte (drop (j + 1) form) (get_or form j 0) q, p.next_is, m);
        left = omega (arith, g.left, ap marks here ∙ marks_byte (drop (j + 1) form) (get_or form j 0) q);
      }
