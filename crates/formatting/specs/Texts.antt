-- The needs of the writers of bytes and numbers, and that a text after a text is both. Assumes nothing.
use Rattle.std.specs.Prelude.{◌≡◌, refl, true, false, List, [], ◌∷◌, ◌++◌, ℕ, ◌+◌, ◌/◌, ◌%◌, ◌≤◌, ◌<◌, T, ltb, ℤ, pos, negsuc, neg_ℤ, ◌-ℤ◌, length, take, drop, set}
use Rattle.std.proofs.Math.Path.{sym, ap, subst}
use Rattle.std.proofs.Common.{◌∙◌, append_assoc, append-nil, add-one, Fits, SFits, to_z, of_z, ltb-true, length-append, take-suc-set, drop-set-lt, drop-drop}
use native.Mathlib.Omega.{arith}
use Rattle.std.specs.Int.{w32}
use Rattle.std.proofs.lemmas.Int.{to_z-of_z}
use Rattle.std.specs.Int.Signed.{lt_z, non_neg}
use Rattle.std.proofs.Math.IntN.{nat_abs, +ℤ_idl}
use Rattle.model.specs.Numbers.{decimal, text}
use Rattle.sheet_text.specs.Numbers.{Small, decimal_one, decimal_more, wider, decimal_long}
use Rattle.formatting.specs.Puts.{Put}

-- ---- one byte; nothing; one text and another after it
pub put_one : (l : List ℕ) (i v : ℕ) → i < length l → Put l (set l i v) i (i + 1) (v ∷ [])
put_one l i v h = record {
  next_is = refl;
  wrote = ap (λ k. take k (set l i v)) (add-one i) ∙ take-suc-set l i v h;
  rest = drop-set-lt (i + 1) l i v (omega arith);
}

pub put_none : (l : List ℕ) (i : ℕ) → Put l l i i []
put_none l i = record { next_is = omega arith; wrote = sym (append-nil (take i l)); rest = refl }

further : (l m : List ℕ) (n k : ℕ) → drop n l ≡ drop n m → drop (n + k) l ≡ drop (n + k) m
further l m n k e = sym (drop-drop k n l) ∙ ap (drop k) e ∙ drop-drop k n m

pub put_then : (a b c : List ℕ) (i n m : ℕ) (t u : List ℕ) → Put a b i n t → Put b c n m u → Put a c i m (t ++ u)
put_then a b c i n m t u p q = record {
  next_is = q.next_is ∙ rw length-append (omega (arith, p.next_is));
  wrote = q.wrote ∙ ap (λ z. z ++ u) p.wrote ∙ append_assoc (take i a) t u;
  rest = q.rest ∙ subst (λ k. drop k b ≡ drop k a) (sym q.next_is) (further b a n (length u) p.rest);
}

-- ---- digits
pub digits_small : (a b : List ℕ) (i m n d : ℕ) → Put a b i m (d ∷ []) → d ≡ 48 + n → n < 10 → Put a b i m (decimal 7 n)
digits_small a b i m n d p e h = subst (Put a b i m) (ap (λ u. u ∷ []) e ∙ sym (decimal_one 6 n h)) p

tens : (n : ℕ) → 10 ≤ n → n < 10000000 → decimal 7 n ≡ decimal 7 (n / 10) ++ ((48 + n % 10) ∷ [])
tens n h l = decimal_more 6 n h ∙ ap (λ u. u ++ ((48 + n % 10) ∷ [])) (wider 5 6 (n / 10) (omega arith) (omega arith))

pub digits_large : (a b c : List ℕ) (i k m n d : ℕ) → Put a b i k (decimal 7 (n / 10)) → Put b c k m (d ∷ []) → d ≡ 48 + n % 10 → 10 ≤ n → n < 10000000 → Put a c i m (decimal 7 n)
digits_large a b c i k m n d p q e h l =
    subst (Put a c i m) (ap (λ u. decimal 7 (n / 10) ++ (u ∷ [])) e ∙ sym (tens n h l)) (put_then a b c i k m (decimal 7 (n / 10)) (d ∷ []) p q)

pub digits_room : (a b : List ℕ) (i k n : ℕ) → Put a b i k (decimal 7 (n / 10)) → n < 10000000 → i + 7 ≤ length a → length b ≡ length a → k < length b
digits_room a b i k n p l h e =
    omega (arith, p.next_is, ap length (sym (wider 5 6 (n / 10) (omega arith) (omega arith))), decimal_long 6 (n / 10))

-- ---- a sign
below_zero : (z : ℤ) → lt_z z (pos 0) ≡ true → (n : ℕ) × (z ≡ negsuc n)
below_zero (pos n) h = absurd (not_below n h)
  where
    not_below : (n : ℕ) → ltb n 0 ≡ true → ⊥
    not_below n h = let z = ltb-true n 0 h in omega arith
below_zero (negsuc n) h = (n, refl)

from_zero : (z : ℤ) → lt_z z (pos 0) ≡ false → (n : ℕ) × (z ≡ pos n)
from_zero (pos n) h = (n, refl)
from_zero (negsuc n) h = absurd (let z : ◌≡◌ {A = ℕ} 0 1 = cc in omega arith)

pub small_fits : (z : ℤ) → Small z → SFits w32 z
unfolding Small
small_fits (pos n) h = record { sfits = omega arith }
small_fits (negsuc n) h = record { sfits = omega arith }

pos_fits : (z : ℤ) → Small z → SFits w32 (pos (nat_abs z))
unfolding Small
pos_fits z h = record { sfits = omega arith }

module _ (v : ℤ) (s : Small v) where
  read_back : to_z w32 (of_z w32 v) ≡ v
  read_back = to_z-of_z w32 v (small_fits v s)

  module _ (h : lt_z (to_z w32 (of_z w32 v)) (pos 0) ≡ true) where
    is_below : (n : ℕ) × (v ≡ negsuc n)
    is_below = below_zero v (ap (λ u. lt_z u (pos 0)) (sym read_back) ∙ h)

    flip : pos 0 -ℤ to_z w32 (of_z w32 v) ≡ pos (nat_abs v)
    flip = ap (λ u. pos 0 -ℤ u) read_back ∙ +ℤ_idl (neg_ℤ v) ∙ ap neg_ℤ is_below.1 ∙ sym (ap (λ u. pos (nat_abs u)) is_below.1)

    flip_read : to_z w32 (of_z w32 (pos 0 -ℤ to_z w32 (of_z w32 v))) ≡ pos (nat_abs v)
    flip_read = ap (λ u. to_z w32 (of_z w32 u)) flip ∙ to_z-of_z w32 (pos (nat_abs v)) (pos_fits v s)

    pub flip_fits : SFits w32 (pos 0 -ℤ to_z w32 (of_z w32 v))
    flip_fits = subst (SFits w32) (sym flip) (pos_fits v s)

    pub flip_cast : T (non_neg (to_z w32 (of_z w32 (pos 0 -ℤ to_z w32 (of_z w32 v))))) × Fits w32 (nat_abs (to_z w32 (of_z w32 (pos 0 -ℤ to_z w32 (of_z w32 v)))))
    unfolding Small
    flip_cast = rw flip_read (tt, record { fits = omega arith })

    pub flip_is : nat_abs (to_z w32 (of_z w32 (pos 0 -ℤ to_z w32 (of_z w32 v)))) ≡ nat_abs v
    flip_is = ap nat_abs flip_read

    -- a minus, and the digits
    pub minus_text : (a b c : List ℕ) (i k m n : ℕ) → Put a b i k (45 ∷ []) → Put b c k m (decimal 7 n) → n ≡ nat_abs (to_z w32 (of_z w32 v)) → Put a c i m (text v)
    unfolding text
    minus_text a b c i k m n p q e =
        subst (Put a c i m) (ap (λ u. 45 ∷ decimal 7 u) (e ∙ ap nat_abs (read_back ∙ is_below.1)) ∙ sym (ap text is_below.1)) (put_then a b c i k m (45 ∷ []) (decimal 7 n) p q)

  module _ (h : lt_z (to_z w32 (of_z w32 v)) (pos 0) ≡ false) where
    is_from : (n : ℕ) × (v ≡ pos n)
    is_from = from_zero v (ap (λ u. lt_z u (pos 0)) (sym read_back) ∙ h)

    pub keep_cast : T (non_neg (to_z w32 (of_z w32 v))) × Fits w32 (nat_abs (to_z w32 (of_z w32 v)))
    keep_cast = rw read_back (subst (λ u. T (non_neg u) × Fits w32 (nat_abs u)) (sym is_from.1) (tt, fits_in is_from.0 is_from.1))
      where
        fits_in : (n : ℕ) → v ≡ pos n → Fits w32 n
        fits_in n e = record { fits = unfold Small in omega (arith, subst Small e s) }

    pub plus_text : (a c : List ℕ) (i m n : ℕ) → Put a c i m (decimal 7 n) → n ≡ nat_abs (to_z w32 (of_z w32 v)) → Put a c i m (text v)
    unfolding text
    plus_text a c i m n p e = subst (Put a c i m) (ap (decimal 7) (e ∙ ap nat_abs (read_back ∙ is_from.1)) ∙ sym (ap text is_from.1)) p

  pub small_again : Small (to_z w32 (of_z w32 v))
  small_again = subst Small (sym read_back) s

  pub small_digits : (n : ℕ) → n ≡ nat_abs (to_z w32 (of_z w32 v)) → n < 10000000
  unfolding Small
  small_digits n e = omega (arith, small_again)

pub after_one : (a b : List ℕ) (i k d : ℕ) → Put a b i k (d ∷ []) → i + 8 ≤ length a → length b ≡ length a → k + 7 ≤ length b
after_one a b i k d p h e = omega (arith, p.next_is)
