-- The reply as it is written: three numbers at its front, and one point's reply after those of the points before it. Assumes nothing.
use Rattle.std.proofs.Common.{◌≡◌, refl, sym, ap, ap₂, ◌∙◌, subst, true, List, [], ◌∷◌, ◌++◌, append_assoc, ℕ, suc, ◌+◌, ◌-◌, ◌*◌, ◌≤◌, ◌<◌, add-one, arith, ℤ, pos, nat_abs, length, get_or, take, drop, length-drop, drop-drop, to_z, of_z, to_z-of_z, w32}
use Rattle.std.proofs.lemmas.List.{take-append-drop, get_or-drop, length-append, drop_at}
use Rattle.std.proofs.Math.ListN.{get_or-append}
use Rattle.std.proofs.lemmas.Slice.{take-put_mid, drop-put_mid}
use Rattle.std.proofs.Math.Seq.{drop-cons}
use borrow.Rule.Slice.PartMut.{put_mid}
use Rattle.integers.specs.Signed.{fits32}
use Rattle.model.specs.Jobs.{coordinates}
use Rattle.model.specs.Trees.{Tree}
use Rattle.model.specs.Distance.{lo, hi, named}
use Rattle.model.specs.Entries.{over, spots_in, replies}
use Rattle.model.specs.Promises.{spot_x, spot_y}
use Rattle.ranges.specs.Legal.{coordinate_true, coordinate_size, row_in}

pub three_eq : {a b c d e f : ℤ} → a ≡ d → b ≡ e → c ≡ f → a ∷ b ∷ c ∷ [] ≡ d ∷ e ∷ f ∷ []
three_eq p q r = cc

-- ---- a point's numbers are in range, and are read back from their bits as they were
module _ (zs : List ℤ) (i : ℕ) (e : coordinates zs ≡ true) (h : i < length zs) where
  size_at : nat_abs (get_or zs i (pos 0)) ≤ 1000000
  size_at = coordinate_size (get_or zs i (pos 0)) (coordinate_true (row_in zs i e h))

  pub number_read : to_z w32 (of_z w32 (get_or zs i (pos 0))) ≡ get_or zs i (pos 0)
  number_read = to_z-of_z (fits32 size_at tt)

  pub number_size : nat_abs (to_z w32 (of_z w32 (get_or zs i (pos 0)))) ≤ 1000000
  number_size = subst (λ (n : ℤ). nat_abs n ≤ 1000000) (sym number_read) size_at

-- ---- the next point's two numbers, and its reply before the later ones
next_spot : (spots : List ℤ) (k : ℕ) → k < spots_in spots → drop (2 * k) spots ≡ spot_x spots k ∷ spot_y spots k ∷ drop (2 * (k + 1)) spots
next_spot spots k h =
    drop-cons spots (2 * k) (pos 0) (omega arith)
    ∙ ap (λ (n : ℕ). spot_x spots k ∷ drop n spots) (sym (add-one (2 * k)))
    ∙ ap (λ (l : List ℤ). spot_x spots k ∷ l) (drop-cons spots (2 * k + 1) (pos 0) (omega arith))
    ∙ ap (λ (n : ℕ). spot_x spots k ∷ spot_y spots k ∷ drop n spots) (let e : suc (2 * k + 1) ≡ 2 * (k + 1) = omega arith in e)

module _ (ts : List Tree) (x y : ℤ) where
  -- one point's reply
  abbrev pub three : List ℤ
  three = lo ts x y ∷ hi ts x y ∷ pos (named ts x y) ∷ []

  first_reply : (rest old : List ℤ) → over (replies ts (x ∷ y ∷ rest)) old ≡ three ++ over (replies ts rest) (drop 3 old)
  unfolding replies
  first_reply rest old = ap (λ (l : List ℤ). three ++ (replies ts rest ++ l)) (sym (drop-drop (length (replies ts rest)) 3 old ∙ ap (λ (n : ℕ). drop n old) (let e : 3 + length (replies ts rest) ≡ suc (suc (suc (length (replies ts rest)))) = omega arith in e)))

-- ---- a turn of the loop: l is the reply so far, and ys the k-th point's three numbers, which are put at their place
module _ (ts : List Tree) (spots l ys : List ℤ) (k : ℕ) (h : k < spots_in spots) (r : 3 * spots_in spots ≤ length l) (e : ys ≡ three ts (spot_x spots k) (spot_y spots k)) where
  abbrev put : List ℤ
  put = put_mid (3 * k) (3 * k + 3 - 3 * k) l ys

  front_is : take (3 * (k + 1)) put ≡ take (3 * k) l ++ ys
  front_is = take-put_mid (3 * k) (3 * k + 3 - 3 * k) l ys (3 * (k + 1)) (omega (arith, ap length e)) (omega arith)

  back_is : drop (3 * (k + 1)) put ≡ drop 3 (drop (3 * k) l)
  back_is =
      drop-put_mid (3 * k) (3 * k + 3 - 3 * k) l ys (3 * (k + 1)) (omega arith) (omega arith) (omega (arith, ap length e))
      ∙ ap (λ (n : ℕ). drop n l) (let i : 3 * (k + 1) ≡ 3 * k + 3 = omega arith in i)
      ∙ sym (drop-drop 3 (3 * k) l)

  pub one_more : (wanted : List ℤ) → wanted ≡ take (3 * k) l ++ over (replies ts (drop (2 * k) spots)) (drop (3 * k) l) → wanted ≡ take (3 * (k + 1)) put ++ over (replies ts (drop (2 * (k + 1)) spots)) (drop (3 * (k + 1)) put)
  one_more wanted is =
      let rest = drop (2 * (k + 1)) spots in
      let reply = three ts (spot_x spots k) (spot_y spots k) in
      is
      ∙ ap (λ (s : List ℤ). take (3 * k) l ++ over (replies ts s) (drop (3 * k) l)) (next_spot spots k h)
      ∙ ap (λ (z : List ℤ). take (3 * k) l ++ z) (first_reply ts (spot_x spots k) (spot_y spots k) rest (drop (3 * k) l))
      ∙ sym (append_assoc (take (3 * k) l) reply (over (replies ts rest) (drop 3 (drop (3 * k) l))))
      ∙ sym (ap₂ (λ (a b : List ℤ). a ++ over (replies ts rest) b) (front_is ∙ ap (λ (z : List ℤ). take (3 * k) l ++ z) e) back_is)

-- ---- after the last point nothing is left to reply
none_left : (ts : List Tree) (rest : List ℤ) → length rest ≤ 1 → replies ts rest ≡ []
unfolding replies
none_left ts [] h = refl
none_left ts (x ∷ []) h = refl
none_left ts (x ∷ y ∷ rest) h = absurd (omega arith)

pub all_written : (ts : List Tree) (spots l : List ℤ) (k : ℕ) → spots_in spots ≤ k → take (3 * k) l ++ over (replies ts (drop (2 * k) spots)) (drop (3 * k) l) ≡ l
all_written ts spots l k h =
    ap (λ (z : List ℤ). take (3 * k) l ++ over z (drop (3 * k) l)) (none_left ts (drop (2 * k) spots) (simp length-drop (omega arith)))
    ∙ take-append-drop (3 * k) l

-- ---- the k-th two of a row, cut from its front
module _ (spots : List ℤ) (k : ℕ) {rest : List ℤ} (x behind : List ℤ) (l : rest ≡ drop (2 * k) spots) (e : rest ≡ x ++ behind) (two : length x ≡ 2) where
  pub cut_there : k < spots_in spots
  cut_there = omega (arith, ap length (sym l ∙ e), length-append x behind, length-drop (2 * k) spots)

  pub cut_behind : behind ≡ drop (2 * (k + 1)) spots
  cut_behind = sym (drop_at x behind 2 two) ∙ ap (drop 2) (sym e ∙ l) ∙ drop-drop 2 (2 * k) spots ∙ ap (λ (n : ℕ). drop n spots) (let i : 2 * k + 2 ≡ 2 * (k + 1) = omega arith in i)

  cut_at : (i : ℕ) → i < 2 → get_or x i (pos 0) ≡ get_or spots (2 * k + i) (pos 0)
  cut_at i h = sym (get_or-append x behind (pos 0) i (omega (arith, two))) ∙ ap (λ (z : List ℤ). get_or z i (pos 0)) (sym e ∙ l) ∙ get_or-drop (2 * k) spots i (pos 0)

  pub cut_x : get_or x 0 (pos 0) ≡ spot_x spots k
  cut_x = cut_at 0 (omega arith) ∙ ap (λ (n : ℕ). get_or spots n (pos 0)) (let i : 2 * k + 0 ≡ 2 * k = omega arith in i)

  pub cut_y : get_or x 1 (pos 0) ≡ spot_y spots k
  cut_y = cut_at 1 (omega arith)
