-- Rows of numbers, each of which passes a test: a row of coordinates, of zeros, of both, of marks. Assumes nothing.
use Rattle.std.specs.Prelude.{◌≡◌, Bool, true, false, ◌&&◌, List, [], ◌∷◌, ℕ, zero, suc, ◌+◌, ◌-◌, ◌*◌, ◌<◌, ◌≤◌, ℤ, pos, length, get_or, take, drop}
use Rattle.std.specs.List.{list_all}
use Rattle.std.proofs.Math.Path.{refl, ap}
use Rattle.std.proofs.Common.{sym, ◌∙◌, arith, drop-drop}
use Rattle.std.proofs.lemmas.List.{drop_more, take_rest}
use Rattle.model.specs.Jobs.{coordinate, coordinates, is_zero, kind, placed, marked}

pub coordinates_are : (zs : List ℤ) → coordinates zs ≡ list_all coordinate zs
unfolding coordinates
coordinates_are [] = refl
coordinates_are (z ∷ zs) = ap (λ b. coordinate z && b) (coordinates_are zs)

pub zeros_are : (zs : List ℤ) → placed 0 zs ≡ list_all is_zero zs
unfolding placed
zeros_are [] = refl
zeros_are (z ∷ zs) = ap (λ b. is_zero z && b) (zeros_are zs)

joined : (a b c : Bool) → (a && (b && c)) ≡ ((a && b) && c)
joined true b c = refl
joined false b c = refl

pub placed_parts : (n : ℕ) (vs : List ℤ) → placed n vs ≡ (coordinates (take n vs) && placed 0 (drop n vs))
unfolding placed coordinates
placed_parts zero vs = refl
placed_parts (suc n) [] = refl
placed_parts (suc n) (v ∷ vs) = ap (λ b. coordinate v && b) (placed_parts n vs) ∙ joined (coordinate v) (coordinates (take n vs)) (placed 0 (drop n vs))

-- where the first n are coordinates, the others decide; and where one of them is none, it does
pub placed_then : (n : ℕ) (vs : List ℤ) → coordinates (take n vs) ≡ true → placed n vs ≡ placed 0 (take (length vs - n) (drop n vs))
placed_then n vs h = placed_parts n vs ∙ (ap (λ b. b && placed 0 (drop n vs)) h ∙ ap (placed 0) (sym (take_rest vs n)))

pub placed_else : (n : ℕ) (vs : List ℤ) → coordinates (take n vs) ≡ false → placed n vs ≡ false
placed_else n vs h = placed_parts n vs ∙ ap (λ b. b && placed 0 (drop n vs)) h

-- past the edges a mark's place does not count
pub marks_past : (ms vs : List ℤ) → marked 0 ms vs ≡ placed 0 ms
unfolding marked placed
marks_past [] vs = refl
marks_past (m ∷ ms) vs = ap (λ b. is_zero m && b) (marks_past ms (drop 8 vs))

-- of the marks from mark i on that one decides where its place does not allow it, and else those behind it
marks_from : (n i : ℕ) (ms vs : List ℤ) → i < n → i < length ms → marked (n - i) (drop i ms) (drop (8 * i) vs) ≡ (kind (get_or ms i (pos 0)) (drop (8 * i) vs) && marked (n - (i + 1)) (drop (i + 1) ms) (drop (8 * (i + 1)) vs))
unfolding marked
marks_from n i ms vs h k =
    let e : n - i ≡ suc (n - (i + 1)) = omega arith in
    let f : 8 * i + 8 ≡ 8 * (i + 1) = omega arith in
    let m = get_or ms i (pos 0) in
    ap (λ k. marked k (drop i ms) (drop (8 * i) vs)) e
    ∙ (ap (λ ns. marked (suc (n - (i + 1))) ns (drop (8 * i) vs)) (drop_more ms i (pos 0) k)
    ∙ ap (λ ws. kind m (drop (8 * i) vs) && marked (n - (i + 1)) (drop (i + 1) ms) ws) (drop-drop 8 (8 * i) vs ∙ ap (λ d. drop d vs) f))

-- a turn of the loop over the first n marks, at mark i, whose kind was told, and after the last of them
module _ (n i : ℕ) (ms vs : List ℤ) (few : n ≤ length ms) (all : Bool) (inv : all ≡ marked (n - i) (drop i ms) (drop (8 * i) vs)) where
  module _ (h : i < n) (m : ℤ) (k : Bool) (e : m ≡ get_or ms i (pos 0)) (f : k ≡ kind m (take (length vs - 8 * i) (drop (8 * i) vs))) where
    told : k ≡ kind (get_or ms i (pos 0)) (drop (8 * i) vs)
    told = f ∙ (ap (kind m) (take_rest vs (8 * i)) ∙ ap (λ m. kind m (drop (8 * i) vs)) e)

    one : all ≡ (k && marked (n - (i + 1)) (drop (i + 1) ms) (drop (8 * (i + 1)) vs))
    one = inv ∙ (marks_from n i ms vs h (omega arith) ∙ ap (λ b. b && marked (n - (i + 1)) (drop (i + 1) ms) (drop (8 * (i + 1)) vs)) (sym told))

    pub marks_stop : k ≡ false → false ≡ all
    marks_stop t = sym (one ∙ ap (λ b. b && marked (n - (i + 1)) (drop (i + 1) ms) (drop (8 * (i + 1)) vs)) t)

    pub marks_go : k ≡ true → all ≡ marked (n - (i + 1)) (drop (i + 1) ms) (drop (8 * (i + 1)) vs)
    marks_go t = one ∙ ap (λ b. b && marked (n - (i + 1)) (drop (i + 1) ms) (drop (8 * (i + 1)) vs)) t

  pub marks_end : (r : Bool) (k : ℕ) → r ≡ placed 0 (take (length ms - k) (drop k ms)) → k ≡ n → i ≡ n → r ≡ all
  marks_end r k e s u =
      let z : n - i ≡ 0 = omega arith in
      e ∙ (ap (placed 0) (take_rest ms k ∙ ap (λ d. drop d ms) (s ∙ sym u)) ∙ sym (inv ∙ (ap (λ k. marked k (drop i ms) (drop (8 * i) vs)) z ∙ marks_past (drop i ms) (drop (8 * i) vs))))
