-- The needs of the readers of numbers: the definitions a step at a time, by the first byte and the first digit. Assumes nothing.
use Rattle.std.proofs.Common.{◌≡◌, refl, sym, ap, ap₂, ◌∙◌, Bool, true, false, not, ◌&&◌, cond, List, [], ◌∷◌, ℕ, zero, suc, ◌+◌, ◌-◌, ◌*◌, ◌^◌, ◌<◌, length, add-one, drop, arith, eqb-true}
use Rattle.std.proofs.lemmas.Bool.{eqb-false}
use Rattle.std.specs.Prelude.{Option, Some, None, eqb, ℤ, pos}
use Rattle.std.specs.List.{slice_get}
use Rattle.std.proofs.lemmas.Option.{none-some, same_Some}
use Rattle.std.proofs.Math.Seq.{drop-drop}
use Rattle.std.proofs.Math.Nat.{pow-suc}
use Rattle.model.specs.Bytes.{Got, got, none, digit}
use Rattle.model.specs.Numbers.{more_digits, natural, number}
use Rattle.sheet_text.specs.Numbers.{plus, minus, digit_is, natural_was}
use Rattle.scanning.specs.Scanned.{digit_of}

-- ---- digits
abbrev pub byte_digit : Option ℕ → Option ℕ
byte_digit None = None
byte_digit (Some b) = cond (digit b) (Some (b - 48)) None

pub digit_by : (s : List ℕ) (i : ℕ) → digit_of (drop i s) ≡ byte_digit (slice_get s i)
unfolding digit_of
digit_by [] zero = refl
digit_by [] (suc i) = refl
digit_by (b ∷ s) zero = refl
digit_by (b ∷ s) (suc i) = digit_by s i

pub digit_small : (s : List ℕ) (i d : ℕ) → digit_of (drop i s) ≡ Some d → (d < 10) × (i < length s)
unfolding digit_of
digit_small [] zero d h = absurd (none-some d h)
digit_small [] (suc i) d h = absurd (none-some d h)
digit_small (b ∷ s) zero d h = go (digit b) refl h
  where
    go : (t : Bool) → digit b ≡ t → cond t (Some (b - 48)) None ≡ Some d → (d < 10) × (0 < length (b ∷ s))
    go true e h = let q = same_Some (b - 48) d h in let z = digit_is b e in (omega arith, omega arith)
    go false e h = absurd (none-some d h)
digit_small (b ∷ s) (suc i) d h = let z = digit_small s i d h in (z.0, omega (arith, z.1))

abbrev pub begun : Option ℕ → List ℕ → Got ℕ
begun None s = none
begun (Some d) s = cond (eqb d 0) none (more_digits 6 d s)

first_by : (l : List ℕ) → natural l ≡ begun (digit_of l) (drop 1 l)
unfolding digit_of natural
first_by [] = refl
first_by (b ∷ s) = go (digit b) refl
  where
    go : (t : Bool) → digit b ≡ t → elim (t && not (eqb b 48)) [ true ↦ more_digits 6 (b - 48) s | false ↦ none ] ≡ begun (cond t (Some (b - 48)) None) s
    go true e = let z = digit_is b e in same (eqb b 48) (eqb (b - 48) 0) refl refl
      where
        same : (p q : Bool) → eqb b 48 ≡ p → eqb (b - 48) 0 ≡ q → elim (true && not p) [ true ↦ more_digits 6 (b - 48) s | false ↦ none ] ≡ cond q none (more_digits 6 (b - 48) s)
        same true true x y = refl
        same false false x y = refl
        same true false x y = absurd (let n = eqb-true b 48 x in eqb-false (b - 48) 0 y (omega arith))
        same false true x y = absurd (let n = eqb-true (b - 48) 0 y in eqb-false b 48 x (let z = digit_is b e in omega arith))
    go false e = refl

pub natural_by : (s : List ℕ) (at : ℕ) → natural (drop at s) ≡ begun (digit_of (drop at s)) (drop (at + 1) s)
natural_by s at = first_by (drop at s) ∙ ap (begun (digit_of (drop at s))) (drop-drop 1 at s)

abbrev pub gone_on : ℕ → ℕ → Option ℕ → List ℕ → List ℕ → Got ℕ
gone_on k v None s t = got v s
gone_on k v (Some d) s t = more_digits k (v * 10 + d) t

more_here : (k v : ℕ) (l : List ℕ) → more_digits (suc k) v l ≡ gone_on k v (digit_of l) l (drop 1 l)
unfolding digit_of more_digits
more_here k v [] = refl
more_here k v (b ∷ s) = go (digit b)
  where
    go : (t : Bool) → elim t [ true ↦ more_digits k (v * 10 + (b - 48)) s | false ↦ got v (b ∷ s) ] ≡ gone_on k v (cond t (Some (b - 48)) None) (b ∷ s) s
    go true = refl
    go false = refl

pub more_by : (k v : ℕ) (s : List ℕ) (i : ℕ) → more_digits (suc k) v (drop i s) ≡ gone_on k v (digit_of (drop i s)) (drop i s) (drop (i + 1) s)
more_by k v s i = more_here k v (drop i s) ∙ ap (gone_on k v (digit_of (drop i s)) (drop i s)) (drop-drop 1 i s)

pub more_none : (v : ℕ) (l : List ℕ) → more_digits 0 v l ≡ got v l
unfolding more_digits
more_none v l = refl

-- the same where f digits are left to be read
pub more_of : (f v : ℕ) (s : List ℕ) (i : ℕ) → 0 < f → more_digits f v (drop i s) ≡ gone_on (f - 1) v (digit_of (drop i s)) (drop i s) (drop (i + 1) s)
more_of zero v s i h = absurd (omega arith)
more_of (suc f) v s i h = let e : suc f - 1 ≡ f = omega arith in rw e (more_by f v s i)

pub ten_times : (k : ℕ) → (10 ^ suc k ≡ 10 ^ suc k) × (10 ^ suc (k + 1) ≡ 10 * 10 ^ suc k)
ten_times k = (refl, rw (add-one k) (let p = pow-suc 10 (suc k) in omega arith))

-- what a natural number's reader uses
pub ruleset digits = (natural_by, more_of, more_none, digit_small, ten_times)

-- ---- a number, by its first byte
abbrev pub signed : Option ℕ → Got ℕ → Got ℕ → List ℕ → Got ℤ
signed None n m s = none
signed (Some b) n m s = cond (eqb b 48) (got (pos 0) s) (cond (eqb b 45) (minus m) (plus n))

number_of : (l : List ℕ) → number l ≡ signed (slice_get l 0) (natural l) (natural (drop 1 l)) (drop 1 l)
unfolding number
number_of [] = refl
number_of (b ∷ s) = go (eqb b 48) (eqb b 45)
  where
    go : (p q : Bool) → elim p [ true ↦ got (pos 0) s | false ↦ elim q [ true ↦ minus (natural s) | false ↦ plus (natural (b ∷ s)) ] ] ≡ cond p (got (pos 0) s) (cond q (minus (natural s)) (plus (natural (b ∷ s))))
    go true q = refl
    go false true = refl
    go false false = refl

pub number_by : (s : List ℕ) (at : ℕ) → number (drop at s) ≡ signed (slice_get s at) (natural (drop at s)) (natural (drop (at + 1) s)) (drop (at + 1) s)
number_by s at = number_of (drop at s) ∙ ap₂ (λ b t. signed b (natural (drop at s)) (natural t) t) (first s at) (drop-drop 1 at s)
  where
    first : (s : List ℕ) (at : ℕ) → slice_get (drop at s) 0 ≡ slice_get s at
    first [] zero = refl
    first [] (suc at) = refl
    first (b ∷ s) zero = refl
    first (b ∷ s) (suc at) = first s at

-- a natural number that was read is small
pub natural_small : (l : List ℕ) (v : ℕ) (t : List ℕ) → got v t ≡ natural l → (got v t ≡ got v t) × (v < 10000000)
natural_small l v t e = (refl, (natural_was l v t (sym e)).1)
