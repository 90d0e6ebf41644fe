-- A number's text: what was written is read (`number_text`), and what was read is what is written (`text_number`). Assumes nothing.
use Rattle.std.specs.Prelude.{◌≡◌, Bool, true, false, not, ◌&&◌, List, [], ◌∷◌, ◌++◌, ℕ, zero, suc, ◌+◌, ◌*◌, ◌-◌, ◌/◌, ◌%◌, ◌^◌, ◌≤◌, ◌<◌, ltb, leb, eqb, ℤ, pos, negsuc, neg_ℤ, length}
use Rattle.std.proofs.Math.Path.{refl, ap}
use Rattle.std.proofs.Common.{sym, ◌∙◌, subst, append_assoc, pow-suc, lt_of_lt_of_le, lit<, length-append}
use Rattle.std.proofs.Math.Nat.{pow-le-pow_right}
use native.Mathlib.Omega.{arith}
use borrow.Author.Tests.{ltb-true, ltb-false, leb-true, lt-ltb, le-ltb, le-leb, eqb-true, eqb-false, ne_eqb}
use Rattle.model.specs.Bytes.{Got, got, none, given, digit}
use Rattle.model.specs.Numbers.{decimal, text, more_digits, natural, number}
unfoldable pub use Rattle.model.specs.Numbers.{Small}
use Rattle.integers.specs.Tests.{both}
use Rattle.sheet_text.specs.Tests.{no_way, yes, no}

-- ---- digits
module _ (d : ℕ) where
  pub digit_is : digit d ≡ true → (48 ≤ d) × (d ≤ 57)
  unfolding digit
  digit_is h = let p = both (leb 48 d) (leb d 57) h in (leb-true 48 d p.0, leb-true d 57 p.1)

  pub is_digit : 48 ≤ d → d ≤ 57 → digit d ≡ true
  unfolding digit
  is_digit h k = simp (le-leb 48 d h, le-leb d 57 k)

-- a number below ten; and a digit more
pub decimal_one : (k n : ℕ) → n < 10 → decimal (suc k) n ≡ (48 + n) ∷ []
unfolding decimal
decimal_one k n h = yes (ltb n 10) _ _ (lt-ltb n 10 h)

pub decimal_more : (k n : ℕ) → 10 ≤ n → decimal (suc k) n ≡ decimal k (n / 10) ++ ((48 + n % 10) ∷ [])
unfolding decimal
decimal_more k n h = no (ltb n 10) _ _ (le-ltb n 10 h)

pub cases_ten : (n : ℕ) {X : Type 0} → (n < 10 → X) → (10 ≤ n → X) → X
cases_ten n {X} f g = go (ltb n 10) refl
  where
    go : (t : Bool) → ltb n 10 ≡ t → X
    go true e = f (ltb-true n 10 e)
    go false e = g (ltb-false n 10 e)

-- room for more digits changes nothing
pub wider : (g h n : ℕ) → n < 10 ^ suc g → g ≤ h → decimal (suc g) n ≡ decimal (suc h) n
wider zero h n l m = decimal_one 0 n l ∙ sym (decimal_one h n l)
wider (suc g) zero n l m = absurd (omega arith)
wider (suc g) (suc h) n l m = cases_ten n
    (λ k. decimal_one (suc g) n k ∙ sym (decimal_one (suc h) n k))
    (λ k. decimal_more (suc g) n k ∙ ap (λ u. u ++ ((48 + n % 10) ∷ [])) (wider g h (n / 10) (let p = pow-suc 10 (suc g) in omega arith) (omega arith)) ∙ sym (decimal_more (suc h) n k))

-- ---- what was written is read
more_digit : (g a e : ℕ) (t : List ℕ) → e < 10 → more_digits (suc g) a ((48 + e) ∷ t) ≡ more_digits g (a * 10 + e) t
unfolding more_digits
more_digit g a e t h = yes (digit (48 + e)) _ _ (is_digit (48 + e) (omega arith) (omega arith)) ∙ (ap (λ u. more_digits g (a * 10 + u) t) (omega arith))

more_stop : (g a b : ℕ) (t : List ℕ) → digit b ≡ false → more_digits g a (b ∷ t) ≡ got a (b ∷ t)
unfolding more_digits
more_stop zero a b t h = refl
more_stop (suc g) a b t h = no (digit b) _ _ h

natural_digit : (e : ℕ) (t : List ℕ) → 1 ≤ e → e < 10 → natural ((48 + e) ∷ t) ≡ more_digits 6 e t
unfolding natural
natural_digit e t h l = yes (digit (48 + e) && not (eqb (48 + e) 48)) _ _ (rw (is_digit (48 + e) (omega arith) (omega arith), ne_eqb (48 + e) 48 (λ q. omega arith))) ∙ (ap (λ u. more_digits 6 u t) (omega arith))

-- the text of n is read by e of the six further digits, and reading goes on from n
abbrev Goes : ℕ → ℕ → Type 0
Goes k n = (e : ℕ) × (e ≤ k) × ((g : ℕ) (t : List ℕ) → e + g ≡ 6 → natural (decimal (suc k) n ++ t) ≡ more_digits g n t)

goes_one : (k n : ℕ) → 1 ≤ n → n < 10 → Goes k n
goes_one k n h m = (0, omega arith, λ g t z. ap (λ u. natural (u ++ t)) (decimal_one k n m) ∙ natural_digit n t h m ∙ ap (λ u. more_digits u n t) (let y : 6 ≡ g = omega arith in y))

goes_more : (k n : ℕ) → 10 ≤ n → Goes k (n / 10) → Goes (suc k) n
goes_more k n m r = (
  suc r.0,
  omega arith,
  λ g t z.
      ap (λ u. natural (u ++ t)) (decimal_more (suc k) n m)
      ∙ ap natural (append_assoc (decimal (suc k) (n / 10)) ((48 + n % 10) ∷ []) t)
      ∙ r.2 (suc g) ((48 + n % 10) ∷ t) (omega arith)
      ∙ more_digit g (n / 10) (n % 10) t (omega arith)
      ∙ ap (λ u. more_digits g u t) (omega arith),
)

goes : (k n : ℕ) → 1 ≤ n → n < 10 ^ suc k → Goes k n
goes zero n h l = goes_one 0 n h l
goes (suc k) n h l = cases_ten n (goes_one (suc k) n h)
    (λ m. goes_more k n m (goes k (n / 10) (omega arith) (let p = pow-suc 10 (suc k) in omega arith)))

natural_text : (n b : ℕ) (t : List ℕ) → 1 ≤ n → n < 10000000 → digit b ≡ false → natural (decimal 7 n ++ (b ∷ t)) ≡ got n (b ∷ t)
natural_text n b t h l d =
    let r = goes 6 n h l in
    r.2 (6 - r.0) (b ∷ t) (omega arith) ∙ more_stop (6 - r.0) n b t d

-- the first byte of a positive number is neither 0 nor a minus
head_of : (k n : ℕ) → 1 ≤ n → n < 10 ^ suc k → (d : ℕ) × (u : List ℕ) × (decimal (suc k) n ≡ d ∷ u) × (49 ≤ d)
head_of zero n h l = (48 + n, [], decimal_one 0 n l, omega arith)
head_of (suc k) n h l = cases_ten n (λ m. (48 + n, [], decimal_one (suc k) n m, omega arith))
    (λ m. let r = head_of k (n / 10) (omega arith) (let p = pow-suc 10 (suc k) in omega arith) in
    (r.0, r.1 ++ ((48 + n % 10) ∷ []), decimal_more (suc k) n m ∙ ap (λ w. w ++ ((48 + n % 10) ∷ [])) r.2, r.3))

-- a natural number with a sign
abbrev pub plus : Got ℕ → Got ℤ
plus r = given r (λ n t. got (pos n) t) none

abbrev pub minus : Got ℕ → Got ℤ
minus r = given r (λ n t. got (neg_ℤ (pos n)) t) none

number_plus : (d : ℕ) (u : List ℕ) → 49 ≤ d → number (d ∷ u) ≡ plus (natural (d ∷ u))
unfolding number
number_plus d u h = no (eqb d 48) _ _ (ne_eqb d 48 (λ q. omega arith)) ∙ no (eqb d 45) _ _ (ne_eqb d 45 (λ q. omega arith))

pub number_text : (z : ℤ) (b : ℕ) (t : List ℕ) → Small z → digit b ≡ false → number (text z ++ (b ∷ t)) ≡ got z (b ∷ t)
unfolding text Small
number_text (pos zero) b t h d = unfold decimal number in refl
number_text (pos (suc n)) b t h d =
    let r = head_of 6 (suc n) (omega arith) h in
    ap (λ w. number (w ++ (b ∷ t))) r.2
    ∙ number_plus r.0 (r.1 ++ (b ∷ t)) r.3
    ∙ ap (λ w. plus (natural (w ++ (b ∷ t)))) (sym r.2)
    ∙ ap plus (natural_text (suc n) b t (omega arith) h d)
number_text (negsuc n) b t h d = unfold number in ap minus (natural_text (suc n) b t (omega arith) h d)

-- ---- what was read is what is written
decimal_step : (f a d : ℕ) → 1 ≤ a → digit d ≡ true → decimal (suc f) (a * 10 + (d - 48)) ≡ decimal f a ++ (d ∷ [])
decimal_step f a d h q =
    let i = digit_is d q in
    decimal_more f (a * 10 + (d - 48)) (omega arith)
    ∙ ap (λ u. decimal f u ++ ((48 + (a * 10 + (d - 48)) % 10) ∷ [])) (let z : (a * 10 + (d - 48)) / 10 ≡ a = omega arith in z)
    ∙ ap (λ u. decimal f a ++ (u ∷ [])) (let z : 48 + (a * 10 + (d - 48)) % 10 ≡ d = omega arith in z)

-- reading k more digits after a, which f + 1 hold, gave v and left rest
abbrev Was : ℕ → ℕ → ℕ → List ℕ → ℕ → List ℕ → Type 0
Was k f a s v rest = (g : ℕ) × (f ≤ g) × (g ≤ f + k) × (v < 10 ^ suc g) × (a ≤ v) × (decimal (suc f) a ++ s ≡ decimal (suc g) v ++ rest)

was_here : (k f a : ℕ) (s : List ℕ) (v : ℕ) (rest : List ℕ) → a < 10 ^ suc f → ◌≡◌ {A = Got ℕ} (got a s) (got v rest) → Was k f a s v rest
was_here k f a s v rest l e =
    let p : a ≡ v = cc in
    let q : s ≡ rest = cc in
    (f, omega arith, omega arith, omega arith, omega arith, rw (p, q))

was_more : (t : Bool) (k f a d : ℕ) (s : List ℕ) (v : ℕ) (rest : List ℕ) → ((b : ℕ) → 1 ≤ b → b < 10 ^ suc (suc f) → more_digits k b s ≡ got v rest → Was k (suc f) b s v rest) → digit d ≡ t → 1 ≤ a → a < 10 ^ suc f → elim t [ true ↦ more_digits k (a * 10 + (d - 48)) s | false ↦ got a (d ∷ s) ] ≡ got v rest → Was (suc k) f a (d ∷ s) v rest
was_more false k f a d s v rest ih q h l e = was_here (suc k) f a (d ∷ s) v rest l e
was_more true k f a d s v rest ih q h l e =
    let i = digit_is d q in
    let p = pow-suc 10 (suc f) in
    let r = ih (a * 10 + (d - 48)) (omega arith) (omega arith) e in (
      r.0,
      omega arith,
      omega arith,
      r.3,
      omega arith,
      sym (append_assoc (decimal (suc f) a) (d ∷ []) s) ∙ ap (λ u. u ++ s) (sym (decimal_step (suc f) a d h q)) ∙ r.5,
    )

more_was : (k f a : ℕ) (s : List ℕ) (v : ℕ) (rest : List ℕ) → 1 ≤ a → a < 10 ^ suc f → more_digits k a s ≡ got v rest → Was k f a s v rest
unfolding more_digits
more_was zero f a s v rest h l e = was_here 0 f a s v rest l e
more_was (suc k) f a [] v rest h l e = was_here (suc k) f a [] v rest l e
more_was (suc k) f a (d ∷ s) v rest h l e = was_more (digit d) k f a d s v rest (λ b m n q. more_was k (suc f) b s v rest m n q) refl h l e

abbrev pub Wrote : List ℕ → ℕ → List ℕ → Type 0
Wrote s v rest = (1 ≤ v) × (v < 10000000) × (s ≡ decimal 7 v ++ rest)

pub seven_digits : (g v : ℕ) → g ≤ 6 → v < 10 ^ suc g → v < 10000000
seven_digits g v h l = lt_of_lt_of_le l (pow-le-pow_right {n = 10} (lit< tt) {i = suc g} {j = 7} (omega arith))

not_equal : (d e : ℕ) → not (eqb d e) ≡ true → d ≡ e → ⊥
not_equal d e h = eqb-false d e (go (eqb d e) h)
  where
    go : (t : Bool) → not t ≡ true → t ≡ false
    go true h = no_way h
    go false h = refl

first_was : (t : Bool) (d : ℕ) (s : List ℕ) (v : ℕ) (rest : List ℕ) → (digit d && not (eqb d 48)) ≡ t → elim t [ true ↦ more_digits 6 (d - 48) s | false ↦ none ] ≡ got v rest → Wrote (d ∷ s) v rest
first_was false d s v rest p e = no_way (cc)
first_was true d s v rest p e =
    let b = both (digit d) (not (eqb d 48)) p in
    let i = digit_is d b.0 in
    let n = not_equal d 48 b.1 in
    let r = more_was 6 0 (d - 48) s v rest (omega arith) (omega arith) e in (
      omega arith,
      seven_digits r.0 v (omega arith) r.3,
      ap (λ u. u ∷ s) (let z : d ≡ 48 + (d - 48) = omega arith in z)
          ∙ ap (λ u. u ++ s) (sym (decimal_one 0 (d - 48) (omega arith)))
          ∙ r.5 ∙ ap (λ u. u ++ rest) (wider r.0 6 v r.3 (omega arith)),
    )

pub natural_was : (s : List ℕ) (v : ℕ) (rest : List ℕ) → natural s ≡ got v rest → Wrote s v rest
unfolding natural
natural_was [] v rest e = no_way (cc)
natural_was (d ∷ s) v rest e = first_was (digit d && not (eqb d 48)) d s v rest refl e

-- a number that was read is small, and its text is what was read
abbrev pub WasRead : List ℕ → ℤ → List ℕ → Type 0
WasRead s z rest = Small z × (s ≡ text z ++ rest)

plus_was : (s : List ℕ) (z : ℤ) (rest : List ℕ) (r : Got ℕ) → natural s ≡ r → plus r ≡ got z rest → WasRead s z rest
plus_was s z rest none q e = no_way (cc)
plus_was s z rest (got n u) q e =
    let a : pos n ≡ z = cc in
    let b : u ≡ rest = cc in
    let w = natural_was s n u q in
    rw (← a, ← b) (unfold Small text in (w.1, w.2))

minus_was : (s : List ℕ) (z : ℤ) (rest : List ℕ) (r : Got ℕ) → natural s ≡ r → minus r ≡ got z rest → WasRead (45 ∷ s) z rest
minus_was s z rest none q e = no_way (cc)
minus_was s z rest (got zero u) q e = absurd (let w = natural_was s 0 u q in omega arith)
minus_was s z rest (got (suc n) u) q e =
    let a : negsuc n ≡ z = cc in
    let b : u ≡ rest = cc in
    let w = natural_was s (suc n) u q in
    rw (← a, ← b) (unfold Small text in (w.1, ap (λ t. 45 ∷ t) w.2))

signed_was : (t m : Bool) (d : ℕ) (s : List ℕ) (z : ℤ) (rest : List ℕ) → eqb d 48 ≡ t → eqb d 45 ≡ m → elim t [ true ↦ got (pos 0) s | false ↦ elim m [ true ↦ minus (natural s) | false ↦ plus (natural (d ∷ s)) ] ] ≡ got z rest → WasRead (d ∷ s) z rest
signed_was true m d s z rest p q e =
    let a : pos 0 ≡ z = cc in
    let b : s ≡ rest = cc in
    rw (← a, ← b) (unfold Small text decimal in (lit< tt, ap (λ u. u ∷ s) (eqb-true d 48 p)))
signed_was false true d s z rest p q e = rw (eqb-true d 45 q) (minus_was s z rest (natural s) refl e)
signed_was false false d s z rest p q e = plus_was (d ∷ s) z rest (natural (d ∷ s)) refl e

pub text_number : (s : List ℕ) (z : ℤ) (rest : List ℕ) → number s ≡ got z rest → WasRead s z rest
unfolding number
text_number [] z rest e = no_way (cc)
text_number (d ∷ s) z rest e = signed_was (eqb d 48) (eqb d 45) d s z rest refl refl e

-- ---- a number's text is at most eight bytes
pub decimal_long : (k n : ℕ) → length (decimal k n) ≤ k
decimal_long zero n = unfold decimal in omega arith
decimal_long (suc k) n = cases_ten n
    (λ h. rw (decimal_one k n h) (omega arith))
    (λ h. rw (decimal_more k n h) (simp length-append (omega (arith, decimal_long k (n / 10)))))

-- of a number below 10^(g + 1), at most g + 1 digits
pub text_short : (g n : ℕ) → g ≤ 6 → n < 10 ^ suc g → length (text (pos n)) ≤ suc g
unfolding text
text_short g n h l = subst (λ (u : List ℕ). length u ≤ suc g) (wider g 6 n l h) (decimal_long (suc g) n)

pub text_long : (z : ℤ) → length (text z) ≤ 8
unfolding text
text_long (pos n) = omega (arith, decimal_long 7 n)
text_long (negsuc n) = omega (arith, decimal_long 7 (suc n))
