-- Arithmetic over ℤ by `omega`. A fact e ≤ f over ℤ is multiplied out, f − e into a sum of terms; each monomial's value is the difference of two natural numbers,
-- its parts, which are `omega`'s atoms. So `omega` finds which multiples of the facts prove a goal, also where the facts and the goal have products of variables:
-- a monomial is one unknown, whichever way it was written. `rd_..` read a fact, `wr_..` prove one; `omega` takes them as rules:
-- `name₂ x y λ σ p q. simp (p, q, reify, σ) (omega (arith, lin))` proves an implication, its facts standing left of `→` in the goal. Assumes nothing.
use Rattle.std.specs.Prelude.{◌≡◌, refl, Bool, true, false, ◌&&◌, List, [], ◌∷◌, ℕ, zero, suc, ◌+◌, ◌*◌, ◌≤◌, ◌<◌, T, ℤ, pos, negsuc, neg_ℤ, ◌+ℤ◌, ◌-ℤ◌, ◌*ℤ◌, nat_abs}
use Rattle.std.proofs.Common.{sym, ◌∙◌, ap, ap₂, subst, arith, leb→le, le→leb, ltb→lt, lt→ltb}
use Rattle.std.proofs.Math.IntN.{+ℤ_idl, +ℤ_idr, +ℤ_invr}
use Rattle.std.specs.Int.Signed.{le_z_yes, lt_z_yes}
use Rattle.integers.specs.RingSolver.{Env, later, ◌^ℤ◌, pow_suc, mono_cons, name₂, Expr, ◌:-◌, Term, term, terms, norm, mono, mono_nil, total, total_nil, total_cons, total_norm, val, val_is, name₅, reify, close, ok, diff_zero}
use Rattle.integers.specs.Order.{◌≼◌, ◌≺◌, num, sq, ◌⊠◌, gap, gap⁺, le_by, lt_by}
use Rattle.integers.specs.Tests.{t_both}

abbrev pub pos_part : ℤ → ℕ
pos_part (pos n) = n
pos_part (negsuc n) = 0

abbrev pub neg_part : ℤ → ℕ
neg_part (pos n) = 0
neg_part (negsuc n) = suc n

-- a monomial's parts
abbrev pub P : Env → List ℕ → ℕ
P σ [] = 1
P σ (n ∷ ns) = pos_part (mono σ (n ∷ ns))

-- a monomial whose exponents are all even is not negative, and has only the first part
abbrev pub even : ℕ → Bool
even zero = true
even (suc zero) = false
even (suc (suc n)) = even n

abbrev pub evens : List ℕ → Bool
evens [] = true
evens (n ∷ ns) = even n && evens ns

abbrev pub unless : Bool → ℕ → ℕ
unless true n = 0
unless false n = n

abbrev pub N : Env → List ℕ → ℕ
N σ [] = 0
N σ (n ∷ ns) = unless (evens (n ∷ ns)) (neg_part (mono σ (n ∷ ns)))

-- a sum of terms is `more` minus `less`
abbrev pub more : Env → List Term → ℕ
more σ [] = 0
more σ (term (pos c) m ∷ ts) = c * P σ m + more σ ts
more σ (term (negsuc c) m ∷ ts) = suc c * N σ m + more σ ts

abbrev pub less : Env → List Term → ℕ
less σ [] = 0
less σ (term (pos c) m ∷ ts) = c * N σ m + less σ ts
less σ (term (negsuc c) m ∷ ts) = suc c * P σ m + less σ ts

split : (z : ℤ) → z ≡ pos (pos_part z) -ℤ pos (neg_part z)
split (pos n) = sym (+ℤ_idr (pos n))
split (negsuc n) = sym (+ℤ_idl (negsuc n))

-- even powers, and products of them
even_pow : (x : ℤ) (n : ℕ) → T (even n) → pos 0 ≼ x ^ℤ n
even_pow x zero t = num 1
even_pow x (suc zero) t = absurd t
even_pow x (suc (suc n)) t = subst (λ z. pos 0 ≼ z) (twice x (x ^ℤ n) ∙ ap (λ z. z *ℤ x) (sym (pow_suc x n))) (sq x ⊠ even_pow x n t)
  where
    twice : (x y : ℤ) → x *ℤ x *ℤ y ≡ x *ℤ y *ℤ x
    twice x y = name₂ x y λ σ p q. simp (p, q, reify) (close σ _ _ ok)

evens_mono : (σ : Env) (m : List ℕ) → T (evens m) → pos 0 ≼ mono σ m
evens_mono σ [] t = subst (λ z. pos 0 ≼ z) (sym (mono_nil σ)) (num 1)
evens_mono σ (n ∷ ns) t =
    let h = t_both (even n) (evens ns) t in
    subst (λ z. pos 0 ≼ z) (sym (mono_cons σ n ns)) (even_pow (σ 0) n h.0 ⊠ evens_mono (later σ) ns h.1)

no_neg : (z : ℤ) → pos 0 ≼ z → neg_part z ≡ 0
no_neg (pos n) h = refl
no_neg (negsuc n) h = absurd h.le

unless_is : (b : Bool) (n : ℕ) → (T b → n ≡ 0) → unless b n ≡ n
unless_is true n f = sym (f tt)
unless_is false n f = refl

mono_split : (σ : Env) (m : List ℕ) → mono σ m ≡ pos (P σ m) -ℤ pos (N σ m)
mono_split σ [] = mono_nil σ
mono_split σ (n ∷ ns) =
    split (mono σ (n ∷ ns))
    ∙ ap (λ k. pos (pos_part (mono σ (n ∷ ns))) -ℤ pos k) (sym (unless_is (evens (n ∷ ns)) (neg_part (mono σ (n ∷ ns))) (λ t. no_neg (mono σ (n ∷ ns)) (evens_mono σ (n ∷ ns) t))))

up_law : (c p n t u : ℤ) → c *ℤ (p -ℤ n) +ℤ (t -ℤ u) ≡ (c *ℤ p +ℤ t) -ℤ (c *ℤ n +ℤ u)
up_law c p n t u = name₅ c p n t u λ σ a b d e f. simp (a, b, d, e, f, reify) (close σ _ _ ok)

dn_law : (c p n t u : ℤ) → neg_ℤ c *ℤ (p -ℤ n) +ℤ (t -ℤ u) ≡ (c *ℤ n +ℤ t) -ℤ (c *ℤ p +ℤ u)
dn_law c p n t u = name₅ c p n t u λ σ a b d e f. simp (a, b, d, e, f, reify) (close σ _ _ ok)

total_split : (σ : Env) (ts : List Term) → total σ ts ≡ pos (more σ ts) -ℤ pos (less σ ts)
total_split σ [] = total_nil σ
total_split σ (term (pos c) m ∷ ts) =
    total_cons σ (pos c) m ts ∙ ap₂ ◌+ℤ◌ (ap (λ t. pos c *ℤ t) (mono_split σ m)) (total_split σ ts)
    ∙ up_law (pos c) (pos (P σ m)) (pos (N σ m)) (pos (more σ ts)) (pos (less σ ts))
total_split σ (term (negsuc c) m ∷ ts) =
    total_cons σ (negsuc c) m ts ∙ ap₂ ◌+ℤ◌ (ap (λ t. negsuc c *ℤ t) (mono_split σ m)) (total_split σ ts)
    ∙ dn_law (pos (suc c)) (pos (P σ m)) (pos (N σ m)) (pos (more σ ts)) (pos (less σ ts))

abbrev pub gap_t : Expr → Expr → List Term
gap_t e f = terms (norm (f :- e))

-- f − e, in its two parts
diff : (σ : Env) (e f : Expr) → val σ f -ℤ val σ e ≡ pos (more σ (gap_t e f)) -ℤ pos (less σ (gap_t e f))
diff σ e f = ap₂ ◌-ℤ◌ (val_is σ f) (val_is σ e) ∙ total_norm σ (f :- e) ∙ total_split σ (gap_t e f)

pub rd_le : (σ : Env) (e f : Expr) → val σ e ≼ val σ f → less σ (gap_t e f) ≤ more σ (gap_t e f)
rd_le σ e f h =
    let k : pos (less σ (gap_t e f)) ≼ pos (more σ (gap_t e f)) = le_by (gap h) (sym (diff σ e f)) in
    leb→le (less σ (gap_t e f)) (more σ (gap_t e f)) k.le

pub wr_le : (σ : Env) (e f : Expr) → less σ (gap_t e f) ≤ more σ (gap_t e f) → val σ e ≼ val σ f
wr_le σ e f h =
    let k : pos (less σ (gap_t e f)) ≼ pos (more σ (gap_t e f)) = le_z_yes (le→leb (less σ (gap_t e f)) (more σ (gap_t e f)) h) in
    le_by (gap k) (diff σ e f)

pub rd_lt : (σ : Env) (e f : Expr) → val σ e ≺ val σ f → less σ (gap_t e f) < more σ (gap_t e f)
rd_lt σ e f h =
    let k : pos (less σ (gap_t e f)) ≺ pos (more σ (gap_t e f)) = lt_by (gap⁺ h) (sym (diff σ e f)) in
    ltb→lt (less σ (gap_t e f)) (more σ (gap_t e f)) k.lt

pub wr_lt : (σ : Env) (e f : Expr) → less σ (gap_t e f) < more σ (gap_t e f) → val σ e ≺ val σ f
wr_lt σ e f h =
    let k : pos (less σ (gap_t e f)) ≺ pos (more σ (gap_t e f)) = lt_z_yes (lt→ltb (less σ (gap_t e f)) (more σ (gap_t e f)) h) in
    lt_by (gap⁺ k) (diff σ e f)

pub rd_eq : (σ : Env) (e f : Expr) → val σ e ≡ val σ f → less σ (gap_t e f) ≡ more σ (gap_t e f)
rd_eq σ e f h =
    sym (ap nat_abs (diff_zero (pos (more σ (gap_t e f))) (pos (less σ (gap_t e f))) (sym (diff σ e f) ∙ ap (λ t. val σ f -ℤ t) h ∙ +ℤ_invr (val σ f))))

pub wr_eq : (σ : Env) (e f : Expr) → less σ (gap_t e f) ≡ more σ (gap_t e f) → val σ e ≡ val σ f
wr_eq σ e f h =
    sym (diff_zero (val σ f) (val σ e) (diff σ e f ∙ ap (λ t. pos (more σ (gap_t e f)) -ℤ pos t) h ∙ +ℤ_invr (pos (more σ (gap_t e f)))))

pub ruleset lin = (rd_le, wr_le, rd_lt, wr_lt, rd_eq, wr_eq)

-- what `omega` is handed
pub ruleset zarith = (arith, lin)
