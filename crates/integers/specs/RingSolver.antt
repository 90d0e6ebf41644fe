-- A ring solver for ℤ, by reflection. An `Expr` is a polynomial as it is written; `norm` multiplies it out into a `Pol`, nested Horner form;
-- `solve` says that two expressions whose difference multiplies out to zero have one value. The test computes, so its proof is `ok`.
-- Every definition of the computation is an `abbrev`: it must unfold wherever `solve` is called. Assumes nothing.
use Rattle.std.specs.Prelude.{◌≡◌, refl, List, [], ◌∷◌, ℕ, zero, suc, ◌+◌, ◌*◌, ℤ, pos, negsuc, neg_ℤ, ◌+ℤ◌, ◌-ℤ◌, ◌*ℤ◌}
use Rattle.std.proofs.Common.{sym, ◌∙◌, ap, ap₂, arith}
use Rattle.std.proofs.Math.IntN.{one, +ℤ_assoc, +ℤ_comm, +ℤ_idl, +ℤ_idr, neg_ℤ-+ℤ, *ℤ_comm, *ℤ-one, zero-*ℤ, *ℤ-zero, -ℤ-+ℤ_cancel}
pub use Rattle.basics.specs.Numbers.{◌^ℤ◌}
use Rattle.integers.specs.RingLaws.{+ℤ_swap, *ℤ_+ℤ, +ℤ_*ℤ, *ℤ_neg, *ℤ_assoc, *ℤ_left_comm}

-- ---- polynomials. `hor p q` is p + x q, where x is the environment's first variable, and p has only the later ones
pub data Pol : Type 0 where
  con : ℤ → Pol
  hor : Pol → Pol → Pol

abbrev pub Env : Type 0
Env = ℕ → ℤ

abbrev pub later : Env → Env
later σ = λ i. σ (suc i)

abbrev pub ev : Env → Pol → ℤ
ev σ (con c) = c
ev σ (hor p q) = ev (later σ) p +ℤ σ 0 *ℤ ev σ q

-- `hor`, without a trailing zero
abbrev pub mk : Pol → Pol → Pol
mk (con c) (con (pos zero)) = con c
mk (con c) (con (pos (suc n))) = hor (con c) (con (pos (suc n)))
mk (con c) (con (negsuc n)) = hor (con c) (con (negsuc n))
mk (con c) (hor r s) = hor (con c) (hor r s)
mk (hor a b) q = hor (hor a b) q

abbrev pub add_c : ℤ → Pol → Pol
add_c c (con d) = con (c +ℤ d)
add_c c (hor p q) = hor (add_c c p) q

abbrev pub add : Pol → Pol → Pol
add (con c) r = add_c c r
add (hor p q) (con d) = hor (add_c d p) q
add (hor p q) (hor r s) = mk (add p r) (add q s)

abbrev pub opp : Pol → Pol
opp (con c) = con (neg_ℤ c)
opp (hor p q) = hor (opp p) (opp q)

abbrev pub scale : ℤ → Pol → Pol
scale c (con d) = con (c *ℤ d)
scale c (hor p q) = hor (scale c p) (scale c q)

abbrev pub times : ℤ → Pol → Pol
times (pos zero) r = con (pos 0)
times (pos (suc n)) r = scale (pos (suc n)) r
times (negsuc n) r = scale (negsuc n) r

-- `spread f r` has f of each coefficient of r, where r is taken as a polynomial in the first variable
abbrev pub spread : (Pol → Pol) → Pol → Pol
spread f (con d) = mk (f (con d)) (con (pos 0))
spread f (hor r s) = mk (f r) (spread f s)

abbrev pub mul : Pol → Pol → Pol
mul (con c) r = times c r
mul (hor p q) r = add (spread (mul p) r) (mk (con (pos 0)) (mul q r))

abbrev pub var_p : ℕ → Pol
var_p zero = hor (con (pos 0)) (con (pos 1))
var_p (suc i) = hor (var_p i) (con (pos 0))

abbrev pub pow_p : Pol → ℕ → Pol
pow_p p zero = con (pos 1)
pow_p p (suc zero) = p
pow_p p (suc (suc n)) = mul (pow_p p (suc n)) p

-- what a polynomial comes to, for a reader: its terms, each a coefficient and the exponents of the variables from the first on
pub data Term : Type 0 where
  term : ℤ → List ℕ → Term

-- an exponent 0 in front, and one more of the first variable
abbrev pub shift : List ℕ → List ℕ
shift [] = []
shift (n ∷ ns) = 0 ∷ n ∷ ns

abbrev pub bump : List ℕ → List ℕ
bump [] = 1 ∷ []
bump (n ∷ ns) = suc n ∷ ns

-- the split on the exponents has them computed here, once, and not wherever two terms are compared
abbrev pub put : ℤ → List ℕ → List Term → List Term
put c [] ts = term c [] ∷ ts
put c (n ∷ ns) ts = term c (n ∷ ns) ∷ ts

abbrev pub map_t : (List ℕ → List ℕ) → List Term → List Term
map_t f [] = []
map_t f (term c m ∷ ts) = put c (f m) (map_t f ts)

abbrev pub join : List Term → List Term → List Term
join [] us = us
join (t ∷ ts) us = t ∷ join ts us

abbrev pub con_t : ℤ → List Term
con_t (pos zero) = []
con_t (pos (suc n)) = term (pos (suc n)) [] ∷ []
con_t (negsuc n) = term (negsuc n) [] ∷ []

abbrev pub terms : Pol → List Term
terms (con c) = con_t c
terms (hor p q) = join (map_t shift (terms p)) (map_t bump (terms q))

-- a monomial's value, and a sum of terms'
pub mono : Env → List ℕ → ℤ
mono σ [] = pos 1
mono σ (n ∷ ns) = σ 0 ^ℤ n *ℤ mono (later σ) ns

pub total : Env → List Term → ℤ
total σ [] = pos 0
total σ (term c m ∷ ts) = c *ℤ mono σ m +ℤ total σ ts

-- `ok` says that no term is left. A refusal of `ok` prints those that are: what the left side has more than the right
pub data Zero : List Term → Type 0 where
  ok : Zero []

-- ---- expressions

infixl 6 ◌:+◌ ◌:-◌
infixl 7 ◌:*◌
infixl 8 ◌:^◌
pub data Expr : Type 0 where
  var : ℕ → Expr
  lit : ℕ → Expr
  minus : ℕ → Expr
  ◌:+◌ : Expr → Expr → Expr
  ◌:*◌ : Expr → Expr → Expr
  neg : Expr → Expr
  ◌:^◌ : Expr → ℕ → Expr

abbrev pub ◌:-◌ : Expr → Expr → Expr
a :- b = a :+ neg b

abbrev pub eval : Env → Expr → ℤ
eval σ (var i) = σ i
eval σ (lit n) = pos n
eval σ (minus n) = negsuc n
eval σ (a :+ b) = eval σ a +ℤ eval σ b
eval σ (a :* b) = eval σ a *ℤ eval σ b
eval σ (neg a) = neg_ℤ (eval σ a)
eval σ (a :^ n) = eval σ a ^ℤ n

abbrev pub norm : Expr → Pol
norm (var i) = var_p i
norm (lit n) = con (pos n)
norm (minus n) = con (negsuc n)
norm (a :+ b) = add (norm a) (norm b)
norm (a :* b) = mul (norm a) (norm b)
norm (neg a) = opp (norm a)
norm (a :^ n) = pow_p (norm a) n

abbrev pub Same : Expr → Expr → Type 0
Same l r = Zero (terms (norm (l :- r)))

-- ---- soundness
ev_mk : (σ : Env) (p q : Pol) → ev σ (mk p q) ≡ ev (later σ) p +ℤ σ 0 *ℤ ev σ q
ev_mk σ (con c) (con (pos zero)) = sym (ap (λ t. c +ℤ t) (*ℤ-zero (σ 0)) ∙ +ℤ_idr c)
ev_mk σ (con c) (con (pos (suc n))) = refl
ev_mk σ (con c) (con (negsuc n)) = refl
ev_mk σ (con c) (hor r s) = refl
ev_mk σ (hor a b) q = refl

ev_add_c : (σ : Env) (c : ℤ) (r : Pol) → ev σ (add_c c r) ≡ c +ℤ ev σ r
ev_add_c σ c (con d) = refl
ev_add_c σ c (hor p q) = ap (λ t. t +ℤ σ 0 *ℤ ev σ q) (ev_add_c (later σ) c p) ∙ +ℤ_assoc c (ev (later σ) p) (σ 0 *ℤ ev σ q)

ev_add : (σ : Env) (p r : Pol) → ev σ (add p r) ≡ ev σ p +ℤ ev σ r
ev_add σ (con c) r = ev_add_c σ c r
ev_add σ (hor p q) (con d) =
    ap (λ t. t +ℤ σ 0 *ℤ ev σ q) (ev_add_c (later σ) d p) ∙ +ℤ_assoc d (ev (later σ) p) (σ 0 *ℤ ev σ q) ∙ +ℤ_comm d (ev σ (hor p q))
ev_add σ (hor p q) (hor r s) =
    ev_mk σ (add p r) (add q s)
    ∙ ap₂ ◌+ℤ◌ (ev_add (later σ) p r) (ap (λ t. σ 0 *ℤ t) (ev_add σ q s) ∙ *ℤ_+ℤ (σ 0) (ev σ q) (ev σ s))
    ∙ +ℤ_swap (ev (later σ) p) (ev (later σ) r) (σ 0 *ℤ ev σ q) (σ 0 *ℤ ev σ s)

ev_opp : (σ : Env) (p : Pol) → ev σ (opp p) ≡ neg_ℤ (ev σ p)
ev_opp σ (con c) = refl
ev_opp σ (hor p q) =
    ap₂ ◌+ℤ◌ (ev_opp (later σ) p) (ap (λ t. σ 0 *ℤ t) (ev_opp σ q) ∙ *ℤ_neg (σ 0) (ev σ q))
    ∙ sym (neg_ℤ-+ℤ (ev (later σ) p) (σ 0 *ℤ ev σ q))

ev_scale : (σ : Env) (c : ℤ) (r : Pol) → ev σ (scale c r) ≡ c *ℤ ev σ r
ev_scale σ c (con d) = refl
ev_scale σ c (hor p q) =
    ap₂ ◌+ℤ◌ (ev_scale (later σ) c p) (ap (λ t. σ 0 *ℤ t) (ev_scale σ c q) ∙ *ℤ_left_comm (σ 0) c (ev σ q))
    ∙ sym (*ℤ_+ℤ c (ev (later σ) p) (σ 0 *ℤ ev σ q))

ev_times : (σ : Env) (c : ℤ) (r : Pol) → ev σ (times c r) ≡ c *ℤ ev σ r
ev_times σ (pos zero) r = sym (zero-*ℤ (ev σ r))
ev_times σ (pos (suc n)) r = ev_scale σ (pos (suc n)) r
ev_times σ (negsuc n) r = ev_scale σ (negsuc n) r

ev_spread : (σ : Env) (f : Pol → Pol) (v : ℤ) → ((r : Pol) → ev (later σ) (f r) ≡ v *ℤ ev (later σ) r) → (r : Pol) → ev σ (spread f r) ≡ v *ℤ ev σ r
ev_spread σ f v h (con d) = ev_mk σ (f (con d)) (con (pos 0)) ∙ ap₂ ◌+ℤ◌ (h (con d)) (*ℤ-zero (σ 0)) ∙ +ℤ_idr (v *ℤ d)
ev_spread σ f v h (hor r s) =
    ev_mk σ (f r) (spread f s)
    ∙ ap₂ ◌+ℤ◌ (h r) (ap (λ t. σ 0 *ℤ t) (ev_spread σ f v h s) ∙ *ℤ_left_comm (σ 0) v (ev σ s))
    ∙ sym (*ℤ_+ℤ v (ev (later σ) r) (σ 0 *ℤ ev σ s))

ev_mul : (σ : Env) (p r : Pol) → ev σ (mul p r) ≡ ev σ p *ℤ ev σ r
ev_mul σ (con c) r = ev_times σ c r
ev_mul σ (hor p q) r =
    ev_add σ (spread (mul p) r) (mk (con (pos 0)) (mul q r))
    ∙ ap₂ ◌+ℤ◌ (ev_spread σ (mul p) (ev (later σ) p) (ev_mul (later σ) p) r) (ev_mk σ (con (pos 0)) (mul q r) ∙ +ℤ_idl (σ 0 *ℤ ev σ (mul q r)) ∙ ap (λ t. σ 0 *ℤ t) (ev_mul σ q r) ∙ sym (*ℤ_assoc (σ 0) (ev σ q) (ev σ r)))
    ∙ sym (+ℤ_*ℤ (ev (later σ) p) (σ 0 *ℤ ev σ q) (ev σ r))

ev_var : (σ : Env) (i : ℕ) → ev σ (var_p i) ≡ σ i
unfolding one
ev_var σ zero = +ℤ_idl (σ 0 *ℤ pos 1) ∙ *ℤ-one (σ 0)
ev_var σ (suc i) = ap₂ ◌+ℤ◌ (ev_var (later σ) i) (*ℤ-zero (σ 0)) ∙ +ℤ_idr (σ (suc i))

ev_pow : (σ : Env) (p : Pol) (n : ℕ) → ev σ (pow_p p n) ≡ ev σ p ^ℤ n
ev_pow σ p zero = refl
ev_pow σ p (suc zero) = refl
ev_pow σ p (suc (suc n)) = ev_mul σ (pow_p p (suc n)) p ∙ ap (λ t. t *ℤ ev σ p) (ev_pow σ p (suc n))

ev_norm : (σ : Env) (e : Expr) → ev σ (norm e) ≡ eval σ e
ev_norm σ (var i) = ev_var σ i
ev_norm σ (lit n) = refl
ev_norm σ (minus n) = refl
ev_norm σ (a :+ b) = ev_add σ (norm a) (norm b) ∙ ap₂ ◌+ℤ◌ (ev_norm σ a) (ev_norm σ b)
ev_norm σ (a :* b) = ev_mul σ (norm a) (norm b) ∙ ap₂ ◌*ℤ◌ (ev_norm σ a) (ev_norm σ b)
ev_norm σ (neg a) = ev_opp σ (norm a) ∙ ap neg_ℤ (ev_norm σ a)
ev_norm σ (a :^ n) = ev_pow σ (norm a) n ∙ ap (λ t. t ^ℤ n) (ev_norm σ a)

-- the clauses of `mono` and `total`, as lemmas
pub mono_nil : (σ : Env) → mono σ [] ≡ pos 1
unfolding mono
mono_nil σ = refl

pub mono_cons : (σ : Env) (n : ℕ) (ns : List ℕ) → mono σ (n ∷ ns) ≡ σ 0 ^ℤ n *ℤ mono (later σ) ns
unfolding mono
mono_cons σ n ns = refl

pub total_nil : (σ : Env) → total σ [] ≡ pos 0
unfolding total
total_nil σ = refl

pub total_cons : (σ : Env) (c : ℤ) (m : List ℕ) (ts : List Term) → total σ (term c m ∷ ts) ≡ c *ℤ mono σ m +ℤ total σ ts
unfolding total
total_cons σ c m ts = refl

-- the terms of a polynomial sum to its value
pub pow_suc : (x : ℤ) (n : ℕ) → x ^ℤ suc n ≡ x *ℤ x ^ℤ n
unfolding one
pow_suc x zero = sym (*ℤ-one x)
pow_suc x (suc n) = *ℤ_comm (x ^ℤ suc n) x

mono_shift : (σ : Env) (m : List ℕ) → mono σ (shift m) ≡ mono (later σ) m
unfolding mono one
mono_shift σ [] = refl
mono_shift σ (n ∷ ns) = *ℤ_comm (pos 1) (mono (later σ) (n ∷ ns)) ∙ *ℤ-one (mono (later σ) (n ∷ ns))

mono_bump : (σ : Env) (m : List ℕ) → mono σ (bump m) ≡ σ 0 *ℤ mono σ m
unfolding mono
mono_bump σ [] = refl
mono_bump σ (n ∷ ns) = ap (λ t. t *ℤ mono (later σ) ns) (pow_suc (σ 0) n) ∙ *ℤ_assoc (σ 0) (σ 0 ^ℤ n) (mono (later σ) ns)

total_put : (σ : Env) (c : ℤ) (m : List ℕ) (ts : List Term) → total σ (put c m ts) ≡ c *ℤ mono σ m +ℤ total σ ts
unfolding total
total_put σ c [] ts = refl
total_put σ c (n ∷ ns) ts = refl

total_shift : (σ : Env) (ts : List Term) → total σ (map_t shift ts) ≡ total (later σ) ts
unfolding total
total_shift σ [] = refl
total_shift σ (term c m ∷ ts) = total_put σ c (shift m) (map_t shift ts) ∙ ap₂ ◌+ℤ◌ (ap (λ t. c *ℤ t) (mono_shift σ m)) (total_shift σ ts)

total_bump : (σ : Env) (ts : List Term) → total σ (map_t bump ts) ≡ σ 0 *ℤ total σ ts
unfolding total
total_bump σ [] = sym (*ℤ-zero (σ 0))
total_bump σ (term c m ∷ ts) =
    total_put σ c (bump m) (map_t bump ts)
    ∙ ap₂ ◌+ℤ◌ (ap (λ t. c *ℤ t) (mono_bump σ m) ∙ *ℤ_left_comm c (σ 0) (mono σ m)) (total_bump σ ts)
    ∙ sym (*ℤ_+ℤ (σ 0) (c *ℤ mono σ m) (total σ ts))

total_join : (σ : Env) (ts us : List Term) → total σ (join ts us) ≡ total σ ts +ℤ total σ us
unfolding total
total_join σ [] us = sym (+ℤ_idl (total σ us))
total_join σ (term c m ∷ ts) us =
    ap (λ t. c *ℤ mono σ m +ℤ t) (total_join σ ts us) ∙ sym (+ℤ_assoc (c *ℤ mono σ m) (total σ ts) (total σ us))

total_con : (σ : Env) (c : ℤ) → total σ (con_t c) ≡ c
unfolding total mono one
total_con σ (pos zero) = refl
total_con σ (pos (suc n)) = +ℤ_idr (pos (suc n) *ℤ pos 1) ∙ *ℤ-one (pos (suc n))
total_con σ (negsuc n) = +ℤ_idr (negsuc n *ℤ pos 1) ∙ *ℤ-one (negsuc n)

pub total_terms : (σ : Env) (p : Pol) → total σ (terms p) ≡ ev σ p
total_terms σ (con c) = total_con σ c
total_terms σ (hor p q) =
    total_join σ (map_t shift (terms p)) (map_t bump (terms q))
    ∙ ap₂ ◌+ℤ◌ (total_shift σ (terms p) ∙ total_terms (later σ) p) (total_bump σ (terms q) ∙ ap (λ t. σ 0 *ℤ t) (total_terms σ q))

total_zero : (σ : Env) {ts : List Term} → Zero ts → total σ ts ≡ pos 0
unfolding total
total_zero σ ok = refl

pub total_norm : (σ : Env) (e : Expr) → eval σ e ≡ total σ (terms (norm e))
total_norm σ e = sym (total_terms σ (norm e) ∙ ev_norm σ e)

pub diff_zero : (a b : ℤ) → a -ℤ b ≡ pos 0 → a ≡ b
diff_zero a b h = sym (-ℤ-+ℤ_cancel a b) ∙ ap (λ t. t +ℤ b) h ∙ +ℤ_idl b

-- ---- the solver, over any environment
pub solve : (σ : Env) (l r : Expr) → Same l r → eval σ l ≡ eval σ r
solve σ l r t = diff_zero (eval σ l) (eval σ r) (total_norm σ (l :- r) ∙ total_zero σ t)

-- ---- and over a list of values
abbrev pub nth : List ℤ → Env
nth [] i = pos 0
nth (x ∷ ρ) zero = x
nth (x ∷ ρ) (suc i) = nth ρ i

-- ---- the solver that reads the goal itself. `val σ e` is `eval σ e`, shut: `simp reify` turns a goal over ℤ, from its leaves up, into `val σ l ≡ val σ r`
pub val : Env → Expr → ℤ
val σ e = eval σ e

pub val_is : (σ : Env) (e : Expr) → val σ e ≡ eval σ e
unfolding val
val_is σ e = refl

pub r_add : (σ : Env) (a b : Expr) → (val σ a) +ℤ (val σ b) ≡ val σ (a :+ b)
unfolding val
r_add σ a b = refl

pub r_mul : (σ : Env) (a b : Expr) → (val σ a) *ℤ (val σ b) ≡ val σ (a :* b)
unfolding val
r_mul σ a b = refl

pub r_neg : (σ : Env) (a : Expr) → neg_ℤ (val σ a) ≡ val σ (neg a)
unfolding val
r_neg σ a = refl

pub r_lit : (σ : Env) (n : ℕ) → pos n ≡ val σ (lit n)
unfolding val
r_lit σ n = refl

-- a natural number that is computed: sums, products and successors come out of `pos`, as calls of three operations that are shut,
-- since `pos m +ℤ pos n` would compute back
pub sum : ℤ → ℤ → ℤ
sum a b = a +ℤ b

pub prod : ℤ → ℤ → ℤ
prod a b = a *ℤ b

pub minusℤ : ℤ → ℤ
minusℤ a = neg_ℤ a

pub n_add : (m n : ℕ) → pos (m + n) ≡ sum (pos m) (pos n)
unfolding sum
n_add m n = refl

pub n_suc : (n : ℕ) → pos (suc n) ≡ sum (pos n) (pos 1)
unfolding sum
n_suc n = ap pos (omega arith)

pub n_mul : (m n : ℕ) → pos (m * n) ≡ prod (pos m) (pos n)
unfolding prod
n_mul m n = refl

pub n_neg : (n : ℕ) → negsuc n ≡ minusℤ (pos (suc n))
unfolding minusℤ
n_neg n = refl

-- `neg_ℤ (pos n)` has computed to a case on n, and shows no `pos n`
pub n_opp : (n : ℕ) → neg_ℤ (pos n) ≡ minusℤ (pos n)
unfolding minusℤ
n_opp n = refl

pub s_add : (σ : Env) (a b : Expr) → sum (val σ a) (val σ b) ≡ val σ (a :+ b)
unfolding val sum
s_add σ a b = refl

pub s_mul : (σ : Env) (a b : Expr) → prod (val σ a) (val σ b) ≡ val σ (a :* b)
unfolding val prod
s_mul σ a b = refl

pub s_neg : (σ : Env) (a : Expr) → minusℤ (val σ a) ≡ val σ (neg a)
unfolding val minusℤ
s_neg σ a = refl

-- what `simp` is handed, after the equations of `nameₙ` and before the environment, which the literals' rule needs
pub ruleset reify = (r_add, r_mul, r_neg, n_add, n_mul, n_suc, n_neg, n_opp, s_add, s_mul, s_neg, r_lit)

pub close : (σ : Env) (l r : Expr) → Same l r → val σ l ≡ val σ r
unfolding val
close σ l r t = solve σ l r t

pub name₁ : (a : ℤ) {G : Type 0} → ((σ : Env) → a ≡ val σ (var 0) → G) → G
unfolding val
name₁ a k = k (nth (a ∷ [])) refl

pub name₂ : (a b : ℤ) {G : Type 0} → ((σ : Env) → a ≡ val σ (var 0) → b ≡ val σ (var 1) → G) → G
unfolding val
name₂ a b k = k (nth (a ∷ b ∷ [])) refl refl

pub name₃ : (a b c : ℤ) {G : Type 0} → ((σ : Env) → a ≡ val σ (var 0) → b ≡ val σ (var 1) → c ≡ val σ (var 2) → G) → G
unfolding val
name₃ a b c k = k (nth (a ∷ b ∷ c ∷ [])) refl refl refl

pub name₄ : (a b c d : ℤ) {G : Type 0} → ((σ : Env) → a ≡ val σ (var 0) → b ≡ val σ (var 1) → c ≡ val σ (var 2) → d ≡ val σ (var 3) → G) → G
unfolding val
name₄ a b c d k = k (nth (a ∷ b ∷ c ∷ d ∷ [])) refl refl refl refl

pub name₅ : (a b c d e : ℤ) {G : Type 0} → ((σ : Env) → a ≡ val σ (var 0) → b ≡ val σ (var 1) → c ≡ val σ (var 2) → d ≡ val σ (var 3) → e ≡ val σ (var 4) → G) → G
unfolding val
name₅ a b c d e k = k (nth (a ∷ b ∷ c ∷ d ∷ e ∷ [])) refl refl refl refl refl

pub name₆ : (a b c d e f : ℤ) {G : Type 0} → ((σ : Env) → a ≡ val σ (var 0) → b ≡ val σ (var 1) → c ≡ val σ (var 2) → d ≡ val σ (var 3) → e ≡ val σ (var 4) → f ≡ val σ (var 5) → G) → G
unfolding val
name₆ a b c d e f k = k (nth (a ∷ b ∷ c ∷ d ∷ e ∷ f ∷ [])) refl refl refl refl refl refl

pub name₇ : (a b c d e f g : ℤ) {G : Type 0} → ((σ : Env) → a ≡ val σ (var 0) → b ≡ val σ (var 1) → c ≡ val σ (var 2) → d ≡ val σ (var 3) → e ≡ val σ (var 4) → f ≡ val σ (var 5) → g ≡ val σ (var 6) → G) → G
unfolding val
name₇ a b c d e f g k = k (nth (a ∷ b ∷ c ∷ d ∷ e ∷ f ∷ g ∷ [])) refl refl refl refl refl refl refl

pub name₈ : (a b c d e f g h : ℤ) {G : Type 0} → ((σ : Env) → a ≡ val σ (var 0) → b ≡ val σ (var 1) → c ≡ val σ (var 2) → d ≡ val σ (var 3) → e ≡ val σ (var 4) → f ≡ val σ (var 5) → g ≡ val σ (var 6) → h ≡ val σ (var 7) → G) → G
unfolding val
name₈ a b c d e f g h k = k (nth (a ∷ b ∷ c ∷ d ∷ e ∷ f ∷ g ∷ h ∷ [])) refl refl refl refl refl refl refl refl

pub name₉ : (a b c d e f g h i : ℤ) {G : Type 0} → ((σ : Env) → a ≡ val σ (var 0) → b ≡ val σ (var 1) → c ≡ val σ (var 2) → d ≡ val σ (var 3) → e ≡ val σ (var 4) → f ≡ val σ (var 5) → g ≡ val σ (var 6) → h ≡ val σ (var 7) → i ≡ val σ (var 8) → G) → G
unfolding val
name₉ a b c d e f g h i k = k (nth (a ∷ b ∷ c ∷ d ∷ e ∷ f ∷ g ∷ h ∷ i ∷ [])) refl refl refl refl refl refl refl refl refl

pub name₁₀ : (a b c d e f g h i j : ℤ) {G : Type 0} → ((σ : Env) → a ≡ val σ (var 0) → b ≡ val σ (var 1) → c ≡ val σ (var 2) → d ≡ val σ (var 3) → e ≡ val σ (var 4) → f ≡ val σ (var 5) → g ≡ val σ (var 6) → h ≡ val σ (var 7) → i ≡ val σ (var 8) → j ≡ val σ (var 9) → G) → G
unfolding val
name₁₀ a b c d e f g h i j k = k (nth (a ∷ b ∷ c ∷ d ∷ e ∷ f ∷ g ∷ h ∷ i ∷ j ∷ [])) refl refl refl refl refl refl refl refl refl refl

pub name₁₁ : (a b c d e f g h i j l : ℤ) {G : Type 0} → ((σ : Env) → a ≡ val σ (var 0) → b ≡ val σ (var 1) → c ≡ val σ (var 2) → d ≡ val σ (var 3) → e ≡ val σ (var 4) → f ≡ val σ (var 5) → g ≡ val σ (var 6) → h ≡ val σ (var 7) → i ≡ val σ (var 8) → j ≡ val σ (var 9) → l ≡ val σ (var 10) → G) → G
unfolding val
name₁₁ a b c d e f g h i j l k = k (nth (a ∷ b ∷ c ∷ d ∷ e ∷ f ∷ g ∷ h ∷ i ∷ j ∷ l ∷ [])) refl refl refl refl refl refl refl refl refl refl refl

pub name₁₂ : (a b c d e f g h i j l m : ℤ) {G : Type 0} → ((σ : Env) → a ≡ val σ (var 0) → b ≡ val σ (var 1) → c ≡ val σ (var 2) → d ≡ val σ (var 3) → e ≡ val σ (var 4) → f ≡ val σ (var 5) → g ≡ val σ (var 6) → h ≡ val σ (var 7) → i ≡ val σ (var 8) → j ≡ val σ (var 9) → l ≡ val σ (var 10) → m ≡ val σ (var 11) → G) → G
unfolding val
name₁₂ a b c d e f g h i j l m k = k (nth (a ∷ b ∷ c ∷ d ∷ e ∷ f ∷ g ∷ h ∷ i ∷ j ∷ l ∷ m ∷ [])) refl refl refl refl refl refl refl refl refl refl refl refl
