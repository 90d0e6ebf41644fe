-- The order of ℤ, worked with by certificates: p ≤ q where q − p is a sum of products of things that are not negative. The ring solver checks that sum.
-- Assumes nothing.
use Rattle.std.specs.Prelude.{◌≡◌, refl, Bool, true, false, not, cond, ℕ, zero, suc, ◌+◌, ◌*◌, ◌-◌, ◌≤◌, ◌<◌, T, leb, ltb, ℤ, pos, negsuc, ◌+ℤ◌, ◌-ℤ◌, ◌*ℤ◌}
use Rattle.std.proofs.Common.{sym, ◌∙◌, ap, subst, arith, leb→le, le→leb, ltb→lt, lt→ltb}
use Rattle.std.proofs.Math.Arith.{le→nltb}
use Rattle.std.proofs.Math.IntN.{sub_ℕ}
use Rattle.std.specs.Int.Signed.{le_z, lt_z, le_z_yes, lt_z_yes, ≤ℤ_refl}
pub use Rattle.basics.specs.Orders.{◌≼◌, ◌≺◌, num⁺}
use Rattle.integers.specs.RingSolver.{name₂, reify, close, ok}

-- ---- a ≤ b where b is a plus a natural number, and only there
cond_yes : (c : Bool) (x y : ℤ) → T c → cond c x y ≡ x
cond_yes true x y t = refl
cond_yes false x y t = absurd t

cond_no : (c : Bool) (x y : ℤ) → T (not c) → cond c x y ≡ y
cond_no true x y t = absurd t
cond_no false x y t = refl

sub_ge : (a b : ℕ) → b ≤ a → sub_ℕ a b ≡ pos (a - b)
sub_ge a b h = cond_no (ltb a b) (negsuc (b - suc a)) (pos (a - b)) (le→nltb a b h)

sub_lt : (a b : ℕ) → a < b → sub_ℕ a b ≡ negsuc (b - suc a)
sub_lt a b h = cond_yes (ltb a b) (negsuc (b - suc a)) (pos (a - b)) (lt→ltb a b h)

-- a natural number up from a
le_up : (a : ℤ) (n : ℕ) → T (le_z a (a +ℤ pos n))
le_up (pos a) n = le→leb a (a + n) (omega arith)
le_up (negsuc a) n = go (ltb n (suc a)) (λ t. le→leb (suc a - suc n) a (omega arith))
  where
    go : (c : Bool) → (T c → T (leb (suc a - suc n) a)) → T (le_z (negsuc a) (cond c (negsuc (suc a - suc n)) (pos (n - suc a))))
    go true f = f tt
    go false f = tt

le_gap : (a b : ℤ) → T (le_z a b) → (n : ℕ) × (b ≡ a +ℤ pos n)
le_gap (pos a) (pos b) t = let h = leb→le a b t in (b - a, ap pos (omega arith))
le_gap (pos a) (negsuc b) t = absurd t
le_gap (negsuc a) (pos b) t = (b + suc a, sym (sub_ge (b + suc a) (suc a) (omega arith) ∙ ap pos (omega arith)))
le_gap (negsuc a) (negsuc b) t =
    let h = leb→le b a t in
    (a - b, sym (sub_lt (a - b) (suc a) (omega arith) ∙ ap negsuc (omega arith)))

lt_gap : (a b : ℤ) → T (lt_z a b) → (n : ℕ) × (b ≡ a +ℤ pos (suc n))
lt_gap (pos a) (pos b) t = let h = ltb→lt a b t in (b - suc a, ap pos (omega arith))
lt_gap (pos a) (negsuc b) t = absurd t
lt_gap (negsuc a) (pos b) t = (b + a, sym (sub_ge (suc (b + a)) (suc a) (omega arith) ∙ ap pos (omega arith)))
lt_gap (negsuc a) (negsuc b) t =
    let h = ltb→lt b a t in
    (a - suc b, sym (sub_lt (suc (a - suc b)) (suc a) (omega arith) ∙ ap negsuc (omega arith)))

lt_up : (a : ℤ) (n : ℕ) → T (lt_z a (a +ℤ pos (suc n)))
lt_up (pos a) n = lt→ltb a (a + suc n) (omega arith)
lt_up (negsuc a) n = go (ltb (suc n) (suc a)) (λ t. let h = ltb→lt (suc n) (suc a) t in lt→ltb (suc a - suc (suc n)) a (omega arith))
  where
    go : (c : Bool) → (T c → T (ltb (suc a - suc (suc n)) a)) → T (lt_z (negsuc a) (cond c (negsuc (suc a - suc (suc n))) (pos (suc n - suc a))))
    go true f = f tt
    go false f = tt

-- ---- what is not negative
pub num : (n : ℕ) → pos 0 ≼ pos n
num n = le_z_yes (le→leb 0 n (omega arith))

-- such a number is a natural number
pub nat : (z : ℤ) → pos 0 ≼ z → (n : ℕ) × (z ≡ pos n)
nat (pos n) h = (n, refl)
nat (negsuc n) h = absurd h.le

pub nat⁺ : (z : ℤ) → pos 0 ≺ z → (n : ℕ) × (z ≡ pos (suc n))
nat⁺ (pos zero) h = absurd h.lt
nat⁺ (pos (suc n)) h = (n, refl)
nat⁺ (negsuc n) h = absurd h.lt

infixl 6 ◌⊞◌
pub ◌⊞◌ : {a b : ℤ} → pos 0 ≼ a → pos 0 ≼ b → pos 0 ≼ a +ℤ b
◌⊞◌ {a} {b} h k =
    let m = nat a h in
    let n = nat b k in
    rw (m.1, n.1) (num (m.0 + n.0))

infixl 7 ◌⊠◌
pub ◌⊠◌ : {a b : ℤ} → pos 0 ≼ a → pos 0 ≼ b → pos 0 ≼ a *ℤ b
◌⊠◌ {a} {b} h k =
    let m = nat a h in
    let n = nat b k in
    rw (m.1, n.1) (num (m.0 * n.0))

pub sq : (x : ℤ) → pos 0 ≼ x *ℤ x
sq (pos n) = num (n * n)
sq (negsuc n) = num (suc n * suc n)

-- ---- and the order by it: `gap` reads a fact, `le_by` proves one
over : (a s : ℤ) → a +ℤ s -ℤ a ≡ s
over a s = name₂ a s λ σ p q. simp (p, q, reify) (close σ _ _ ok)

pub gap : {a b : ℤ} → a ≼ b → pos 0 ≼ b -ℤ a
gap {a} {b} h =
    let n = le_gap a b h.le in
    rw (ap (λ t. t -ℤ a) n.1 ∙ over a (pos n.0)) (num n.0)

pub gap⁺ : {a b : ℤ} → a ≺ b → pos 0 ≺ b -ℤ a
gap⁺ {a} {b} h =
    let n = lt_gap a b h.lt in
    rw (ap (λ t. t -ℤ a) n.1 ∙ over a (pos (suc n.0))) (num⁺ n.0)

whole : (p q s : ℤ) → q -ℤ p ≡ s → q ≡ p +ℤ s
whole p q s e = (name₂ p q λ σ a b. simp (a, b, reify) (close σ _ _ ok)) ∙ ap (λ t. p +ℤ t) e

pub le_by : {s p q : ℤ} → pos 0 ≼ s → q -ℤ p ≡ s → p ≼ q
le_by {s} {p} {q} h e =
    let n = nat s h in
    le_z_yes (rw (whole p q (pos n.0) (e ∙ n.1)) (le_up p n.0))

pub lt_by : {s p q : ℤ} → pos 0 ≺ s → q -ℤ p ≡ s → p ≺ q
lt_by {s} {p} {q} h e =
    let n = nat⁺ s h in
    lt_z_yes (rw (whole p q (pos (suc n.0)) (e ∙ n.1)) (lt_up p n.0))

-- ---- the laws
pub ≼_refl : {a b : ℤ} → a ≡ b → a ≼ b
≼_refl {a} e = subst (λ b. a ≼ b) e (≤ℤ_refl a)

-- from ℕ and to ℕ
pub pos_≼ : {m n : ℕ} → m ≤ n → pos m ≼ pos n
pos_≼ {m} {n} h = le_z_yes (le→leb m n h)

pub ≼_pos : {m n : ℕ} → pos m ≼ pos n → m ≤ n
≼_pos {m} {n} h = leb→le m n h.le

pub pos_≺ : {m n : ℕ} → m < n → pos m ≺ pos n
pos_≺ {m} {n} h = lt_z_yes (lt→ltb m n h)
