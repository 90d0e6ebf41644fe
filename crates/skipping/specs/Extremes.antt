-- The lesser and the greater of two. Assumes nothing.
use Rattle.std.specs.Prelude.{◌≡◌, refl, Bool, true, false, cond, ◌⊎◌, ℤ, pos, negsuc}
use Rattle.std.proofs.Common.{sym, ap, ◌∙◌, subst, inl, inr, ⊎_elim}
use Rattle.std.specs.Int.Signed.{lt_z}
use Rattle.integers.specs.RingSolver.{name₂}
use Rattle.integers.specs.Order.{◌≼◌, ◌≺◌, num, ≼_refl}
use Rattle.integers.specs.Omega.{zarith}
use Rattle.integers.specs.Inequalities.{≼_trans, ≼_≺_trans, weak}
use Rattle.integers.specs.Tests.{lt_true, lt_false, true_lt, false_lt}
use Rattle.model.specs.Boxes.{lesser, greater}
use Rattle.model.specs.Explore.{at_least0}

antisym : {a b : ℤ} → a ≼ b → b ≼ a → a ≡ b
antisym {a} {b} = name₂ a b λ σ p q. simp (p, q) (omega zarith)

-- ---- which one it is
pub lesser_first : {a b : ℤ} → a ≼ b → lesser a b ≡ a
lesser_first {a} {b} h = ap (λ (t : Bool). cond t b a) (false_lt h)

pub lesser_second : {a b : ℤ} → b ≼ a → lesser a b ≡ b
lesser_second {a} {b} h = go (lt_z b a) refl
  where
    go : (t : Bool) → lt_z b a ≡ t → cond t b a ≡ b
    go true e = refl
    go false e = antisym (lt_false {a = b} {b = a} e) h

greater_first : {a b : ℤ} → b ≼ a → greater a b ≡ a
greater_first {a} {b} h = ap (λ (t : Bool). cond t b a) (false_lt h)

greater_second : {a b : ℤ} → a ≼ b → greater a b ≡ b
greater_second {a} {b} h = go (lt_z a b) refl
  where
    go : (t : Bool) → lt_z a b ≡ t → cond t b a ≡ b
    go true e = refl
    go false e = antisym h (lt_false {a = a} {b = b} e)

-- of a number that is one of them and not below the other
pub greater_is : {a b g : ℤ} → a ≼ g → b ≼ g → (g ≡ a) ⊎ (g ≡ b) → greater a b ≡ g
greater_is {a} {b} {g} h k w = ⊎_elim
    (λ e. greater_first (subst (λ (z : ℤ). b ≼ z) e k) ∙ sym e)
    (λ e. greater_second (subst (λ (z : ℤ). a ≼ z) e h) ∙ sym e)
    w

-- ---- the order
pub either_way : (a b : ℤ) → (b ≺ a) ⊎ (a ≼ b)
either_way a b = go (lt_z b a) refl
  where
    go : (t : Bool) → lt_z b a ≡ t → (b ≺ a) ⊎ (a ≼ b)
    go true e = inl (lt_true {a = b} {b = a} e)
    go false e = inr (lt_false {a = b} {b = a} e)

pub lesser_≼ : (a b : ℤ) → (lesser a b ≼ a) × (lesser a b ≼ b)
lesser_≼ a b = ⊎_elim
    (λ h. (subst (λ (z : ℤ). z ≼ a) (sym (lesser_second (weak h))) (weak h), ≼_refl (lesser_second (weak h))))
    (λ h. (≼_refl (lesser_first h), subst (λ (z : ℤ). z ≼ b) (sym (lesser_first h)) h))
    (either_way a b)

pub ≼_greater : (a b : ℤ) → (a ≼ greater a b) × (b ≼ greater a b)
≼_greater a b = ⊎_elim
    (λ h. (≼_refl (sym (greater_first (weak h))), subst (λ (z : ℤ). b ≼ z) (sym (greater_first (weak h))) (weak h)))
    (λ h. (subst (λ (z : ℤ). a ≼ z) (sym (greater_second h)) h, ≼_refl (sym (greater_second h))))
    (either_way a b)

-- what is below both, and above both
pub ≼_lesser : {a b z : ℤ} → z ≼ a → z ≼ b → z ≼ lesser a b
≼_lesser {a} {b} {z} h k = ⊎_elim
    (λ d. subst (λ (w : ℤ). z ≼ w) (sym (lesser_second (weak d))) k)
    (λ d. subst (λ (w : ℤ). z ≼ w) (sym (lesser_first d)) h)
    (either_way a b)

pub ≺_lesser : {a b z : ℤ} → z ≺ a → z ≺ b → z ≺ lesser a b
≺_lesser {a} {b} {z} h k = ⊎_elim
    (λ d. subst (λ (w : ℤ). z ≺ w) (sym (lesser_second (weak d))) k)
    (λ d. subst (λ (w : ℤ). z ≺ w) (sym (lesser_first d)) h)
    (either_way a b)

pub greater_≼ : {a b z : ℤ} → a ≼ z → b ≼ z → greater a b ≼ z
greater_≼ {a} {b} {z} h k = ⊎_elim
    (λ d. subst (λ (w : ℤ). w ≼ z) (sym (greater_first (weak d))) h)
    (λ d. subst (λ (w : ℤ). w ≼ z) (sym (greater_second d)) k)
    (either_way a b)

pub lesser_mono : {a b c d : ℤ} → a ≼ c → b ≼ d → lesser a b ≼ lesser c d
lesser_mono {a} {b} h k = let l = lesser_≼ a b in ≼_lesser (≼_trans l.0 h) (≼_trans l.1 k)

pub greater_mono : {a b c d : ℤ} → a ≼ c → b ≼ d → greater a b ≼ greater c d
greater_mono {c = c} {d} h k = let g = ≼_greater c d in greater_≼ (≼_trans h g.0) (≼_trans k g.1)

-- ---- a number that is not let below 0
pub clamped_above : (z : ℤ) → pos 0 ≼ at_least0 z
clamped_above (pos n) = num n
clamped_above (negsuc n) = ≼_refl refl

pub clamped_≼ : (z u : ℤ) → z ≼ u → pos 0 ≼ u → at_least0 z ≼ u
clamped_≼ (pos n) u h k = h
clamped_≼ (negsuc n) u h k = k

below_clamped : (z : ℤ) → z ≼ at_least0 z
below_clamped (pos n) = ≼_refl refl
below_clamped (negsuc n) = record { le = tt }

pub clamped_mono : {a b : ℤ} → a ≼ b → at_least0 a ≼ at_least0 b
clamped_mono {a} {b} h = clamped_≼ a (at_least0 b) (≼_trans h (below_clamped b)) (clamped_above b)

-- ---- of three
pub lesser_assoc : (a b c : ℤ) → lesser a (lesser b c) ≡ lesser (lesser a b) c
lesser_assoc a b c =
    let p = lesser_≼ b c in
    let q = lesser_≼ a (lesser b c) in
    let r = lesser_≼ a b in
    let s = lesser_≼ (lesser a b) c in
    antisym
    (≼_lesser (≼_lesser q.0 (≼_trans q.1 p.0)) (≼_trans q.1 p.1))
    (≼_lesser (≼_trans s.0 r.0) (≼_lesser (≼_trans s.0 r.1) s.1))

-- an edge that takes over where a falls below h, and again where b falls below what is left, takes over where the lesser of them does
pub taken_twice : {A : Type 0} (a b h : ℤ) (e f : A) → cond (lt_z b (lesser h a)) e (cond (lt_z a h) e f) ≡ cond (lt_z (lesser a b) h) e f
taken_twice a b h e f = ⊎_elim below above (either_way h a)
  where
    -- a is below h, so that e has taken over already
    below : a ≺ h → cond (lt_z b (lesser h a)) e (cond (lt_z a h) e f) ≡ cond (lt_z (lesser a b) h) e f
    below d = rw (true_lt {a = a} {b = h} d, true_lt {a = lesser a b} {b = h} (≼_≺_trans (lesser_≼ a b).0 d)) (same (lt_z b a))
      where
        same : (t : Bool) → cond t e e ≡ e
        same true = refl
        same false = refl

    above : h ≼ a → cond (lt_z b (lesser h a)) e (cond (lt_z a h) e f) ≡ cond (lt_z (lesser a b) h) e f
    above d = rw (lesser_first d, false_lt d) (ap (λ (t : Bool). cond t e f) (⊎_elim yes no (either_way h b)))
      where
        yes : b ≺ h → lt_z b h ≡ lt_z (lesser a b) h
        yes k = true_lt {a = b} {b = h} k ∙ sym (true_lt {a = lesser a b} {b = h} (≼_≺_trans (lesser_≼ a b).1 k))

        no : h ≼ b → lt_z b h ≡ lt_z (lesser a b) h
        no k = false_lt k ∙ sym (false_lt (≼_lesser d k))
