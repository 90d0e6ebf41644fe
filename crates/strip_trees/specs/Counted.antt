-- The nodes of a tree that is not long. Assumes nothing.
use Rattle.std.specs.Prelude.{◌≡◌, refl, Bool, true, false, cond, ℕ, ◌+◌, suc, Option, Some, None}
use Rattle.std.proofs.Common.{ap, arith}
use Rattle.integers.specs.Tests.{or_yes}
use Rattle.model.specs.Strips.{Strip}
use Rattle.model.specs.Trees.{Tree, node, is_long}
use Rattle.model.specs.Store.{size}

abbrev pub counted : Tree → Option ℕ
counted t = cond (is_long t) None (Some (size t))

pub told_some : (b : Bool) (m n : ℕ) → Some n ≡ cond b None (Some m) → (b ≡ false) × (n ≡ m)
told_some true m n e = cc
told_some false m n e = (refl, cc)

pub told_none : (b : Bool) (m : ℕ) → cond b None (Some m) ≡ None → b ≡ true
told_none true m e = refl
told_none false m e = cc

pub kept : (t : Tree) (n : ℕ) → Some n ≡ counted t → (is_long t ≡ false) × (n ≡ size t)
kept t n e = told_some (is_long t) (size t) n e

pub lost : (t : Tree) → counted t ≡ None → is_long t ≡ true
lost t e = told_none (is_long t) (size t) e

-- ---- a node, from its halves
pub counted_left : (s : Strip) (l r : Tree) → counted l ≡ None → counted (node s l r) ≡ None
counted_left s l r e = rw (lost l e) refl

pub counted_right : (s : Strip) (l r : Tree) → counted r ≡ None → counted (node s l r) ≡ None
counted_right s l r e = rw (lost r e, or_yes (is_long l)) refl

pub counted_both : (s : Strip) (l r : Tree) (m n : ℕ) → Some m ≡ counted l → Some n ≡ counted r → Some (1 + m + n) ≡ counted (node s l r)
counted_both s l r m n p q =
    let a = kept l m p in
    let b = kept r n q in
    let e : 1 + m + n ≡ suc (size l + size r) = omega (arith, a.1, b.1) in
    rw (a.0, b.0) (ap Some e)
