-- Answers, by cases: what a joined or settled answer tells of its parts, a judged one of its tests, a verdict of its answer. Assumes nothing.
use Rattle.std.specs.Prelude.{◌≡◌, refl, Bool, true, false, ◌⊎◌, ℕ}
use Rattle.std.proofs.Common.{inl, inr, arith}
use Rattle.model.specs.Explore.{Answer, inside, away, maybe, by_tests, join, settle}
use Rattle.model.specs.Plates.{clear, within, doubtful, mixed, settled}

-- two constructors are never equal: `clash (cc)`
pub clash : {X : Type 0} → ◌≡◌ {A = ℕ} 0 1 → X
clash e = absurd (omega arith)

-- ---- a strip's answer, by its tests
pub tests_inside : (a b : Bool) → by_tests a b ≡ inside → a ≡ true
tests_inside true b e = refl
tests_inside false true e = clash (cc)
tests_inside false false e = clash (cc)

pub tests_away : (a b : Bool) → by_tests a b ≡ away → b ≡ true
tests_away true b e = clash (cc)
tests_away false true e = refl
tests_away false false e = clash (cc)

pub tests_maybe : (a b : Bool) → by_tests a b ≡ maybe → (a ≡ false) × (b ≡ false)
tests_maybe true b e = clash (cc)
tests_maybe false true e = clash (cc)
tests_maybe false false e = (refl, refl)

-- ---- a node's answer: its own, or its halves'
pub settle_inside : (a b : Answer) → settle a b ≡ inside → (a ≡ inside) ⊎ (b ≡ inside)
settle_inside inside b e = inl refl
settle_inside away b e = clash (cc)
settle_inside maybe b e = inr e

pub settle_away : (a b : Answer) → settle a b ≡ away → (a ≡ away) ⊎ (b ≡ away)
settle_away inside b e = clash (cc)
settle_away away b e = inl refl
settle_away maybe b e = inr e

pub settle_not_inside : (a b : Answer) → (settle a b ≡ inside → ⊥) → (a ≡ away) ⊎ (b ≡ inside → ⊥)
settle_not_inside inside b f = absurd (f refl)
settle_not_inside away b f = inl refl
settle_not_inside maybe b f = inr f

pub settle_not_away : (a b : Answer) → (settle a b ≡ away → ⊥) → (a ≡ inside) ⊎ (b ≡ away → ⊥)
settle_not_away inside b f = inl refl
settle_not_away away b f = absurd (f refl)
settle_not_away maybe b f = inr f

pub join_inside : (a b : Answer) → join a b ≡ inside → (a ≡ inside) ⊎ (b ≡ inside)
join_inside inside b e = inl refl
join_inside away b e = inr e
join_inside maybe inside e = inr refl
join_inside maybe away e = clash (cc)
join_inside maybe maybe e = clash (cc)

pub join_away : (a b : Answer) → join a b ≡ away → (a ≡ away) × (b ≡ away)
join_away inside b e = clash (cc)
join_away away b e = (refl, e)
join_away maybe inside e = clash (cc)
join_away maybe away e = clash (cc)
join_away maybe maybe e = clash (cc)

pub join_not_inside : (a b : Answer) → (join a b ≡ inside → ⊥) → (a ≡ inside → ⊥) × (b ≡ inside → ⊥)
join_not_inside inside b f = absurd (f refl)
join_not_inside away b f = ((λ e. clash (cc)), f)
join_not_inside maybe inside f = absurd (f refl)
join_not_inside maybe away f = ((λ e. clash (cc)), (λ e. clash (cc)))
join_not_inside maybe maybe f = ((λ e. clash (cc)), (λ e. clash (cc)))

pub join_not_away : (a b : Answer) → (join a b ≡ away → ⊥) → (a ≡ away → ⊥) ⊎ (b ≡ away → ⊥)
join_not_away inside b f = inl (λ e. clash (cc))
join_not_away away b f = inr f
join_not_away maybe b f = inl (λ e. clash (cc))

-- ---- a verdict
pub settled_clear : (a : Answer) → clear ≡ settled a doubtful → a ≡ away
settled_clear inside e = clash (cc)
settled_clear away e = refl
settled_clear maybe e = clash (cc)

pub settled_within : (a : Answer) → within ≡ settled a doubtful → a ≡ inside
settled_within inside e = refl
settled_within away e = clash (cc)
settled_within maybe e = clash (cc)

pub settled_doubtful : (a : Answer) → doubtful ≡ settled a doubtful → a ≡ maybe
settled_doubtful inside e = clash (cc)
settled_doubtful away e = clash (cc)
settled_doubtful maybe e = refl

pub settled_mixed : (a : Answer) → mixed ≡ settled a doubtful → ⊥
settled_mixed inside e = clash (cc)
settled_mixed away e = clash (cc)
settled_mixed maybe e = clash (cc)

pub maybe≢inside : maybe ≡ inside → ⊥
maybe≢inside e = clash (cc)

pub maybe≢away : maybe ≡ away → ⊥
maybe≢away e = clash (cc)
