-- A walk over the places of trees: those that are not away are kept. Assumes nothing.
use Rattle.std.specs.Prelude.{◌≡◌, ℕ, zero, suc, ◌+◌, ◌≤◌, ◌<◌, ℤ, length, get_or, set, take, drop}
use Rattle.std.proofs.Math.Path.{refl, ap}
use Rattle.std.proofs.Common.{sym, ◌∙◌, subst, ⊎_elim, add-one, arith, take-append-drop, take-suc-set, take_all}
use mathlib.Core.List.{List, [], ◌∷◌, ◌++◌, append-nil}
use Rattle.model.specs.Strips.{Strip}
use Rattle.model.specs.Trees.{Tree}
use Rattle.model.specs.Explore.{Answer, inside, away, maybe, join, explore, explore_all}
use Rattle.verdicts.specs.AnswerCases.{clash, join_inside}
use Rattle.strip_tests.specs.PlainTests.{code}
use Rattle.inheritance.specs.Edges.{keep, opened}
use Rattle.inheritance.specs.Trees.{left_inside, right_inside}
use Rattle.subtrees.specs.At.{At}
use Rattle.open_edges.specs.Starts.{TreeAt, Starts, none, more, Forest}

-- ---- joined answers
join_assoc : (a b c : Answer) → join a (join b c) ≡ join (join a b) c
join_assoc inside b c = refl
join_assoc away b c = refl
join_assoc maybe inside c = refl
join_assoc maybe away c = refl
join_assoc maybe maybe inside = refl
join_assoc maybe maybe away = refl
join_assoc maybe maybe maybe = refl

join_none : (a : Answer) → join a away ≡ a
join_none inside = refl
join_none away = refl
join_none maybe = refl

module _ (v : Strip → Answer) where
  pub explore_append : (xs ys : List Tree) → explore_all v (xs ++ ys) ≡ join (explore_all v xs) (explore_all v ys)
  unfolding explore_all
  explore_append [] ys = refl
  explore_append (x ∷ xs) ys =
      let rest = explore_append xs ys in
      ap (λ a. join (explore v x) a) rest ∙ join_assoc (explore v x) (explore_all v xs) (explore_all v ys)

  pub explore_one : (t : Tree) → explore_all v (t ∷ []) ≡ explore v t
  unfolding explore_all
  explore_one t = join_none (explore v t)

  keep_append : (a : Answer) (t : Tree) (xs ys : List Tree) → keep a t (xs ++ ys) ≡ keep a t xs ++ ys
  keep_append inside t xs ys = refl
  keep_append away t xs ys = refl
  keep_append maybe t xs ys = refl

  pub opened_snoc : (xs : List Tree) (t : Tree) → opened v (xs ++ (t ∷ [])) ≡ opened v xs ++ keep (explore v t) t []
  unfolding opened
  opened_snoc [] t = refl
  opened_snoc (x ∷ xs) t =
      let rest = opened_snoc xs t in
      ap (λ l. keep (explore v x) x l) rest ∙ keep_append (explore v x) x (opened v xs) (keep (explore v t) t [])

-- ---- places
module _ {store : List ℤ} where
  pub starts_snoc : {ps : List ℕ} {ts : List Tree} {a : ℕ} {t : Tree} → Starts store ps ts → At store a t → Starts store (ps ++ (a ∷ [])) (ts ++ (t ∷ []))
  starts_snoc none h = more h none
  starts_snoc (more k ks) h = let rest = starts_snoc ks h in more k rest

  pub starts_long : {ps : List ℕ} {ts : List Tree} → Starts store ps ts → length ts ≡ length ps
  starts_long none = refl
  starts_long (more k ks) = let rest = starts_long ks in ap suc rest

module _ (store : List ℤ) where
  pub record Nth (ts : List Tree) (k a : ℕ) : Type 0 where
    pub tree : Tree
    pub at : At store a tree
    pub next : take (suc k) ts ≡ take k ts ++ (tree ∷ [])

  pub nth : (k : ℕ) {ps : List ℕ} {ts : List Tree} → Starts store ps ts → k < length ps → Nth ts k (get_or ps k 0)
  nth k none h = absurd (omega arith)
  nth zero (more {t = t} a ks) h = record { tree = t; at = a; next = refl }
  nth (suc k) (more {t = t} a ks) h =
      let n = nth k ks (omega arith) in
      record { tree = n.tree; at = n.at; next = ap (λ l. t ∷ l) n.next }

-- ---- the walk, k places on: none inside, and `kept` places of `kp` are those of the trees not away
pub record Sofar (store : List ℤ) (v : Strip → Answer) (kp : List ℕ) (kept k : ℕ) (ts : List Tree) : Type 0 where
  pub not_inside : explore_all v (take k ts) ≡ inside → ⊥
  pub are_kept : Starts store (take kept kp) (opened v (take k ts))

pub record Looked (store : List ℤ) (v : Strip → Answer) (ps kp : List ℕ) (kept k : ℕ) : Type 0 where
  pub sofar : (ts : List Tree) → Starts store ps ts → Sofar store v kp kept k ts

module _ (store : List ℤ) (v : Strip → Answer) (ps : List ℕ) where
  pub begin : (kp : List ℕ) → Looked store v ps kp 0 0
  unfolding opened explore_all
  begin kp = record { sofar = λ ts h. record { not_inside = λ e. clash (cc); are_kept = none } }

  -- one more that is not inside
  not_one : (k : ℕ) (ts : List Tree) (t : Tree) → take (suc k) ts ≡ take k ts ++ (t ∷ []) → (explore_all v (take k ts) ≡ inside → ⊥) → (explore v t ≡ inside → ⊥) → explore_all v (take (suc k) ts) ≡ inside → ⊥
  not_one k ts t n f g e =
      ⊎_elim f g (join_inside (explore_all v (take k ts)) (explore v t)
      (sym (ap (λ l. explore_all v l) n ∙ explore_append v (take k ts) (t ∷ []) ∙ ap (λ a. join (explore_all v (take k ts)) a) (explore_one v t)) ∙ e))

  pub step_away : (kp : List ℕ) (kept k : ℕ) → k < length ps → ((t : Tree) → At store (get_or ps k 0) t → explore v t ≡ away) → Looked store v ps kp kept k → Looked store v ps kp kept (suc k)
  step_away kp kept k l f h = record {
    sofar = λ ts s.
        let n = nth store k s l in
        let a = f n.tree n.at in
        record {
          not_inside = not_one k ts n.tree n.next (h.sofar ts s).not_inside (λ e. clash (cc));
          are_kept = subst (λ us. Starts store (take kept kp) us)
              (sym (ap (λ us. opened v us) n.next ∙ opened_snoc v (take k ts) n.tree ∙ ap (λ (b : Answer). opened v (take k ts) ++ keep b n.tree []) a ∙ append-nil (opened v (take k ts))))
              (h.sofar ts s).are_kept;
        };
  }

  pub step_maybe : (kp : List ℕ) (kept k : ℕ) → k < length ps → kept < length kp → ((t : Tree) → At store (get_or ps k 0) t → explore v t ≡ maybe) → Looked store v ps kp kept k → Looked store v ps (set kp kept (get_or ps k 0)) (suc kept) (suc k)
  step_maybe kp kept k l m f h = record {
    sofar = λ ts s.
        let n = nth store k s l in
        let a = f n.tree n.at in
        record {
          not_inside = not_one k ts n.tree n.next (h.sofar ts s).not_inside (λ e. clash (cc));
          are_kept = subst (λ us. Starts store (take (suc kept) (set kp kept (get_or ps k 0))) us)
              (sym (ap (λ us. opened v us) n.next ∙ opened_snoc v (take k ts) n.tree ∙ ap (λ (b : Answer). opened v (take k ts) ++ keep b n.tree []) a))
              (subst (λ qs. Starts store qs (opened v (take k ts) ++ (n.tree ∷ []))) (sym (take-suc-set kp kept (get_or ps k 0) m)) (starts_snoc (h.sofar ts s).are_kept n.at));
        };
  }

  -- one that is inside settles all
  pub stop_inside : (k : ℕ) → k < length ps → ((t : Tree) → At store (get_or ps k 0) t → explore v t ≡ inside) → (ts : List Tree) → Starts store ps ts → explore_all v ts ≡ inside
  stop_inside k l f ts s =
      let n = nth store k s l in
      let one : explore_all v (take (suc k) ts) ≡ inside =
      ap (λ us. explore_all v us) n.next ∙ explore_append v (take k ts) (n.tree ∷ []) ∙ right_inside (explore_all v (take k ts)) (explore_all v (n.tree ∷ [])) (explore_one v n.tree ∙ f n.tree n.at) in
      ap (λ us. explore_all v us) (sym (take-append-drop (suc k) ts)) ∙ explore_append v (take (suc k) ts) (drop (suc k) ts) ∙ left_inside (explore_all v (take (suc k) ts)) (explore_all v (drop (suc k) ts)) one

  -- at the end
  pub finish : (kp : List ℕ) (kept k : ℕ) → length ps ≤ k → Looked store v ps kp kept k → (ts : List Tree) → Starts store ps ts → (explore_all v ts ≡ inside → ⊥) × Starts store (take kept kp) (opened v ts)
  finish kp kept k l h ts s =
      let e : take k ts ≡ ts = take_all k ts (omega (arith, starts_long s)) in
      subst (λ us. (explore_all v us ≡ inside → ⊥) × Starts store (take kept kp) (opened v us)) e ((h.sofar ts s).not_inside, (h.sofar ts s).are_kept)

-- ---- the same, for a place that was read, and numbers as the code counts them: n is the next place's
module _ (store : List ℤ) (v : Strip → Answer) (ps : List ℕ) (k a : ℕ) (l : k < length ps) (e : get_or ps k 0 ≡ a) where
  back : (t : Tree) → At store (get_or ps k 0) t → At store a t
  back t h = subst (λ b. At store b t) e h

  pub next_away : (kp : List ℕ) (kept : ℕ) {n : ℕ} → n ≡ k + 1 → ((t : Tree) → At store a t → explore v t ≡ away) → Looked store v ps kp kept k → Looked store v ps kp kept n
  next_away kp kept i f h = subst (λ n. Looked store v ps kp kept n) (sym (i ∙ add-one k)) (step_away store v ps kp kept k l (λ t g. f t (back t g)) h)

  pub next_maybe : (kp : List ℕ) (kept : ℕ) {n : ℕ} → n ≡ k + 1 → kept < length kp → ((t : Tree) → At store a t → explore v t ≡ maybe) → Looked store v ps kp kept k → Looked store v ps (set kp kept a) (kept + 1) n
  next_maybe kp kept {n} i m f h =
      subst (λ b. Looked store v ps (set kp kept b) (kept + 1) n) e
      (subst (λ n. Looked store v ps (set kp kept (get_or ps k 0)) (kept + 1) n) (sym (i ∙ add-one k))
      (subst (λ n. Looked store v ps (set kp kept (get_or ps k 0)) n (suc k)) (sym (add-one kept)) (step_maybe store v ps kp kept k l m (λ t g. f t (back t g)) h)))

  pub last_inside : ((t : Tree) → At store a t → explore v t ≡ inside) → (ts : List Tree) → Starts store ps ts → explore_all v ts ≡ inside
  last_inside f = stop_inside store v ps k l (λ t g. f t (back t g))

  pub tree_at : Forest store ps → TreeAt store a
  tree_at f = let n = nth store k f.starts l in record { tree = n.tree; at = back n.tree n.at }

-- ---- answers by their numbers
pub is_inside : (a : Answer) (n : ℕ) → n ≡ code a → n ≡ 2 → a ≡ inside
is_inside inside n e f = refl
is_inside away n e f = absurd (omega arith)
is_inside maybe n e f = absurd (omega arith)

pub is_maybe : (a : Answer) (n : ℕ) → n ≡ code a → n ≡ 1 → a ≡ maybe
is_maybe inside n e f = absurd (omega arith)
is_maybe away n e f = absurd (omega arith)
is_maybe maybe n e f = refl

pub is_away : (a : Answer) (n : ℕ) → n ≡ code a → (n ≡ 2 → ⊥) → (n ≡ 1 → ⊥) → a ≡ away
is_away inside n e f g = absurd (f e)
is_away away n e f g = refl
is_away maybe n e f g = absurd (g e)
