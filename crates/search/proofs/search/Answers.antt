-- Each turn of the walk is a law of `Walks`.
use mathlib.Core.Path.{◌≡◌, sym, ap, ◌∙◌, subst}
use mathlib.Core.Bool.{Bool, true, false}
use mathlib.Core.List.{List}
use Prim.Native.Nat.{ℕ, ◌-◌, ◌≤◌, ◌<◌}
use native.Mathlib.Nat.{le_refl}
use native.Mathlib.Omega.{arith}
use lib.IntN.{ℤ}
use lib.ListN.{length, take, drop, length-drop}
use denote.Enum.Bare.{sameb}
use Rattle.strip_tests.specs.contracts.Answer.{the_type}
use Rattle.strip_tests.specs.declared.Answer.{Answer as Told}
use Rattle.strip_tests.specs.declared.Answer.TheVariants.{Away, Maybe, Inside}
use Rattle.std.specs.Bool.{◌==◌}
use Rattle.std.proofs.lemmas.Bool.Decides.{nat_tests}
use Rattle.model.specs.Trees.{Tree}
use Rattle.model.specs.Explore.{Answer, maybe, explore}
use Rattle.model.specs.Store.{flatten}
use Rattle.ranges.specs.Sizes.{AllSized}
use Rattle.strip_tests.specs.Answers.{meaning}
use Rattle.strip_tests.specs.PlainTests.{code}
use Rattle.subtrees.specs.Preorder.{tail}
use Rattle.subtrees.specs.Pending.{TreeOf}
use Rattle.search.specs.Probes.{judged_by, Enough, Fair}
use Rattle.search.specs.declared.Probe.{Probe}
use Rattle.search.proofs.Finds.{most}
use Rattle.search.proofs.Walks as walks
use Rattle.search.proofs.Walks.{Sofar, Next}
use Rattle.search.proofs.search.Goals as goal
use Rattle.search.proofs.search.Goals.{in-Away, in_default+then-leaf+else-settles, in_default+else-leaf}

some : {n : ℕ} {b : Bool} → b ≡ (n == 0) → b ≡ false → 0 < n
some e f = grind (arith, nat_tests)

none : {n : ℕ} {b : Bool} → b ≡ (n == 0) → b ≡ true → n ≤ 0
none e f = grind (arith, nat_tests)

-- no tree answers above what is enough
at_most : (p : Probe) → Fair p → (t : Tree) → AllSized t → code (explore (judged_by p) t) ≤ code (meaning p.enough)
unfolding Enough
at_most p f t z = most (judged_by p) (code (meaning p.enough)) f.stop t z

module _ (p : Probe) {part rest : List ℤ} {found : Answer} (w : (t : Tree) → AllSized t → part ≡ flatten t → Sofar (judged_by p) rest t found) {b : Bool} (e : b ≡ (length rest == 0)) (f : b ≡ false) where
  next : (t : Tree) → AllSized t → part ≡ flatten t → Next (judged_by p) rest t found
  next t z i = walks.next (judged_by p) (w t z i) (some e f)

  -- of the tree that the contract names
  known : (held : TreeOf part) → Next (judged_by p) rest held.tree found
  known held = next held.tree held.sized held.is

-- a part of the rest is shorter
smaller : (k : ℕ) (l : List ℤ) → 1 ≤ k → k ≤ length l → length (take (length l - k) (drop k l)) < length l
smaller k l h m = rw (tail k l) (omega (arith, length-drop k l))

shorter : (k : ℕ) (l : List ℤ) {n : ℕ} → length l ≤ n → length (take (length l - k) (drop k l)) ≤ n
shorter k l h = rw (tail k l) (omega (arith, length-drop k l))

-- a probe that settles at maybe
most_maybe : (a : Told) → sameb the_type a Maybe ≡ true → code (meaning a) ≤ 1
most_maybe Away e = omega arith
most_maybe Maybe e = omega arith
most_maybe Inside e = let f : false ≡ true = e in cc

-- what is left is maybe. `grind` sees it, and is told that no count is 0: so a right guard on the arm of one that is inside is proved too, and a
-- wrong one is refused for letting a node that is inside come here
told_maybe : {a : Told} {b : Answer} → a ≡ Maybe → meaning a ≡ b → maybe ≡ b
told_maybe e f = sym (ap meaning e) ∙ f

pub loop-rest-init : goal.loop-rest-init
loop-rest-init c = record { within = le_refl (length c.args.part.now); sofar = λ t f e. walks.begin (judged_by c.args.probe) c.args.part.now t f e }

pub count_at-nodes-requires : goal.count_at-nodes-requires
count_at-nodes-requires c =
    let k = known c.args.probe c.loop-rest.invariant.sofar c.is_empty.ensures c.loop-rest-test.true c.requires.held.0 in
    record { within = omega (arith, walks.front k); sign = walks.counted k }

pub own-requires : goal.own-requires
own-requires c =
    let k = known c.args.probe c.loop-rest.invariant.sofar c.is_empty.ensures c.loop-rest-test.true c.requires.held.0 in
    record { sizes = (walks.front k, walks.strip_sized k, c.requires.held.1) }

pub returns-in-Inside : goal.returns-in-Inside
returns-in-Inside c =
    record { answer = λ t z i. walks.inside_ends (next c.args.probe c.loop-rest.invariant.sofar c.is_empty.ensures c.loop-rest-test.true t z i) c.in-Inside.ensures.answer }

pub overflow_mul-subtree : goal.overflow_mul-subtree
overflow_mul-subtree c = let r = walks.room (known c.args.probe c.loop-rest.invariant.sofar c.is_empty.ensures c.loop-rest-test.true c.requires.held.0) c.count_at-nodes.ensures.element in omega (arith, r.0, r.1, c.loop-rest.invariant.within)

pub returns-then-settles : goal.returns-then-settles
returns-then-settles c = record {
  answer = λ t z i.
      let n = next c.args.probe c.loop-rest.invariant.sofar c.is_empty.ensures c.loop-rest-test.true t z i in
      let more : 1 ≤ c.count_at-nodes.result = (walks.room n c.count_at-nodes.ensures.element).0 in
      let few = at_most c.args.probe c.requires.held.1 t z in
      walks.leaf_ends n c.count_at-nodes.ensures.element (told_maybe (grind arith) c.own.ensures.answer) c.if-leaf.true
      (omega (arith, few, most_maybe c.args.probe.enough (sym c.eq-settles.ensures ∙ c.if-settles.true)));
}

pub offset_bounds-rest-step : goal.offset_bounds-rest-step
offset_bounds-rest-step c =
    let r = walks.room (known c.args.probe c.loop-rest.invariant.sofar c.is_empty.ensures c.loop-rest-test.true c.requires.held.0) c.count_at-nodes.ensures.element in
    elim c.match-own.branch [
      | in-Away w ↦ omega (arith, r.0, r.1, w.step-is, c.loop-rest.invariant.within)
      | in_default+then-leaf+else-settles w ↦ omega (arith, r.0, r.1, w.step-is, c.loop-rest.invariant.within)
      | in_default+else-leaf w ↦ omega (arith, r.0, r.1, w.step-is, c.loop-rest.invariant.within)
    ]

pub slice_bounds-rest-count : goal.slice_bounds-rest-count
slice_bounds-rest-count c =
    let r = walks.room (known c.args.probe c.loop-rest.invariant.sofar c.is_empty.ensures c.loop-rest-test.true c.requires.held.0) c.count_at-nodes.ensures.element in
    elim c.match-own.branch [
      | in-Away w ↦ omega (arith, r.0, r.1, w.step-is)
      | in_default+then-leaf+else-settles w ↦ omega (arith, r.0, r.1, w.step-is)
      | in_default+else-leaf w ↦ omega (arith, r.0, r.1, w.step-is)
    ]

pub slice_bounds-rest-start : goal.slice_bounds-rest-start
slice_bounds-rest-start c =
    let r = walks.room (known c.args.probe c.loop-rest.invariant.sofar c.is_empty.ensures c.loop-rest-test.true c.requires.held.0) c.count_at-nodes.ensures.element in
    elim c.match-own.branch [
      | in-Away w ↦ omega (arith, r.0, r.1, w.step-is)
      | in_default+then-leaf+else-settles w ↦ omega (arith, r.0, r.1, w.step-is)
      | in_default+else-leaf w ↦ omega (arith, r.0, r.1, w.step-is)
    ]

pub loop-rest-smaller : goal.loop-rest-smaller
loop-rest-smaller c =
    let r = walks.room (known c.args.probe c.loop-rest.invariant.sofar c.is_empty.ensures c.loop-rest-test.true c.requires.held.0) c.count_at-nodes.ensures.element in
    elim c.match-own.branch [
      | in-Away w ↦ smaller _ c.loop-rest.rest.now (omega (arith, r.0, w.step-is)) (omega (arith, r.0, r.1, w.step-is))
      | in_default+then-leaf+else-settles w ↦ smaller _ c.loop-rest.rest.now (omega (arith, r.0, w.step-is)) (omega (arith, r.0, r.1, w.step-is))
      | in_default+else-leaf w ↦ smaller _ c.loop-rest.rest.now (omega (arith, r.0, w.step-is)) (omega (arith, r.0, r.1, w.step-is))
    ]

pub loop-rest-preserved : goal.loop-rest-preserved
loop-rest-preserved c =
    let l = c.loop-rest.rest.now in
    let at = c.match-own.step in
    record {
      within = shorter at l c.loop-rest.invariant.within;
      sofar = λ t z i.
          let n = next c.args.probe c.loop-rest.invariant.sofar c.is_empty.ensures c.loop-rest-test.true t z i in
          let more : 1 ≤ c.count_at-nodes.result = (walks.room n c.count_at-nodes.ensures.element).0 in
          subst (λ (m : List ℤ). Sofar (judged_by c.args.probe) m t (meaning c.match-own.found)) (sym (tail at l))
          (elim c.match-own.branch [
            | in-Away w ↦ rw w.found-is (walks.past_away n c.count_at-nodes.ensures.element (omega (arith, w.step-is)) w.in-Away.ensures.answer)
            | in_default+then-leaf+else-settles w ↦ rw w.found-is (walks.past_leaf n c.count_at-nodes.ensures.element (omega (arith, w.step-is, w.if-leaf.true)) (told_maybe (grind arith) c.own.ensures.answer) w.if-leaf.true)
            | in_default+else-leaf w ↦ rw w.found-is (walks.into_halves n c.count_at-nodes.ensures.element (omega (arith, w.step-is)) (told_maybe (grind arith) c.own.ensures.answer) w.if-leaf.false)
          ]);
    }

pub returns : goal.returns
returns c = record { answer = λ t z i. walks.end (judged_by c.args.probe) (c.loop-rest.invariant.sofar t z i) (none c.is_empty.ensures c.loop-rest-test.false) }
