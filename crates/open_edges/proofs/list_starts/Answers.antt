-- The trees are listed one after the other, and the next begins at `at`.
use mathlib.Core.Path.{◌≡◌, refl, sym, ◌∙◌, subst}
use mathlib.Core.List.{List}
use Prim.Native.Nat.{ℕ, ◌<◌}
use native.Mathlib.Omega.{arith}
use lib.IntN.{ℤ}
use lib.ListN.{length, length-set}
use lib.Seq.{take_all}
use Rattle.model.specs.Trees.{Tree}
use Rattle.subtrees.specs.Fronts.{Holds, TreesOf}
use Rattle.subtrees.specs.At.{front, here}
use Rattle.open_edges.specs.Starts.{Starts}
use Rattle.open_edges.proofs.Listing.{Listed, begin, Step, step, finish}
use Rattle.open_edges.proofs.list_starts.Goals as goal

-- the list has room for n trees, of which e are listed
module _ {store : List ℤ} {list : List ℕ} {at e n : ℕ} (i : (ts : List Tree) → Holds store (length list) ts → Listed store ts list at e) (long : length list ≡ n) (more : e < n) where
  stepped : (ts : List Tree) → Holds store n ts → Step store ts list at e
  stepped ts h = step store ts list at e (omega (arith, h.many, more)) (omega (arith, long, more)) (i ts (subst (λ (k : ℕ). Holds store k ts) (sym long) h))

  -- the tree that comes next, of some trees
  some : (t : TreesOf store n) → Step store t.trees list at e
  some t = stepped t.trees t.holds

pub loop-start-init : goal.loop-start-init
loop-start-init c = λ ts h. begin c.args.store.now _ ts c.args.list.now h

pub overflow_add-at : goal.overflow_add-at
overflow_add-at c =
    let s = some c.loop-start.invariant c.loop-start.auto.list c.loop-start-test.true c.requires.held in
    omega (arith, (front c.args.store.now c.loop-start.at s.tree s.at).0)

pub count_at-requires : goal.count_at-requires
count_at-requires c =
    let s = some c.loop-start.invariant c.loop-start.auto.list c.loop-start-test.true c.requires.held in
    let f = front c.args.store.now c.loop-start.at s.tree s.at in
    record { within = f.0; sign = f.1 }

pub overflow_mul-at : goal.overflow_mul-at
overflow_mul-at c =
    let s = some c.loop-start.invariant c.loop-start.auto.list c.loop-start-test.true c.requires.held in
    omega (arith, (here c.args.store.now c.loop-start.at c.count_at.result s.tree s.at c.count_at.ensures.element).long)

pub overflow_add-at-in-loop-start : goal.overflow_add-at-in-loop-start
overflow_add-at-in-loop-start c =
    let s = some c.loop-start.invariant c.loop-start.auto.list c.loop-start-test.true c.requires.held in
    omega (arith, (here c.args.store.now c.loop-start.at c.count_at.result s.tree s.at c.count_at.ensures.element).long)

pub loop-start-preserved : goal.loop-start-preserved
loop-start-preserved c = λ ts h.
    let l = c.loop-start in
    let long : length _ ≡ length c.args.list.now = length-set l.list l.start-index l.at ∙ l.auto.list in
    (stepped l.invariant l.auto.list c.loop-start-test.true ts (subst (λ (k : ℕ). Holds c.args.store.now k ts) long h)).listed c.count_at.result c.count_at.ensures.element _ refl

pub returns : goal.returns
returns c = record {
  starts = λ ts h.
      let l = c.loop-start in
      let e : length c.args.list.now ≡ l.start-index = omega (arith, l.auto.start-index-end, c.loop-start-test.false) in
      let s = finish c.args.store.now ts l.list l.at l.start-index (h.many ∙ e) (l.invariant ts (subst (λ (k : ℕ). Holds c.args.store.now k ts) (sym l.auto.list) h)) in
      subst (λ (ps : List ℕ). Starts c.args.store.now ps ts) (take_all l.start-index l.list (omega (arith, l.auto.list, e))) s;
}
