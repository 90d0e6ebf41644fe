-- Each turn is a law of `Looked`.
use mathlib.Core.Path.{◌≡◌, refl, sym, ap, ◌∙◌}
use native.Mathlib.Omega.{arith}
use borrow.Author.Rules.{rules}
use lib.ListN.{length, length-set}
use Rattle.search.specs.Probes.{judged_by}
use Rattle.open_edges.specs.Looked.{begin, next_away, next_maybe, last_inside}
use Rattle.open_edges.proofs.Looking.{tree_in}
use Rattle.open_edges.proofs.explore_open.Goals as goal
use Rattle.open_edges.proofs.explore_open.Goals.{in-Away, in-Maybe}

pub loop-start-init : goal.loop-start-init
loop-start-init c = record { few = omega arith; looked = begin c.args.store.now (judged_by c.args.probe) c.args.list.now c.args.keep.now }

pub ask-requires : goal.ask-requires
ask-requires c = let f = c.requires.held.1 in record { held = (search (rules, tree_in f), c.requires.held.2) }

pub returns-in-Inside : goal.returns-in-Inside
returns-in-Inside c = record {
  seen = record { is_inside = last_inside c.args.store.now (judged_by c.args.probe) c.args.list.now c.loop-start.start-index _ c.loop-start-test.true refl (λ t h. sym (c.in-Inside.ensures.answer t h)) };
}

pub loop-start-preserved : goal.loop-start-preserved
loop-start-preserved c =
    let a = c.args in
    let l = c.loop-start in
    elim c.match-ask.branch [
      | in-Away w ↦ record {
        few = rw w.kept-is (omega (arith, l.invariant.few));
        looked = rw (w.keep-is, w.kept-is)
            (next_away a.store.now (judged_by a.probe) a.list.now l.start-index _ c.loop-start-test.true refl l.keep l.kept refl (λ t h. sym (w.in-Away.ensures.answer t h)) l.invariant.looked);
      }
      | in-Maybe w ↦ let long : length l.keep ≡ 64 = sym (length-set l.keep l.kept _) ∙ sym (ap length w.keep-is) ∙ c.match-ask.array_long in record {
        few = rw w.kept-is (omega (arith, l.invariant.few));
        looked = rw (w.keep-is, w.kept-is)
            (next_maybe a.store.now (judged_by a.probe) a.list.now l.start-index _ c.loop-start-test.true refl l.keep l.kept refl (omega (arith, long, l.invariant.few, c.loop-start-test.true, c.requires.held.0)) (λ t h. sym (w.in-Maybe.ensures.answer t h)) l.invariant.looked);
      }
    ]
