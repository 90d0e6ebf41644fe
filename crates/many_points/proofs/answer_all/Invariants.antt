use Rattle.std.proofs.Common.{◌≡◌, List, ◌++◌, ◌*◌, take, drop}
use Rattle.model.specs.Trees.{Tree}
use Rattle.model.specs.Entries.{over, replies}
use Rattle.subtrees.specs.Fronts.{Holds}
use Rattle.many_points.proofs.answer_all.Given as goal

-- the replies so far stand, and those to come are the later points'
abbrev pub invariant-loop-k : goal.invariant-loop-k
invariant-loop-k l = record {
  pairs : l.k-iterator.iter.size ≡ 2;
  left : l.k-iterator.iter.rest.now ≡ drop (2 * l.k-iterator.count) l.spots;
  told : (ts : List Tree) → Holds l.store l.count ts → over (replies ts l.spots) l.initial.reply ≡ take (3 * l.k-iterator.count) l.reply ++ over (replies ts (drop (2 * l.k-iterator.count) l.spots)) (drop (3 * l.k-iterator.count) l.reply);
}
