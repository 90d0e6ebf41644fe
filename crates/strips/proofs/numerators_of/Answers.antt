use Rattle.std.proofs.Common.{sym, subst, to_z-of_z}
use Rattle.integers.specs.Signed.{Made, held, lit, widen, plus, times, back}
use Rattle.model.specs.Strips as model
use Rattle.ranges.specs.PowerForm.{c3_most, a0_most, a1_most, a2_most}
use Rattle.strips.specs.Structs.{form, share, top_most, TopsSized}
use Rattle.strips.proofs.Roundings.{tops_eq, got}
use Rattle.strips.proofs.numerators_of.Goals as goal

module _ (c : goal.After-struct_told-1) where
  a0 : Made c.a0_of-a0.result (model.a0 (form c.args.c) c.args.n c.args.m) a0_most
  a0 = let e = rw (to_z-of_z c.ranges.n, to_z-of_z c.ranges.m) at c.a0_of-a0.ensures.a0 in got e.0 e.1 tt

  a1 : Made c.a1_of-a1.result (model.a1 (form c.args.c) c.args.n c.args.m) a1_most
  a1 = let e = rw (to_z-of_z c.ranges.n, to_z-of_z c.ranges.m) at c.a1_of-a1.ensures.a1 in got e.0 e.1 tt

  a2 : Made c.a2_of-a2.result (model.a2 (form c.args.c) c.args.n c.args.m) a2_most
  a2 = let e = rw (to_z-of_z c.ranges.n, to_z-of_z c.ranges.m) at c.a2_of-a2.ensures.a2 in got e.0 e.1 tt

  a3 : Made c.args.c.c3 c.args.c.c3 c3_most
  a3 = held c.args.c.c3 c.requires.sizes.0.c3_size tt

pub overflow_mul-result : goal.overflow_mul-result
overflow_mul-result c = (times (lit 16 tt) (a0 c) tt).fits

pub overflow_mul-result-2 : goal.overflow_mul-result-2
overflow_mul-result-2 c = (times (lit 8 tt) (a2 c) tt).fits

pub overflow_add-result : goal.overflow_add-result
overflow_add-result c = (plus (times (lit 16 tt) (a0 c) tt) (times (lit 8 tt) (a2 c) tt) tt).fits

pub overflow_mul-result-3 : goal.overflow_mul-result-3
overflow_mul-result-3 c = (times (lit 16 tt) (a1 c) tt).fits

pub overflow_mul-result-4 : goal.overflow_mul-result-4
overflow_mul-result-4 c = (times (lit share tt) (a3 c) tt).fits

pub overflow_add-result-2 : goal.overflow_add-result-2
overflow_add-result-2 c = (plus (times (lit 16 tt) (a1 c) tt) (times (lit share tt) (a3 c) tt) tt).fits

pub overflow_mul-result-5 : goal.overflow_mul-result-5
overflow_mul-result-5 c = (times (lit 8 tt) (a2 c) tt).fits

pub overflow_mul-result-6 : goal.overflow_mul-result-6
overflow_mul-result-6 c = (times (lit 4 tt) (a3 c) tt).fits

pub returns-clause-numerators : goal.returns-clause-numerators
returns-clause-numerators c =
    tops_eq
    (back (plus (times (lit 16 tt) (a0 c) tt) (times (lit 8 tt) (a2 c) tt) tt))
    (back (plus (times (lit 16 tt) (a1 c) tt) (times (lit share tt) (a3 c) tt) tt))
    (back (times (lit 8 tt) (a2 c) tt))
    (back (times (lit 4 tt) (a3 c) tt))

pub returns-clause-sized : goal.returns-clause-sized
returns-clause-sized c =
    let t = plus (times (lit 16 tt) (a0 c) tt) (times (lit 8 tt) (a2 c) tt) tt in
    let u = plus (times (lit 16 tt) (a1 c) tt) (times (lit share tt) (a3 c) tt) tt in
    let v = times (lit 8 tt) (a2 c) tt in
    let w = times (lit 4 tt) (a3 c) tt in
    subst TopsSized (sym (tops_eq (back t) (back u) (back v) (back w))) (record {
      centre_size = (widen top_most t tt).within;
      axis_size = (widen top_most u tt).within;
      second_size = (widen top_most v tt).within;
      third_size = (widen top_most w tt).within;
    })
