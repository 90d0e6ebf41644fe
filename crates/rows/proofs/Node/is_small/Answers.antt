use Rattle.integers.specs.Signed.{times, test_lt}
use Rattle.rows.proofs.Deep.{ex_made, ey_made, square_made, box_made, nowhere}
use Rattle.rows.proofs.Node.is_small.Goals as goal

pub overflow_mul-result : goal.overflow_mul-result
overflow_mul-result c = let r = c.args.self.now in let m = ex_made r.v r.frame r.view_sized r.frame_sized in (times m m tt).fits

pub overflow_mul-result-2 : goal.overflow_mul-result-2
overflow_mul-result-2 c = let r = c.args.self.now in let m = ey_made r.v r.frame r.view_sized r.frame_sized in (times m m tt).fits

pub overflow_add-result : goal.overflow_add-result
overflow_add-result c = let r = c.args.self.now in (box_made r.v r.frame r.view_sized r.frame_sized).fits

pub overflow_mul-result-3 : goal.overflow_mul-result-3
overflow_mul-result-3 c = let r = c.args.self.now in (square_made r.v r.frame r.view_sized r.frame_sized).fits

pub returns : goal.returns
returns c =
    let r = c.args.self.now in
    record { otherwise = λ e. nowhere r.v r.frame r.view_sized r.frame_sized (test_lt (box_made r.v r.frame r.view_sized r.frame_sized) (square_made r.v r.frame r.view_sized r.frame_sized) e) }
