use Rattle.std.proofs.Common.{arith}
use Rattle.moments.proofs.Shifts.{inserted}
use Rattle.moments.proofs.row.Row.insert.Goals as goal

pub returns-clause-kept : goal.returns-clause-kept
returns-clause-kept g c =
    inserted c.args.self.now.slots.now c.rotate_right.new.self c.len-count.result _ _ c.args.at _ c.args.x c.len-count.ensures.value (omega arith) (omega arith) (omega arith) (omega arith) c.rotate_right.ensures.len c.rotate_right.ensures.after
