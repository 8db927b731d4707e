use Rattle.std.proofs.Common.{min, length, arith}
use Rattle.std.proofs.lemmas.List.{length-take-le}
use Rattle.moments.proofs.row.Row.len.Goals as goal

pub returns : goal.returns
returns g c =
    let long = length-take-le (min c.args.self.now.len (length c.args.self.now.slots.now)) c.args.self.now.slots.now (omega arith) in
    record { value = omega arith; kept = omega arith }
