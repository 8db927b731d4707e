use Rattle.std.proofs.Common.{arith}
use Rattle.files.proofs.Cutting.{left_any}
use Rattle.files.proofs.parts.LinesIterator.next.Goals as goal

pub returns-clause-steps : goal.returns-clause-steps
returns-clause-steps c = grind (arith, left_any)
