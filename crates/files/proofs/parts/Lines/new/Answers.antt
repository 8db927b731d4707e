use Rattle.std.proofs.Common.{arith}
use Rattle.files.proofs.Cutting.{split_few}
use Rattle.files.proofs.parts.Lines.new.Goals as goal

pub invariant_of-result : goal.invariant_of-result
invariant_of-result c = grind (arith, split_few)
