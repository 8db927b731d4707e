use Rattle.std.proofs.Common.{sym}
use Rattle.files.proofs.Cutting.{cut_first, cut_whole}
use Rattle.files.proofs.parts.cut.Goals as goal

pub returns-in-Some : goal.returns-in-Some
returns-in-Some c = cut_first c.args.byte c.args.bytes.now c.in-Some.end (sym c.in-Some.ensures)

pub returns-in-None : goal.returns-in-None
returns-in-None c = cut_whole c.args.byte c.args.bytes.now (sym c.in-None.ensures)
