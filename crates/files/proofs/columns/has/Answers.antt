use Rattle.std.proofs.Common.{◌∙◌}
use Rattle.files.proofs.Orders.{any_has}
use Rattle.files.proofs.columns.has.Goals as goal

pub returns : goal.returns
returns c = c.contains.ensures.value ∙ any_has c.args.column c.args.columns.now
