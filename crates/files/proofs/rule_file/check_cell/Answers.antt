use Rattle.files.specs.Fields.{fault_in}
use Rattle.std.proofs.Common.{ap, ◌∙◌}
use Rattle.files.proofs.Reading.{cell_told}
use Rattle.files.proofs.rule_file.check_cell.Goals as goal

pub returns : goal.returns
returns c = cell_told c.args.column c.args.cell c.check_in_rule.result (c.check_in_rule.ensures ∙ ap fault_in c.under.ensures)
