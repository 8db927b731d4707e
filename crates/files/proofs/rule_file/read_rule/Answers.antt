use Rattle.std.proofs.Common.{◌∙◌}
use Rattle.files.specs.declared.columns.RuleColumn.TheVariants.{Label, First, How, Second}
use Rattle.files.proofs.Reading.{found_wrong, words_read}
use Rattle.files.proofs.rule_file.read_rule.Goals as goal

-- No field under a column is wrong, since all four were found right.
pub returns-in_err-label : goal.returns-in_err-label
returns-in_err-label c = found_wrong c.args.order c.args.cells c.in_ok-check_cells.ensures Label c.cell.result c.cell.ensures c.in_err-label.ensures.accepts

pub returns-in_err-first : goal.returns-in_err-first
returns-in_err-first c = found_wrong c.args.order c.args.cells c.in_ok-check_cells.ensures First c.cell-2.result c.cell-2.ensures c.in_err-first.ensures.accepts

pub returns-in_err-how : goal.returns-in_err-how
returns-in_err-how c = found_wrong c.args.order c.args.cells c.in_ok-check_cells.ensures How c.cell-3.result c.cell-3.ensures c.in_err-how.ensures.accepts

pub returns-in_err-second : goal.returns-in_err-second
returns-in_err-second c = found_wrong c.args.order c.args.cells c.in_ok-check_cells.ensures Second c.cell-4.result c.cell-4.ensures c.in_err-second.ensures.accepts

pub returns : goal.returns
returns c =
    words_read c.args.order c.args.cells c.in_ok-check_cells.ensures _ c.cell-3.result
    (c.in_ok-label.ensures.text ∙ c.cell.ensures) (c.in_ok-first.ensures.text ∙ c.cell-2.ensures) c.in_ok-how.ensures.relation c.cell-3.ensures
    (c.in_ok-second.ensures.text ∙ c.cell-4.ensures)
