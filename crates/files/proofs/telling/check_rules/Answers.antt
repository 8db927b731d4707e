use Rattle.std.proofs.Common.{◌∙◌}
use Rattle.rules.proofs.Closings.{table_closed}
use Rattle.files.specs.Verdicts.{counts_text}
use Rattle.files.proofs.telling.check_rules.Goals as goal

pub returns-in_ok-text-in-Ok : goal.returns-in_ok-text-in-Ok
returns-in_ok-text-in-Ok c = record {
  table = c.in-Ok.table;
  says = c.in-Ok.ensures.says;
  closed = table_closed c.in-Ok.table;
  written = c.in_ok-text-in-Ok.ensures ∙ (λ i. counts_text (c.rule_count.ensures i) (c.label_count.ensures i) (c.group_count.ensures i));
}
