use Rattle.rules.proofs.Marks.{holds_none}
use Rattle.rules.proofs.rule_set.RuleSet.none.Goals as goal

pub returns : goal.returns
returns c = holds_none
