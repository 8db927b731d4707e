use Rattle.rules.proofs.Marks.{holds-or}
use Rattle.rules.proofs.rule_set.RuleSet.join.Goals as goal

pub returns : goal.returns
returns c = λ j. holds-or c.args.self.0 c.args.other.0 j
