use Rattle.rules.proofs.Marks.{holds_with}
use Rattle.rules.proofs.rule_set.RuleSet.with.Goals as goal

pub returns : goal.returns
returns c = λ j. holds_with c.args.self.0 c.args.i j c.requires
