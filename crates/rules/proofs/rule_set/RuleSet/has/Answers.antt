use Rattle.rules.proofs.Marks.{has_holds, holds_past}
use Rattle.std.proofs.Common.{sym, ◌∙◌, rules}
use Rattle.std.proofs.lemmas.Bool.{le-ltb}
use Rattle.rules.proofs.rule_set.RuleSet.has.Goals as goal

pub returns-then-i-lt64 : goal.returns-then-i-lt64
returns-then-i-lt64 c = has_holds c.args.self c.args.i

pub returns-else-i-lt64 : goal.returns-else-i-lt64
returns-else-i-lt64 c = le-ltb _ _ c.if-i-lt64.false ∙ sym (holds_past c.args.self c.args.i (search rules) c.if-i-lt64.false)
