use Rattle.std.proofs.Common.{List, sym, subst, rules}
use Rattle.terms.specs.declared.numbers.RuleNo.{RuleNo}
use Rattle.std.proofs.lemmas.Grind.{common_steps}
use Rattle.rules.specs.Tables.{rules_in}
use Rattle.rules.specs.Words.{WorkingOrder}
use Rattle.rules.proofs.Closings.{table_works}
use Rattle.rules.proofs.table.Table.order.Goals as goal

pub returns-clause-works : goal.returns-clause-works
returns-clause-works c = subst (λ (os : List RuleNo). WorkingOrder (rules_in c.args.self.now) os) (sym (search (rules, common_steps))) (table_works c.args.self.now)
