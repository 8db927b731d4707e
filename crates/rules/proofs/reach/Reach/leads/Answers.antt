use Rattle.std.proofs.Common.{sym, ◌∙◌, rules}
use Rattle.std.proofs.lemmas.Bool.{le-ltb}
use Rattle.rules.proofs.Rows.{marked_past}
use Rattle.rules.proofs.reach.Reach.leads.Goals as goal

pub returns-else-i-lt-MOST_RULES : goal.returns-else-i-lt-MOST_RULES
returns-else-i-lt-MOST_RULES c =
    le-ltb _ _ c.if-i-lt-MOST_RULES.false ∙ (sym (marked_past c.args.self.now.rows c.args.i c.args.j (search rules)) ∙ c.args.self.now.tells c.args.i c.args.j)
