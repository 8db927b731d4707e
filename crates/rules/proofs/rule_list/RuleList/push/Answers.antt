use Rattle.std.proofs.Common.{sym, ◌∙◌}
use Rattle.rules.specs.Drafts.{said_by}
use Rattle.rules.proofs.Adding.{list_kept, pushed}
use Rattle.rules.proofs.rule_list.RuleList.push.Goals as goal

pub invariant_of-self-else-is_err : goal.invariant_of-self-else-is_err
invariant_of-self-else-is_err c =
    let list = c.args.self.now in
    let k = (pushed list.names.items c.write_rule-written.new.names.items list.rules.items c.write_rule-written.new.rules.items (said_by c.args.rule)
    c.write_rule-written.result (sym c.is_err.ensures.value ∙ c.if-is_err.false) c.write_rule-written.ensures (list_kept list) c.requires).0 in
    record { few = k.few; fewnames = k.fewnames; spelt = k.spelt; within = k.within; appear = k.appear }

pub returns-else-is_err : goal.returns-else-is_err
returns-else-is_err c =
    let list = c.args.self.now in
    (pushed list.names.items c.write_rule-written.new.names.items list.rules.items c.write_rule-written.new.rules.items (said_by c.args.rule)
    c.write_rule-written.result (sym c.is_err.ensures.value ∙ c.if-is_err.false) c.write_rule-written.ensures (list_kept list) c.requires).1
