use Rattle.std.proofs.Common.{vec_items, arith}
use Rattle.rules.specs.Drafts.{said_by}
use Rattle.rules.proofs.Drafting.{wrote_all}
use Rattle.rules.proofs.building.write_rule.Goals as goal

pub returns : goal.returns
returns c =
    wrote_all (vec_items c.args.names.now) (vec_items c.enter_name.new.names) (vec_items c.enter_name-2.new.names) (vec_items c.enter_name-3.new.names) (vec_items c.args.rules.now) (vec_items c.push.new.self)
    (said_by c.args.rule)
    c.in_ok-label.label c.in_ok-first.first c.in_ok-second.second c.len-count.result
    c.in_ok-label.ensures c.in_ok-first.ensures c.in_ok-second.ensures
    c.in_ok-push.ensures.items (omega (arith, c.len-count.ensures, c.args.rules.now.ok.0))
