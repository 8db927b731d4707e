use Rattle.std.proofs.Common.{◌≡◌, ◌+◌, List, length, string_bytes, String, sym, subst, arith}
use Rattle.std.specs.declared.alloc.Global.{Global}
use Rattle.std.proofs.lemmas.List.{length-map}
use Rattle.rules.specs.Drafts.{said_by}
use Rattle.rules.specs.Texts.{texts}
use Rattle.rules.specs.Written.{enter_rule}
use Rattle.rules.proofs.Keeping.{accepts, refuses_labels}
use Rattle.rules.proofs.Adding.{list_kept}
use Rattle.rules.proofs.rule_list.RuleList.check.Goals as goal

pub returns-then-len-new_names-gt-MOST_LABELS : goal.returns-then-len-new_names-gt-MOST_LABELS
returns-then-len-new_names-gt-MOST_LABELS c =
    let list = c.args.self.now in
    let w = said_by c.args.rule in
    let s = sym c.if-not-is_spelt.ensures in
    let b = subst (λ (ns : List (String Global)). length (enter_rule (texts ns) w) ≡ length (texts ns) + c.new_names.result) c.deref.ensures.value c.new_names.ensures.brings in
    let n = length-map list.names.items string_bytes in
    refuses_labels (texts list.names.items) list.rules.items w (list_kept list) s (omega (arith, c.len-2.ensures, list.names.ok.0, c.if-len-new_names-gt-MOST_LABELS.true))

pub returns : goal.returns
returns c =
    let list = c.args.self.now in
    let w = said_by c.args.rule in
    let s = sym c.if-not-is_spelt.ensures in
    let b = subst (λ (ns : List (String Global)). length (enter_rule (texts ns) w) ≡ length (texts ns) + c.new_names.result) c.deref.ensures.value c.new_names.ensures.brings in
    let n = length-map list.names.items string_bytes in
    accepts (texts list.names.items) list.rules.items w (list_kept list) s (omega (arith, c.len.ensures, list.rules.ok.0, c.if-len-ge-MOST_RULES.false)) (omega (arith, c.len-2.ensures, list.names.ok.0, c.if-len-new_names-gt-MOST_LABELS.false))
