-- What the fields of a closed table say, in the words of rules, rings and groups.
use Rattle.std.proofs.Common.{◌≡◌, ℕ, List, length, Decides, sym, ap, ◌∙◌, subst}
use Rattle.terms.specs.declared.numbers.RuleNo.{RuleNo}
use Rattle.rules.specs.declared.group.Group.{Group}
use Rattle.rules.specs.declared.rule.Rule.{Rule}
use Rattle.rules.specs.Keys.{PartsTo}
use Rattle.rules.specs.declared.table.Table.{Table}
use Rattle.rules.specs.Words.{Leads, WorkingOrder}
use Rattle.rules.specs.Reach.{leads_to}
use Rattle.rules.specs.Written.{index_of}
use Rattle.rules.specs.Tables.{names_in, rules_in, order_in, groups_in, Closed}
use Rattle.rules.proofs.Paths.{leads_to_tells}
use Rattle.rules.proofs.Ordering.{working}
use Rattle.rules.proofs.Adding.{list_kept}
use Rattle.rules.proofs.Keeping.{Kept, kept_different, kept_rules, labels_each}
use Rattle.rules.proofs.Groupings.{grouping}

pub table_kept : (t : Table) → Kept (names_in t) (rules_in t)
table_kept t = list_kept t.list

table_tells : (t : Table) (i j : ℕ) → Decides (leads_to (rules_in t) i j) (Leads (rules_in t) i j)
table_tells t = leads_to_tells (rules_in t)

pub table_works : (t : Table) → WorkingOrder (rules_in t) (order_in t)
table_works t = working (rules_in t) (leads_to (rules_in t)) (table_tells t) (order_in t) t.ordered

pub table_closed : (t : Table) → Closed t
table_closed t =
    let d = kept_different (names_in t) (rules_in t) (table_kept t) in
    record {
      few_rules = t.list.few;
      few_labels = t.list.fewnames;
      spelt = labels_each (names_in t) t.list.spelt;
      different = λ j k l m e. sym (d j l) ∙ (ap (index_of (names_in t)) e ∙ d k m);
      names = sym t.list.appear;
      rules = sym (kept_rules (names_in t) (rules_in t) (table_kept t));
      free = t.free;
      working = table_works t;
      grouping = grouping (rules_in t) (leads_to (rules_in t)) (table_tells t) (groups_in t) (order_in t) t.parted (table_works t);
    }

-- the groups of an order, told by what leads to what in rules that are the same and of a list that is the order
pub parts_of : (rs ss : List Rule) (ps os : List RuleNo) (gs : List Group) → rs ≡ ss → ps ≡ os → length os ≡ length ss → PartsTo (leads_to rs) ps (length ps) gs (length ps) → PartsTo (leads_to ss) os (length ss) gs (length ss)
parts_of rs ss ps os gs e f l p =
    subst (λ (n : ℕ). PartsTo (leads_to ss) os n gs n) l (subst (λ (qs : List RuleNo). PartsTo (leads_to ss) qs (length qs) gs (length qs)) f (subst (λ (ts : List Rule). PartsTo (leads_to ts) ps (length ps) gs (length ps)) e p))
