-- What a closed table is, in the words of rules, rings and groups.
use Rattle.std.specs.Prelude.{◌≡◌, ℕ, ◌-◌, ◌<◌, ◌≤◌, true, List, length, Ok, Err, vec_items, Result}
use Rattle.terms.specs.declared.numbers.LabelNo.{LabelNo}
use Rattle.terms.specs.declared.numbers.RuleNo.{RuleNo}
use Rattle.rules.specs.declared.group.Group.{Group}
use Rattle.rules.specs.declared.rule.Rule.{Rule}
use Rattle.rules.specs.declared.table.CloseFault.{CloseFault}
use Rattle.rules.specs.declared.table.CloseFault.TheVariants.{Ringed, OutOfMemory}
use Rattle.rules.specs.declared.table.Table.{Table}
use Rattle.rules.specs.Drafts.{listed}
use Rattle.rules.specs.Labels.{is_label}
use Rattle.rules.specs.Texts.{texts}
use Rattle.rules.specs.Words.{rule_by_index, Free, LowestBarred, WorkingOrder, Grouping}
use Rattle.rules.specs.Written.{Written, names_of, rules_of, name_at}

-- Its labels' names and its rules, each by number; its working order and its groups.
abbrev pub names_in : Table → List (List ℕ)
names_in t = texts (vec_items t.list.names)

abbrev pub rules_in : Table → List Rule
rules_in t = vec_items t.list.rules

abbrev pub order_in : Table → List RuleNo
order_in t = vec_items t.order

abbrev pub groups_in : Table → List Group
groups_in t = vec_items t.groups

-- Its rules as they are written.
abbrev pub tabled : Table → List Written
tabled t = listed t.list

-- The table has the label, by number, and its name; it has the rule, by number, and what it is.
abbrev pub LabelIn : Table → LabelNo → Type 0
LabelIn t label = label.0 < length (names_in t)

abbrev pub name_of : Table → LabelNo → List ℕ
name_of t label = name_at (names_in t) label.0

abbrev pub RuleIn : Table → RuleNo → Type 0
RuleIn t rule = (0 < rule.0) × (rule.0 ≤ length (rules_in t))

abbrev pub rule_of : Table → RuleNo → Rule
rule_of t rule = rule_by_index (rules_in t) (rule.0 - 1)

-- What every table that exists keeps.
pub record Closed (t : Table) : Type 0 where
  -- at most 48 rules and 32 labels
  pub few_rules : length (rules_in t) ≤ 48
  pub few_labels : length (names_in t) ≤ 32
  -- its names are labels, all different, numbered by first appearance; its rules are numbered by them
  pub spelt : (k : ℕ) → k < length (names_in t) → is_label (name_at (names_in t) k) ≡ true
  pub different : (j k : ℕ) → j < length (names_in t) → k < length (names_in t) → name_at (names_in t) j ≡ name_at (names_in t) k → j ≡ k
  pub names : names_in t ≡ names_of (tabled t)
  pub rules : rules_in t ≡ rules_of (tabled t)
  -- no exclusive rule is in a ring
  pub free : Free (rules_in t)
  pub working : WorkingOrder (rules_in t) (order_in t)
  pub grouping : Grouping (rules_in t) (order_in t) (groups_in t)

-- Rules make a table exactly if no exclusive rule is in a ring and there is memory. Want of memory hides no ring.
abbrev pub Closes : List Written → Result Table CloseFault → Type 0
Closes ws (Ok t) = (tabled t ≡ ws) × Free (rules_of ws)
Closes ws (Err (Ringed lowest)) = LowestBarred (rules_of ws) lowest
Closes ws (Err OutOfMemory) = Free (rules_of ws)
