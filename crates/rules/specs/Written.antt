-- Rules as they are written, by names, and the numbers that labels get.
use Rattle.std.specs.Prelude.{ℕ, Bool, cond, ◌&&◌, List, [], ◌∷◌, ◌++◌, map, length, nat_le, nat_lt, slice_index_or}
use Rattle.std.specs.List.{list_all, position_or_len}
use Rattle.std.specs.Str.{bytes_eq}
use Rattle.terms.specs.declared.numbers.LabelNo.{LabelNo}
use Rattle.rules.specs.declared.relation.Relation.{Relation}
use Rattle.rules.specs.declared.rule.Rule.{Rule}
use Rattle.rules.specs.Labels.{is_label}

-- A rule by the names of its labels.
pub record Written : Type 0 where
  pub label : List ℕ
  pub first : List ℕ
  pub how : Relation
  pub second : List ℕ

-- The index of the first name that is the text; the number of names if none is.
abbrev pub index_of : List (List ℕ) → List ℕ → ℕ
index_of names text = position_or_len (λ n. bytes_eq n text) names

abbrev pub known : List (List ℕ) → List ℕ → Bool
known names text = nat_lt (index_of names text) (length names)

-- The names with one more, unless it is there.
abbrev pub enter : List (List ℕ) → List ℕ → List (List ℕ)
enter names text = cond (known names text) names (names ++ (text ∷ []))

-- The names with those of a rule, read in the order label, first, second.
abbrev pub enter_rule : List (List ℕ) → Written → List (List ℕ)
enter_rule names w = enter (enter (enter names w.label) w.first) w.second

abbrev pub enter_rules : List (List ℕ) → List Written → List (List ℕ)
enter_rules names [] = names
enter_rules names (w ∷ ws) = enter_rules (enter_rule names w) ws

-- The names of a list of rules, in the order of their first appearance. A label's number is its index among them.
abbrev pub names_of : List Written → List (List ℕ)
names_of ws = enter_rules [] ws

abbrev pub label_number : List (List ℕ) → List ℕ → LabelNo
label_number names text = record { 0 = index_of names text }

-- The rule by the numbers that its labels have among the names.
abbrev pub number_rule : List (List ℕ) → Written → Rule
number_rule names w = record { label = label_number names w.label; first = label_number names w.first; how = w.how; second = label_number names w.second }

abbrev pub number_rules : List (List ℕ) → List Written → List Rule
number_rules names ws = map (number_rule names) ws

-- The rules by number, each label by its first appearance.
abbrev pub rules_of : List Written → List Rule
rules_of ws = number_rules (names_of ws) ws

-- The name that a number has; no label past the names.
abbrev pub name_at : List (List ℕ) → ℕ → List ℕ
name_at names k = slice_index_or names k []

-- The rule as it is written with these names.
abbrev pub spell_rule : List (List ℕ) → Rule → Written
spell_rule names r = record { label = name_at names r.label.0; first = name_at names r.first.0; how = r.how; second = name_at names r.second.0 }

abbrev pub spell_rules : List (List ℕ) → List Rule → List Written
spell_rules names rules = map (spell_rule names) rules

-- Its three names are labels.
abbrev pub spelt : Written → Bool
spelt w = is_label w.label && (is_label w.first && is_label w.second)

-- One more rule stays within 48 rules and 32 labels.
abbrev pub room_for : List Written → Written → Bool
room_for ws w = nat_lt (length ws) 48 && nat_le (length (names_of (ws ++ (w ∷ [])))) 32

-- All names are labels.
abbrev pub all_labels : List (List ℕ) → Bool
all_labels names = list_all is_label names

-- The labels of a rule are below the number of labels, and so are those of all the rules.
abbrev pub in_range : ℕ → Rule → Bool
in_range labels r = nat_lt r.label.0 labels && (nat_lt r.first.0 labels && nat_lt r.second.0 labels)

abbrev pub all_in_range : ℕ → List Rule → Bool
all_in_range labels rules = list_all (in_range labels) rules
