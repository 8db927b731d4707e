-- What adding a rule to a draft answers, and what the draft holds then.
use Rattle.std.specs.Prelude.{◌≡◌, ℕ, ◌+◌, ◌≤◌, cond, List, [], ◌∷◌, ◌++◌, length, Some, None, Ok, Err, vec_items, Option, Result, String}
use Rattle.std.specs.declared.alloc.AllocError.{AllocError}
use Rattle.std.specs.declared.alloc.Global.{Global}
use Rattle.terms.specs.declared.numbers.LabelNo.{LabelNo}
use Rattle.terms.specs.declared.numbers.RuleNo.{RuleNo}
use Rattle.terms.specs.declared.refusal.Refusal.{Refusal}
use Rattle.terms.specs.declared.refusal.Refusal.TheVariants.{Misspelt, Overfull}
use Rattle.rules.specs.declared.draft.AddFault.{AddFault}
use Rattle.rules.specs.declared.draft.AddFault.TheVariants.{Refused, OutOfMemory}
use Rattle.rules.specs.declared.draft.Draft.{Draft}
use Rattle.rules.specs.declared.rule.Rule.{Rule}
use Rattle.rules.specs.declared.rule.RuleWords.{RuleWords}
use Rattle.rules.specs.declared.rule_list.RuleList.{RuleList}
use Rattle.rules.specs.Texts.{texts}
use Rattle.rules.specs.Written.{Written, index_of, enter, enter_rule, number_rule, spell_rules, spelt, room_for}

-- The rules of a list as they were written, and those of a draft.
abbrev pub listed : RuleList → List Written
listed l = spell_rules (texts (vec_items l.names)) (vec_items l.rules)

abbrev pub drafted : Draft → List Written
drafted d = listed d.list

-- The rule that the words say.
abbrev pub said_by : RuleWords → Written
said_by w = record { label = w.label.now; first = w.first.now; how = w.how; second = w.second.now }

-- Why a rule is refused after the rules ws: a name that is no label, then a 49th rule or a 33rd label.
abbrev pub add_refusal : List Written → Written → Option Refusal
add_refusal ws w = cond (spelt w) (cond (room_for ws w) None (Some Overfull)) (Some Misspelt)

-- The rule is added exactly if nothing refuses it and there is memory; else the draft is as before. Want of memory hides no refusal.
abbrev pub Added : List Written → Written → List Written → Result RuleNo AddFault → Type 0
Added ws w after (Ok number) = (add_refusal ws w ≡ None) × (after ≡ ws ++ (w ∷ [])) × (number.0 ≡ length ws + 1)
Added ws w after (Err (Refused why)) = (add_refusal ws w ≡ Some why) × (after ≡ ws)
Added ws w after (Err OutOfMemory) = (add_refusal ws w ≡ None) × (after ≡ ws)

-- A rule that nothing refuses is in the list then, unless there is no memory for it.
abbrev pub Pushed : List Written → Written → List Written → Result RuleNo AllocError → Type 0
Pushed ws w after (Ok number) = (after ≡ ws ++ (w ∷ [])) × (number.0 ≡ length ws + 1)
Pushed ws w after (Err e) = after ≡ ws

-- The list begins with the other.
abbrev pub Extends : {A : Type 0} → List A → List A → Type 0
Extends {A} xs ys = (more : List A) × (ys ≡ xs ++ more)

-- One name more, unless it is there: its number, with the names then.
abbrev pub Entered : List (String Global) → List ℕ → List (String Global) → Result LabelNo AllocError → Type 0
Entered names text after (Ok number) = (texts after ≡ enter (texts names) text) × (number.0 ≡ index_of (texts after) text) × (length (texts after) ≤ length (texts names) + 1) × Extends names after
Entered names text after (Err e) = after ≡ names

-- One rule more, with its names. Where it is not added, names may be left after the old ones.
abbrev pub Wrote : List (String Global) → List Rule → Written → List (String Global) → List Rule → Result RuleNo AllocError → Type 0
Wrote names rules w after more (Ok number) =
    (texts after ≡ enter_rule (texts names) w) × (more ≡ rules ++ (number_rule (texts after) w ∷ [])) × (number.0 ≡ length rules + 1) × Extends names after
Wrote names rules w after more (Err e) = (more ≡ rules) × Extends names after
