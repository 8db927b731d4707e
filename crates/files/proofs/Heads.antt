-- The names line and the order that it gives.
use Rattle.std.proofs.Common.{◌≡◌, ℕ, Bool, true, false, cond, List, map, Some, None, Option, sym, refl, ap, ◌∙◌}
use Rattle.std.proofs.lemmas.Bool.{cond-true}
use Rattle.files.specs.declared.columns.RuleColumn.{RuleColumn}
use Rattle.files.specs.Parts.{split, joined}
use Rattle.files.specs.RuleFiles.{comma, column_name, columns_named, column_order, each_once}
use Rattle.files.proofs.Fielding.{settled}
use Rattle.files.proofs.Splits.{joined_split}
use Rattle.files.proofs.Names.{none_some, columns_found, columns_named_lem, column_label}
use Rattle.files.proofs.Rows.{row_split}

-- A names line that gives an order has each column once, and is the line of their names.
abbrev Gives : List ℕ → List RuleColumn → Type 0
Gives line cs = (each_once cs ≡ true) × (line ≡ joined comma (map column_name cs))

pub order_says : (line : List ℕ) (cs : List RuleColumn) → column_order line ≡ Some cs → Gives line cs
order_says line cs h = go (columns_named (split comma line)) refl h
  where
    pick : (ds : List RuleColumn) (b : Bool) → columns_named (split comma line) ≡ Some ds → each_once ds ≡ b → cond b (Some ds) None ≡ Some cs →
        Gives line cs
    pick ds true e o h =
        let same : ds ≡ cs = cc in
        let names : map column_name cs ≡ split comma line = columns_named_lem (split comma line) cs (e ∙ ap Some same) in
        (ap each_once (sym same) ∙ o, sym (joined_split comma line) ∙ ap (joined comma) (sym names))
    pick ds false e o h = absurd (none_some cs h)

    go : (o : Option (List RuleColumn)) → columns_named (split comma line) ≡ o → settled o ≡ Some cs → Gives line cs
    go None e h = absurd (none_some cs h)
    go (Some ds) e h = pick ds (each_once ds) e refl h

-- The line of the names of columns gives their order.
pub order_said : (cs : List RuleColumn) → each_once cs ≡ true → column_order (joined comma (map column_name cs)) ≡ Some cs
order_said cs once =
    ap (λ (fs : List (List ℕ)). settled (columns_named fs)) (row_split column_name column_label cs once)
    ∙ ap settled (columns_found cs)
    ∙ cond-true (each_once cs) (Some cs) None once
