-- A rule file says a list of rules exactly if it is their text, and the text of rules within the limits is short.
use Rattle.std.proofs.Common.{◌≡◌, ℕ, ◌*◌, ◌<◌, ◌≤◌, Bool, true, false, cond, ltb, List, [], ◌∷◌, ◌++◌, map, length, Some, None, Option, sym, refl, ap, ◌∙◌, arith, length-append}
use Rattle.std.proofs.lemmas.Bool.{and_parts, and_from, ltb-false, le-ltb, cond-false}
use Rattle.terms.specs.declared.refusal.Refusal.TheVariants.{Headless, Overfull}
use Rattle.rules.specs.Written.{Written, spelt}
use Rattle.files.specs.declared.columns.RuleColumn.{RuleColumn}
use Rattle.files.specs.Parts.{split, joined, ended}
use Rattle.files.specs.RuleFiles.{rules, fault, comma, line_end, most_bytes, column_name, each_once, column_order, lines_outcome, parts_outcome, file_outcome}
use Rattle.files.specs.RuleTexts.{cell, rule_line, rule_text, all_spelt, Limited, TextOf}
use Rattle.files.proofs.Texts.{lacks, all_lack}
use Rattle.files.proofs.Splits.{joined_split, joined_ended, split_ended}
use Rattle.files.proofs.Names.{column_label}
use Rattle.files.proofs.Limits.{none_limited}
use Rattle.files.proofs.Rows.{row_lacks, row_short}
use Rattle.files.proofs.Values.{cell_label}
use Rattle.files.proofs.Lines.{fault_rules, lines_say, lines_said}
use Rattle.files.proofs.Heads.{order_says, order_said}

-- A file says these rules exactly if it is their text.
abbrev pub SaysItsText : Type 0
SaysItsText = (bytes : List ℕ) (ws : List Written) → (file_outcome bytes ≡ rules ws → TextOf bytes ws) × (TextOf bytes ws → file_outcome bytes ≡ rules ws)

-- The text of rules within the limits is never too long for a file.
abbrev pub TextsAreShort : Type 0
TextsAreShort = (cs : List RuleColumn) (ws : List Written) → each_once cs ≡ true → Limited ws → length (rule_text cs ws) ≤ most_bytes

-- The lines of a text: the names line, and a line for each rule.
abbrev lines : List RuleColumn → List Written → List (List ℕ)
lines cs ws = joined comma (map column_name cs) ∷ map (rule_line cs) ws

-- ---- what a file says is its text

-- The parts of a file are the lines of the rules, and an empty part.
record LinesOf (parts : List (List ℕ)) (ws : List Written) : Type 0 where
  pub order : List RuleColumn
  pub once : each_once order ≡ true
  pub text : parts ≡ lines order ws ++ ([] ∷ [])
  pub limited : Limited ws

parts_say : (parts : List (List ℕ)) (ws : List Written) → parts_outcome parts ≡ rules ws → LinesOf parts ws
parts_say [] ws h = absurd (fault_rules Headless 1 0 ws h)
parts_say (line ∷ []) ws h = absurd (fault_rules Headless 1 0 ws h)
parts_say (line ∷ next ∷ rest) ws h = go (column_order line) refl h
  where
    go : (o : Option (List RuleColumn)) → column_order line ≡ o →
        elim o [ None ↦ fault Headless 1 0 | Some cs ↦ lines_outcome cs 2 [] (next ∷ rest) ] ≡ rules ws → LinesOf (line ∷ next ∷ rest) ws
    go None e h = absurd (fault_rules Headless 1 0 ws h)
    go (Some cs) e h =
        let head = order_says line cs e in
        let said = lines_say cs head.0 2 [] (next ∷ rest) ws (omega arith) none_limited h in
        let all : next ∷ rest ≡ map (rule_line cs) ws ++ ([] ∷ []) =
        said.text ∙ ap (λ (vs : List Written). map (rule_line cs) vs ++ ([] ∷ [])) (sym said.after) in
        record { order = cs; once = head.0; text = λ i. (head.1 i) ∷ (all i); limited = said.limited }

file_says : (bytes : List ℕ) (ws : List Written) → file_outcome bytes ≡ rules ws → TextOf bytes ws
file_says bytes ws h = go (ltb most_bytes (length bytes)) refl h
  where
    go : (b : Bool) → ltb most_bytes (length bytes) ≡ b → cond b (fault Overfull 0 0) (parts_outcome (split line_end bytes)) ≡ rules ws → TextOf bytes ws
    go true e h = absurd (fault_rules Overfull 0 0 ws h)
    go false e h =
        let said = parts_say (split line_end bytes) ws h in
        record {
          order = said.order;
          once = said.once;
          text = sym (joined_split line_end bytes) ∙ ap (joined line_end) said.text ∙ joined_ended line_end (lines said.order ws);
          limited = said.limited;
          short = ltb-false most_bytes (length bytes) e;
        }

-- ---- what is a text says its rules

rules_lack : (cs : List RuleColumn) (ws : List Written) → all_spelt ws ≡ true → all_lack line_end (map (rule_line cs) ws) ≡ true
rules_lack cs [] h = refl
rules_lack cs (w ∷ ws) h =
    let p = and_parts (spelt w) (all_spelt ws) h in
    and_from (lacks line_end (rule_line cs w)) _ (row_lacks (λ c. cell c w) (cell_label w p.0) cs) (rules_lack cs ws p.1)

-- No line has a line end within it.
lines_lack : (cs : List RuleColumn) (ws : List Written) → all_spelt ws ≡ true → all_lack line_end (lines cs ws) ≡ true
lines_lack cs ws h = and_from (lacks line_end (joined comma (map column_name cs))) _ (row_lacks column_name column_label cs) (rules_lack cs ws h)

-- A names line before other parts.
parts_next : (line : List ℕ) (parts : List (List ℕ)) (cs : List RuleColumn) → 0 < length parts → column_order line ≡ Some cs →
    parts_outcome (line ∷ parts) ≡ lines_outcome cs 2 [] parts
parts_next line [] cs l h = absurd (omega arith)
parts_next line (next ∷ rest) cs l h =
    ap (λ (o : Option (List RuleColumn)). elim o [ None ↦ fault Headless 1 0 | Some ds ↦ lines_outcome ds 2 [] (next ∷ rest) ]) h

parts_said : (cs : List RuleColumn) (ws : List Written) → each_once cs ≡ true → Limited ws → parts_outcome (lines cs ws ++ ([] ∷ [])) ≡ rules ws
parts_said cs ws once o =
    parts_next (joined comma (map column_name cs)) (map (rule_line cs) ws ++ ([] ∷ [])) cs (simp length-append (omega arith)) (order_said cs once)
    ∙ lines_said cs once 2 [] ws o

file_said : (bytes : List ℕ) (ws : List Written) → TextOf bytes ws → file_outcome bytes ≡ rules ws
file_said bytes ws t =
    cond-false (ltb most_bytes (length bytes)) (fault Overfull 0 0) (parts_outcome (split line_end bytes)) (le-ltb most_bytes (length bytes) t.short)
    ∙ ap (λ (bs : List ℕ). parts_outcome (split line_end bs)) t.text
    ∙ ap parts_outcome (split_ended line_end (lines t.order ws) (lines_lack t.order ws t.limited.names))
    ∙ parts_said t.order ws t.once t.limited

pub says_its_text : SaysItsText
says_its_text bytes ws = (file_says bytes ws, file_said bytes ws)

-- ---- texts are short

rules_short : (cs : List RuleColumn) → each_once cs ≡ true → (ws : List Written) → all_spelt ws ≡ true →
    length (ended line_end (map (rule_line cs) ws)) ≤ length ws * 69
rules_short cs once [] h = omega arith
rules_short cs once (w ∷ ws) h =
    let p = and_parts (spelt w) (all_spelt ws) h in
    rw (length-append (rule_line cs w) (line_end ∷ ended line_end (map (rule_line cs) ws)))
    (omega (arith, row_short (λ c. cell c w) (cell_label w p.0) cs once, rules_short cs once ws p.1))

pub texts_are_short : TextsAreShort
texts_are_short cs ws once o =
    rw (length-append (joined comma (map column_name cs)) (line_end ∷ ended line_end (map (rule_line cs) ws)))
    (omega (arith, row_short column_name column_label cs once, rules_short cs once ws o.names, o.few_rules))
