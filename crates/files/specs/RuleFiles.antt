-- What a rule file says: its rules as they are written, or its first fault. Whether an exclusive rule is in a ring is asked afterwards.
use Rattle.std.specs.Prelude.{ℕ, ◌+◌, Bool, false, cond, ◌&&◌, ◌||◌, List, [], ◌∷◌, ◌++◌, length, is_some, Some, None, codes, Option, ◌==◌, nat_lt}
use Rattle.std.specs.Option.{unwrap_or}
use Rattle.terms.specs.declared.refusal.Refusal.{Refusal}
use Rattle.terms.specs.declared.refusal.Refusal.TheVariants.{Headless, Ragged, Misspelt, Unrelated, Overfull, Unended}
use Rattle.rules.specs.declared.relation.Relation.TheVariants.{Before}
use Rattle.std.specs.Str.{bytes_eq}
use Rattle.terms.specs.Words.{first_with}
use Rattle.rules.specs.Labels.{is_label}
use Rattle.rules.specs.Relations.{relation_named}
use Rattle.rules.specs.Written.{Written, room_for}
use Rattle.files.specs.declared.columns.RuleColumn.{RuleColumn}
use Rattle.files.specs.declared.columns.RuleColumn.TheVariants.{Label, First, How, Second}
use Rattle.files.specs.Parts.{split}

-- The byte after a line, and the byte between fields.
abbrev pub line_end : ℕ
line_end = 10

abbrev pub comma : ℕ
comma = 44

-- ---- the names line

abbrev pub column_name : RuleColumn → List ℕ
column_name Label = codes "label"
column_name First = codes "first"
column_name How = codes "how"
column_name Second = codes "second"

-- All four.
abbrev pub columns : List RuleColumn
columns = Label ∷ First ∷ How ∷ Second ∷ []

-- The column that has the name, if one has.
abbrev pub column_named : List ℕ → Option RuleColumn
column_named name = first_with column_name columns name

abbrev pub same_column : RuleColumn → RuleColumn → Bool
same_column c d = bytes_eq (column_name c) (column_name d)

abbrev pub has_column : RuleColumn → List RuleColumn → Bool
has_column c [] = false
has_column c (d ∷ ds) = same_column c d || has_column c ds

-- Four columns, and each of the four.
abbrev pub each_once : List RuleColumn → Bool
each_once cs = length cs == 4 && (has_column Label cs && (has_column First cs && (has_column How cs && has_column Second cs)))

-- The columns that the fields name, if each names one.
abbrev pub columns_named : List (List ℕ) → Option (List RuleColumn)
columns_named [] = Some []
columns_named (f ∷ fs) = elim (column_named f) [ None ↦ None | Some c ↦ elim (columns_named fs) [ None ↦ None | Some cs ↦ Some (c ∷ cs) ] ]

-- The order of the columns that a names line gives.
abbrev pub column_order : List ℕ → Option (List RuleColumn)
column_order line = elim (columns_named (split comma line)) [ None ↦ None | Some cs ↦ cond (each_once cs) (Some cs) None ]

-- ---- a line of values

-- A field is right under its column: a relation word under `how`, else a label.
abbrev pub fits : RuleColumn → List ℕ → Bool
fits Label f = is_label f
fits First f = is_label f
fits How f = is_some (relation_named f)
fits Second f = is_label f

-- The refusal of a field that is not.
abbrev pub misfit : RuleColumn → Refusal
misfit Label = Misspelt
misfit First = Misspelt
misfit How = Unrelated
misfit Second = Misspelt

-- The first field that is not right, from the left: its refusal and its column's number, which starts at k.
abbrev pub first_misfit : ℕ → List RuleColumn → List (List ℕ) → Option (Refusal × ℕ)
first_misfit k [] fs = None
first_misfit k (c ∷ cs) [] = None
first_misfit k (c ∷ cs) (f ∷ fs) = cond (fits c f) (first_misfit (k + 1) cs fs) (Some (misfit c, k))

-- The field under a column.
abbrev pub bytes_under : RuleColumn → List RuleColumn → List (List ℕ) → List ℕ
bytes_under c [] fs = []
bytes_under c (d ∷ ds) [] = []
bytes_under c (d ∷ ds) (f ∷ fs) = cond (same_column c d) f (bytes_under c ds fs)

-- The rule that the fields say, where each is right under its column.
abbrev pub rule_in : List RuleColumn → List (List ℕ) → Written
rule_in cs fs = record {
  label = bytes_under Label cs fs;
  first = bytes_under First cs fs;
  how = unwrap_or (relation_named (bytes_under How cs fs)) Before;
  second = bytes_under Second cs fs;
}

-- ---- the file

-- The rules, as they are written; or a refusal with its line and its column, each 0 where it does not apply.
pub data Outcome : Type 0 where
  rules : List Written → Outcome
  fault : Refusal → ℕ → ℕ → Outcome

-- The fields of the line n, after the rules ws.
abbrev pub fields_outcome : List RuleColumn → ℕ → List Written → List (List ℕ) → Outcome
fields_outcome cs n ws fs =
    elim (first_misfit 1 cs fs) [
      | Some m ↦ fault m.0 n m.1
      | None ↦ cond (room_for ws (rule_in cs fs)) (rules (ws ++ (rule_in cs fs ∷ []))) (fault Overfull n 0)
    ]

-- A line that has its end.
abbrev pub line_outcome : List RuleColumn → ℕ → List Written → List ℕ → Outcome
line_outcome cs n ws line = cond (length (split comma line) == 4) (fields_outcome cs n ws (split comma line)) (fault Ragged n 0)

-- The lines from the line n on; what stands after the last line end is empty, or a line without its end.
abbrev pub lines_outcome : List RuleColumn → ℕ → List Written → List (List ℕ) → Outcome
lines_outcome cs n ws [] = rules ws
lines_outcome cs n ws (line ∷ []) = cond (length line == 0) (rules ws) (fault Unended n 0)
lines_outcome cs n ws (line ∷ next ∷ rest) = elim (line_outcome cs n ws line) [
  | rules more ↦ lines_outcome cs (n + 1) more (next ∷ rest)
  | fault r i k ↦ fault r i k
]

-- The names line and what follows it.
abbrev pub parts_outcome : List (List ℕ) → Outcome
parts_outcome [] = fault Headless 1 0
parts_outcome (line ∷ []) = fault Headless 1 0
parts_outcome (line ∷ next ∷ rest) = elim (column_order line) [ None ↦ fault Headless 1 0 | Some cs ↦ lines_outcome cs 2 [] (next ∷ rest) ]

-- The most bytes that a file has.
abbrev pub most_bytes : ℕ
most_bytes = 32768

abbrev pub file_outcome : List ℕ → Outcome
file_outcome bytes = cond (nat_lt most_bytes (length bytes)) (fault Overfull 0 0) (parts_outcome (split line_end bytes))
