-- What the reader of rule files promises over all files, in the words of rules and their text.
use Rattle.std.specs.Prelude.{◌≡◌, ℕ, true, false, List, is_some, Ok, Err, Result}
use Rattle.rules.specs.declared.table.Table.{Table}
use Rattle.rules.specs.Tables.{names_in, rules_in, tabled}
use Rattle.rules.specs.Words.{Free}
use Rattle.rules.specs.Written.{Written, rules_of}
use Rattle.files.specs.declared.columns.RuleColumn.{RuleColumn}
use Rattle.files.specs.declared.fault.FileFault.{FileFault}
use Rattle.files.specs.Faults.{file_told}
use Rattle.files.specs.RuleFiles.{each_once}
use Rattle.files.specs.RuleTexts.{TextOf, rule_text}

-- A file is accepted exactly when it is the text, under some order of the columns, of a list of rules that keeps the limits and has no
-- exclusive rule in a ring; the table is of those rules. (A refusal is what has a report: want of memory has none.)
abbrev pub AcceptsTexts : List ℕ → Result Table FileFault → Type 0
AcceptsTexts bytes (Ok table) = TextOf bytes (tabled table) × Free (rules_of (tabled table))
AcceptsTexts bytes (Err what) = is_some (file_told what) ≡ true → (ws : List Written) → TextOf bytes ws → Free (rules_of ws) → ⊥

-- The same names and rules, each by number.
abbrev pub SameTable : Table → Result Table FileFault → Type 0
SameTable t (Ok read) = (names_in read ≡ names_in t) × (rules_in read ≡ rules_in t)
SameTable t (Err what) = is_some (file_told what) ≡ false

-- The text of a table's rules, under any order of the columns, read back is that table.
abbrev pub ReadsBack : List ℕ → Result Table FileFault → Type 0
ReadsBack bytes r = (t : Table) (cs : List RuleColumn) → each_once cs ≡ true → bytes ≡ rule_text cs (tabled t) → SameTable t r
