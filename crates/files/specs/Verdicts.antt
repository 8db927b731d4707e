-- The text that tells of a rule file: the numbers of what was accepted, or the refusal.
use Rattle.std.specs.Prelude.{◌≡◌, ⊤, ℕ, List, [], ◌∷◌, ◌++◌, length, Some, Ok, Err, Result, String, string_bytes, codes, decimal}
use Rattle.std.specs.declared.alloc.Global.{Global}
use Rattle.std.specs.declared.io.ErrorKind.{ErrorKind}
use Rattle.std.specs.declared.io.ErrorKind.TheVariants as kind
use Rattle.terms.specs.Refusals.{number_of}
use Rattle.rules.specs.declared.table.Table.{Table}
use Rattle.rules.specs.Tables.{names_in, rules_in, groups_in, Closed}
use Rattle.files.specs.declared.fault.FileFault.{FileFault}
use Rattle.files.specs.declared.fault.Report.{Report}
use Rattle.files.specs.declared.telling.CheckFault.{CheckFault}
use Rattle.files.specs.declared.telling.CheckFault.TheVariants.{Refused, OutOfMemory}
use Rattle.files.specs.Answers.{Answers}
use Rattle.files.specs.Faults.{file_told}
use Rattle.files.specs.RuleFiles.{comma, line_end}

-- A line of names, and a line of numbers below it.
abbrev pub counts_text : ℕ → ℕ → ℕ → List ℕ
counts_text rules labels groups =
    codes "rules,labels,groups" ++ (line_end ∷ (decimal rules ++ (comma ∷ (decimal labels ++ (comma ∷ (decimal groups ++ (line_end ∷ [])))))))

-- The refusal's number, the file's number, the line and the column.
abbrev pub refusal_text : ℕ → Report → List ℕ
refusal_text file r =
    codes "refused,file,line,column" ++ (line_end ∷ (decimal (number_of r.refusal) ++ (comma ∷ (decimal file ++ (comma ∷ (decimal r.line ++ (comma ∷ (decimal r.column ++ (line_end ∷ [])))))))))

-- A rule file was accepted, and these are the numbers of its table.
pub record AcceptedAs (bytes : List ℕ) (text : List ℕ) : Type 0 where
  pub table : Table
  pub says : Answers bytes (Ok table)
  pub closed : Closed table
  pub written : text ≡ counts_text (length (rules_in table)) (length (names_in table)) (length (groups_in table))

-- It was refused, and this is the refusal. A rule file is file 1.
pub record RefusedAs (bytes : List ℕ) (text : List ℕ) : Type 0 where
  pub what : FileFault
  pub report : Report
  pub says : Answers bytes (Err what)
  pub told : file_told what ≡ Some report
  pub written : text ≡ refusal_text 1 report

-- The text is that of the file, accepted or refused. Of a want of memory nothing is said.
abbrev pub VerdictOf : List ℕ → Result (String Global) CheckFault → Type 0
VerdictOf bytes (Ok text) = AcceptedAs bytes (string_bytes text)
VerdictOf bytes (Err (Refused text)) = RefusedAs bytes (string_bytes text)
VerdictOf bytes (Err OutOfMemory) = ⊤

-- What a fault shows of itself: the text to write of a refused file.
abbrev pub fault_text : CheckFault → List ℕ
fault_text (Refused text) = string_bytes text
fault_text OutOfMemory = codes "not enough memory"

-- The kind of the input error that a fault goes into.
abbrev pub fault_kind : CheckFault → ErrorKind
fault_kind (Refused text) = kind.InvalidData
fault_kind OutOfMemory = kind.OutOfMemory
