-- What reading answers, against what a file says.
use Rattle.std.specs.Prelude.{◌≡◌, ℕ, ◌+◌, ◌≤◌, Bool, true, false, cond, List, [], ◌∷◌, ◌++◌, length, Some, None, Ok, Err, Option, Result, ◌==◌}
use Rattle.terms.specs.declared.refusal.Refusal.{Refusal}
use Rattle.terms.specs.declared.refusal.Refusal.TheVariants as refusal
use Rattle.terms.specs.declared.refusal.Refusal.TheVariants.{Unended, Overfull}
use Rattle.terms.specs.declared.numbers.RuleNo.{RuleNo}
use Rattle.rules.specs.declared.rule.RuleWords.{RuleWords}
use Rattle.rules.specs.Drafts.{said_by}
use Rattle.rules.specs.Written.{Written, spelt, room_for, rules_of}
use Rattle.rules.specs.declared.table.Table.{Table}
use Rattle.rules.specs.Tables.{tabled}
use Rattle.rules.specs.Words.{Free, LowestBarred}
use Rattle.files.specs.declared.parts.Part.{Part}
use Rattle.files.specs.declared.parts.Lines.{Lines}
use Rattle.files.specs.declared.cells.Cells.{Cells}
use Rattle.files.specs.declared.columns.RuleColumn.{RuleColumn}
use Rattle.files.specs.declared.columns.ColumnOrder.{ColumnOrder}
use Rattle.files.specs.declared.fault.FieldFault.{FieldFault}
use Rattle.files.specs.declared.fault.LineFault.{LineFault}
use Rattle.files.specs.declared.fault.FileFault.{FileFault}
use Rattle.files.specs.declared.fault.FileFault.TheVariants.{Overlong, Headless, Line, Ringed, OutOfMemory}
use Rattle.files.specs.declared.fault.Report.{Report}
use Rattle.files.specs.RuleFiles.{Outcome, rules, fault, fits, misfit, first_misfit, rule_in, line_outcome, parts_outcome, file_outcome, column_order, line_end, most_bytes}
use Rattle.files.specs.Parts.{split}
use Rattle.files.specs.Cells.{bytes_in}
use Rattle.files.specs.Cursors.{lines_left, any_left}
use Rattle.files.specs.Faults.{field_told, line_told, reported}

-- The outcome is the fault that is told. Where none is told, there was no memory for one more rule that nothing refuses.
abbrev pub Told : List Written → Outcome → Option Report → Type 0
Told ws outcome None = (last : Written) × (outcome ≡ rules (ws ++ (last ∷ [])))
Told ws outcome (Some r) = outcome ≡ fault r.refusal r.line r.column

-- The field is wrong under the column.
pub record MisfitAt (column : RuleColumn) (cell : Part) (what : FieldFault) : Type 0 where
  pub wrong : fits column cell.bytes.now ≡ false
  pub told : field_told what ≡ reported (misfit column) cell.line cell.column

-- The first wrong field of the line.
pub record Misfits (order : ColumnOrder) (cells : Cells) (what : FieldFault) : Type 0 where
  pub refusal : Refusal
  pub column : ℕ
  pub first : first_misfit 1 order.columns (bytes_in cells) ≡ Some (refusal, column)
  pub told : field_told what ≡ reported refusal cells.line column

-- No field is wrong, and these are the words of the rule.
pub record Reads (order : ColumnOrder) (cells : Cells) (words : RuleWords) : Type 0 where
  pub right : first_misfit 1 order.columns (bytes_in cells) ≡ None
  pub rule : said_by words ≡ rule_in order.columns (bytes_in cells)
  pub labels : spelt (said_by words) ≡ true

-- After the rules ws reading goes on with more, or stops at the fault.
abbrev pub GoesOn : {T : Type 0} → List Written → Outcome → List Written → Result T LineFault → Type 0
GoesOn ws outcome more (Ok x) = outcome ≡ rules more
GoesOn ws outcome more (Err what) = Told ws outcome (line_told what)

-- The first lines, up to one, say rules, one at least.
pub record Fronted (says : List (List ℕ) → Outcome) (parts : List (List ℕ)) : Type 0 where
  pub front : List (List ℕ)
  pub back : List (List ℕ)
  pub cut : parts ≡ front ++ back
  pub before : List Written
  pub last : Written
  pub says_rules : says (front ++ ([] ∷ [])) ≡ rules (before ++ (last ∷ []))

-- What the lines say is the fault that is told. Where none is told, there was no memory for a rule that nothing refuses.
abbrev pub ToldOf : (List (List ℕ) → Outcome) → List (List ℕ) → Option Report → Type 0
ToldOf says parts None = Fronted says parts
ToldOf says parts (Some r) = says parts ≡ fault r.refusal r.line r.column

-- The lines were read to the end, or up to the fault.
abbrev pub GoesThrough : {T : Type 0} → (List (List ℕ) → Outcome) → List (List ℕ) → List Written → Result T LineFault → Type 0
GoesThrough says parts ws (Ok x) = says parts ≡ rules ws
GoesThrough says parts ws (Err what) = ToldOf says parts (line_told what)

-- One more rule, in the line n.
abbrev pub add_outcome : ℕ → List Written → Written → Outcome
add_outcome n ws w = cond (room_for ws w) (rules (ws ++ (w ∷ []))) (fault Overfull n 0)

-- A line that has its end, or what stands after the last line end.
abbrev pub rest_outcome : List RuleColumn → ℕ → List Written → Bool → List ℕ → Outcome
rest_outcome cs n ws true line = line_outcome cs n ws line
rest_outcome cs n ws false line = cond (length line == 0) (rules ws) (fault Unended n 0)

-- The names line was read: the order that it gives, and the lines after it.
pub record HeadRead (from to : Lines) (order : ColumnOrder) : Type 0 where
  pub names : List ℕ
  pub lines : lines_left from ≡ names ∷ lines_left to
  pub any : any_left (lines_left to) ≡ true
  pub gives : column_order names ≡ Some order.columns
  pub next_number : to.number ≡ from.number + 1

-- There is none, or it is wrong.
pub record HeadWrong (from : Lines) (what : FileFault) : Type 0 where
  pub says : parts_outcome (lines_left from) ≡ fault refusal.Headless 1 0
  pub is : what ≡ Headless

-- What is answered of a file that is refused.
abbrev pub Refuses : List ℕ → FileFault → Type 0
Refuses bytes Overlong = file_outcome bytes ≡ fault refusal.Overfull 0 0
Refuses bytes Headless = file_outcome bytes ≡ fault refusal.Headless 1 0
Refuses bytes (Line what) = (length bytes ≤ most_bytes) × ToldOf parts_outcome (split line_end bytes) (line_told what)
-- the file says rules, of which the one in that line is the lowest exclusive rule in a ring; the line of rule 1 is 2
Refuses bytes (Ringed line) = (ws : List Written) × (who : RuleNo) × (file_outcome bytes ≡ rules ws) × LowestBarred (rules_of ws) who × (line ≡ who.0 + 1)
-- no memory for the table of the rules that the file says, of which no exclusive one is in a ring
Refuses bytes OutOfMemory = (ws : List Written) × (file_outcome bytes ≡ rules ws) × Free (rules_of ws)

-- A table is of the rules that the file says.
abbrev pub Answers : List ℕ → Result Table FileFault → Type 0
Answers bytes (Ok table) = file_outcome bytes ≡ rules (tabled table)
Answers bytes (Err what) = Refuses bytes what
