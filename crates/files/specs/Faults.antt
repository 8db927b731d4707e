-- What each fault says: its refusal with line and column, each 0 where it does not apply. Want of memory is no refusal.
use Rattle.std.specs.Prelude.{ℕ, ◌+◌, Some, None, Option}
use Rattle.terms.specs.declared.refusal.Refusal.{Refusal}
use Rattle.terms.specs.declared.refusal.Refusal.TheVariants as refusal
use Rattle.rules.specs.declared.draft.AddFault.{AddFault}
use Rattle.rules.specs.declared.draft.AddFault.TheVariants as add
use Rattle.rules.specs.declared.table.CloseFault.{CloseFault}
use Rattle.rules.specs.declared.table.CloseFault.TheVariants as close
use Rattle.files.specs.declared.fault.Report.{Report}
use Rattle.files.specs.declared.fault.FieldFault.{FieldFault}
use Rattle.files.specs.declared.fault.FieldFlaw.{FieldFlaw}
use Rattle.files.specs.declared.fault.FieldFlaw.TheVariants.{Misspelt, Unrelated, NoAct, Undated, Stranger}
use Rattle.files.specs.declared.fault.LineFault.{LineFault}
use Rattle.files.specs.declared.fault.LineFault.TheVariants as ofLine
use Rattle.files.specs.declared.fault.LineFault.TheVariants.{Unended, Ragged, Overfull, Field}
use Rattle.files.specs.declared.fault.FileFault.{FileFault}
use Rattle.files.specs.declared.fault.FileFault.TheVariants as ofFile
use Rattle.files.specs.declared.fault.FileFault.TheVariants.{Overlong, Headless, Line, Ringed}

abbrev pub reported : Refusal → ℕ → ℕ → Report
reported r line column = record { refusal = r; line = line; column = column }

abbrev pub flaw_told : FieldFlaw → Refusal
flaw_told Misspelt = refusal.Misspelt
flaw_told Unrelated = refusal.Unrelated
flaw_told NoAct = refusal.NoAct
flaw_told Undated = refusal.Undated
flaw_told Stranger = refusal.Stranger

abbrev pub field_told : FieldFault → Report
field_told fault = reported (flaw_told fault.flaw) fault.line fault.column

abbrev pub line_told : LineFault → Option Report
line_told (Unended line) = Some (reported refusal.Unended line 0)
line_told (Ragged line) = Some (reported refusal.Ragged line 0)
line_told (Overfull line) = Some (reported refusal.Overfull line 0)
line_told (Field fault) = Some (field_told fault)
line_told ofLine.OutOfMemory = None

abbrev pub file_told : FileFault → Option Report
file_told Overlong = Some (reported refusal.Overfull 0 0)
file_told Headless = Some (reported refusal.Headless 1 0)
file_told (Line fault) = line_told fault
file_told (Ringed line) = Some (reported refusal.Ringed line 0)
file_told ofFile.OutOfMemory = None

-- The fault of a file whose rules do not close: the names line is the first, so rule 1 stands in line 2.
abbrev pub unclosed : CloseFault → FileFault
unclosed (close.Ringed who) = Ringed (who.0 + 1)
unclosed close.OutOfMemory = ofFile.OutOfMemory

-- The fault of a line whose rule was not added, where its labels are labels.
abbrev pub unadded : AddFault → ℕ → LineFault
unadded (add.Refused why) line = Overfull line
unadded add.OutOfMemory line = ofLine.OutOfMemory
