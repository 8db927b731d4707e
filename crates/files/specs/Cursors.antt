-- What is left of a line and of a file, as their fields and lines are taken.
use Rattle.std.specs.Prelude.{◌≡◌, ℕ, ◌+◌, Bool, true, false, List, [], ◌∷◌, Some, None, Option}
use Rattle.files.specs.declared.parts.Part.{Part}
use Rattle.files.specs.declared.parts.Line.{Line}
use Rattle.files.specs.declared.parts.Fields.{Fields}
use Rattle.files.specs.declared.parts.Lines.{Lines}
use Rattle.files.specs.Parts.{parts_left}
use Rattle.files.specs.RuleFiles.{comma, line_end}

-- The fields of a line that have not been taken.
abbrev pub fields_left : Fields → List (List ℕ)
fields_left f = parts_left comma f.rest

-- The lines of a file that have not been taken; the last is what stands after the last line end.
abbrev pub lines_left : Lines → List (List ℕ)
lines_left l = parts_left line_end l.rest

-- A field was taken.
pub record FieldTaken (from to : Fields) (field : Part) : Type 0 where
  pub fields : fields_left from ≡ field.bytes.now ∷ fields_left to
  pub line : field.line ≡ from.line
  pub column : field.column ≡ from.column
  pub next_line : to.line ≡ from.line
  pub next_column : to.column ≡ from.column + 1

-- There is one more.
abbrev pub any_left : List (List ℕ) → Bool
any_left [] = false
any_left (x ∷ xs) = true

-- A line was taken. It has its line end unless it is the last.
pub record LineTaken (from to : Lines) (line : Line) : Type 0 where
  pub lines : lines_left from ≡ line.bytes.now ∷ lines_left to
  pub number : line.number ≡ from.number
  pub ended : line.ended ≡ any_left (lines_left to)
  pub next_number : to.number ≡ from.number + 1

-- A line was taken, or there was none.
abbrev pub NextLine : Lines → Option Line → Lines → Type 0
NextLine from None to = lines_left from ≡ []
NextLine from (Some line) to = LineTaken from to line
