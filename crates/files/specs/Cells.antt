-- A line cut into four fields.
use Rattle.std.specs.Prelude.{◌≡◌, ℕ, false, List, map, length, ◌==◌}
use Rattle.files.specs.declared.parts.Line.{Line}
use Rattle.files.specs.declared.cells.Cells.{Cells}
use Rattle.files.specs.declared.fault.LineFault.{LineFault}
use Rattle.files.specs.declared.fault.LineFault.TheVariants.{Ragged}
use Rattle.files.specs.Parts.{split}
use Rattle.files.specs.RuleFiles.{comma}

-- The bytes of the four, from the left.
abbrev pub bytes_in : Cells → List (List ℕ)
bytes_in f = map (λ p. p.bytes.now) f.parts

-- These are all the fields of the line.
pub record FourTaken (line : Line) (f : Cells) : Type 0 where
  pub fields : split comma line.bytes.now ≡ bytes_in f
  pub number : f.line ≡ line.number

-- The line has another number of fields.
pub record NotFour (line : Line) (fault : LineFault) : Type 0 where
  pub count : (length (split comma line.bytes.now) == 4) ≡ false
  pub what : fault ≡ Ragged line.number
