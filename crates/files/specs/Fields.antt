-- What a field of a rule file is to say, and what is wrong with it.
use Rattle.std.specs.Prelude.{cond, is_some, Some, None, Option}
use Rattle.rules.specs.Labels.{is_label}
use Rattle.rules.specs.Relations.{relation_named}
use Rattle.files.specs.declared.parts.Part.{Part}
use Rattle.files.specs.declared.columns.RuleColumn.{RuleColumn}
use Rattle.files.specs.declared.columns.RuleColumn.TheVariants as column
use Rattle.files.specs.declared.field.Field.{Field}
use Rattle.files.specs.declared.field.Field.TheVariants.{Label, How, Act, When}
use Rattle.files.specs.declared.fault.FieldFault.{FieldFault}
use Rattle.files.specs.declared.fault.FieldFlaw.{FieldFlaw}
use Rattle.files.specs.declared.fault.FieldFlaw.TheVariants.{Misspelt, Unrelated}

-- What the part is to say under the column.
abbrev pub field_for : RuleColumn → Part → Field
field_for column.Label p = Label p
field_for column.First p = Label p
field_for column.How p = How p
field_for column.Second p = Label p

-- The part as a field that has a flaw.
abbrev pub fault_of : FieldFlaw → Part → FieldFault
fault_of f p = record { flaw = f; line = p.line; column = p.column }

-- What is wrong with it, if something is.
abbrev pub fault_in : Field → Option FieldFault
fault_in (Label p) = cond (is_label p.bytes.now) None (Some (fault_of Misspelt p))
fault_in (How p) = cond (is_some (relation_named p.bytes.now)) None (Some (fault_of Unrelated p))
-- no act and no moment stands in a rule file, so nothing is asked of one
fault_in (Act p) = None
fault_in (When p) = None
