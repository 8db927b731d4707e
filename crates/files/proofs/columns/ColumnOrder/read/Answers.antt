use Rattle.std.proofs.Common.{sym, ◌∙◌}
use Rattle.files.proofs.Fielding.{uncut_gives, cut_fields, four_named}
use Rattle.files.proofs.Reading.{four_parts}
use Rattle.files.proofs.columns.ColumnOrder.read.Goals as goal

pub returns-in_err-one : goal.returns-in_err-one
returns-in_err-one c = rw c.from_residual.ensures (sym (uncut_gives c.args.line c.read.result c.read.ensures (sym c.in_err-one.ensures.value)))

pub returns : goal.returns
returns c =
    let cells = c.in_ok-one.field-0 in
    let fields = cut_fields c.args.line c.read.result c.read.ensures cells (sym c.in_ok-one.ensures.value) in
    c.of.ensures
    ∙ sym (four_named c.args.line.bytes.now cells.parts _ _ _ _ _ (four_parts cells) fields (sym c.named.ensures ∙ c.in_ok-named.was)
    (sym c.named-2.ensures ∙ c.in_ok-named-2.was) (sym c.named-3.ensures ∙ c.in_ok-named-3.was) (sym c.named-4.ensures ∙ c.in_ok-named-4.was))
