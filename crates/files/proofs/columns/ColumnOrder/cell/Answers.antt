use Rattle.std.proofs.Common.{sym, ◌∙◌}
use Rattle.files.proofs.Orders.{once_four, once_has, has_place, under_place}
use Rattle.files.proofs.Reading.{four_parts}
use Rattle.files.proofs.columns.ColumnOrder.cell.Goals as goal

pub unwrap-requires : goal.unwrap-requires
unwrap-requires c = rw c.place.ensures (has_place c.args.column c.args.self.columns (once_has c.args.self.columns c.args.self.once c.args.column))

pub returns : goal.returns
returns c =
    under_place c.args.column c.args.self.columns c.args.cells.parts c.unwrap.result _
    (once_four c.args.self.columns c.args.self.once ∙ sym (four_parts c.args.cells)) (sym c.place.ensures ∙ c.unwrap.ensures)
