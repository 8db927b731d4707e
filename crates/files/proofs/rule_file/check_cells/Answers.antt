use Rattle.std.proofs.Common.{◌≡◌, inl, inr, refl, rules, ◌∙◌}
use Rattle.files.proofs.Reading.{cells_stand, none_left}
use Rattle.files.proofs.rule_file.check_cells.Goals as goal

pub loop-column-init : goal.loop-column-init
loop-column-init c =
    let columns : c.into_iter-column-iterator.result.a.rest.now ≡ c.args.order.columns = search rules in
    let parts : c.into_iter-column-iterator.result.b.rest.now ≡ c.args.cells.parts = search rules in
    record { same = rw (columns, parts) refl; placed = rw parts (cells_stand c.args.cells) }

pub returns : goal.returns
returns c =
    c.loop-column.invariant.same
    ∙ none_left _ c.loop-column.column-iterator.a.rest.now c.loop-column.column-iterator.b.rest.now (elim c.in-None.ensures.steps [ inl h ↦ inl h.1.0 | inr h ↦ inr h.1.0 ])
