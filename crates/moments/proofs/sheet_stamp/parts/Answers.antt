use Rattle.std.proofs.Common.{ap, ◌∙◌, drop, arith}
use Rattle.std.proofs.lemmas.List.{drop-drop, take_all}
use Rattle.moments.specs.Laws.Stamps.{no_first_slash, no_second_slash, no_end, no_season, no_sheet, no_line, part_below, parted}
use Rattle.moments.specs.SheetStamps.{season_digits, sheet_digits, line_digits}
use Rattle.moments.proofs.sheet_stamp.parts.Goals as goal

pub returns-in_err-strip_prefix : goal.returns-in_err-strip_prefix
returns-in_err-strip_prefix c = rw c.from_residual-in_err-strip_prefix.ensures (no_first_slash c.args.field.now c.in_ok-season.rest.now c.in_ok-season.ensures.cases.2 c.in_err-strip_prefix.ensures.cases)

pub returns-in_err-line : goal.returns-in_err-line
returns-in_err-line c =
    rw c.from_residual-in_err-line.ensures
    (no_second_slash c.args.field.now c.in_ok-sheet.rest.now (c.in_ok-sheet.ensures.cases.2 ∙ ap (drop sheet_digits) (c.in_ok-strip_prefix.ensures.cases.1 ∙ ap (drop 1) c.in_ok-season.ensures.cases.2)) c.in_err-line.ensures.cases)

pub returns-then-line-ne-LINE_DIGITS : goal.returns-then-line-ne-LINE_DIGITS
returns-then-line-ne-LINE_DIGITS c =
    no_end c.args.field.now c.in_ok-line.line.now (c.in_ok-line.ensures.cases.1 ∙ ap (drop 1) (c.in_ok-sheet.ensures.cases.2 ∙ ap (drop sheet_digits) (c.in_ok-strip_prefix.ensures.cases.1 ∙ ap (drop 1) c.in_ok-season.ensures.cases.2))) c.if-line-ne-LINE_DIGITS.true

pub returns-in_err-number : goal.returns-in_err-number
returns-in_err-number c =
    rw c.from_residual-in_err-number.ensures
    (no_season c.args.field.now (rw c.in_ok-season.ensures.cases.1 at c.in_err-number.ensures))

pub returns-in_err-number-2 : goal.returns-in_err-number-2
returns-in_err-number-2 c =
    rw c.from_residual-in_err-number-2.ensures
    (no_sheet c.args.field.now (grind (arith, drop-drop)))

pub returns-in_err-number-3 : goal.returns-in_err-number-3
returns-in_err-number-3 c =
    rw c.from_residual-in_err-number-3.ensures
    (no_line c.args.field.now (let e = take_all line_digits c.in_ok-line.line.now (omega (arith, c.if-line-ne-LINE_DIGITS.false)) in grind (arith, drop-drop)))

pub overflow_cast-result : goal.overflow_cast-result
overflow_cast-result c = let b = part_below season_digits c.in_ok-number.field-0 _ (rw c.in_ok-season.ensures.cases.1 at c.in_ok-number.ensures) in omega arith

pub overflow_cast-result-2 : goal.overflow_cast-result-2
overflow_cast-result-2 c = let b = part_below sheet_digits c.in_ok-number-2.field-0 _ (rw c.in_ok-sheet.ensures.cases.1 at c.in_ok-number-2.ensures) in omega arith

pub overflow_cast-result-3 : goal.overflow_cast-result-3
overflow_cast-result-3 c = let b = part_below line_digits c.in_ok-number-3.field-0 c.in_ok-line.line.now (rw (take_all line_digits c.in_ok-line.line.now (omega (arith, c.if-line-ne-LINE_DIGITS.false))) c.in_ok-number-3.ensures) in omega arith

pub returns : goal.returns
returns c =
    parted c.args.field.now _ _ _ _ _ _ c.in_ok-season.ensures.cases c.in_ok-strip_prefix.ensures.cases c.in_ok-sheet.ensures.cases c.in_ok-line.ensures.cases c.if-line-ne-LINE_DIGITS.false _
    c.in_ok-number.ensures c.in_ok-number-2.ensures c.in_ok-number-3.ensures
