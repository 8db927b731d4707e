use Rattle.std.proofs.Common.{rules, ◌≡◌, length, get_or, inl, inr, arith}
use Rattle.moments.specs.Laws.DayTexts.{day-length, day_leading, day_digits, day_no_digits}
use Rattle.moments.proofs.day.DayMoment.read.Goals as goal
use Rattle.moments.proofs.day.DayMoment.read.Goals.{in_default-via-then-field-lt2, in_default-via-else-field-lt2+in_default-1}

pub returns-in-empty : goal.returns-in-empty
returns-in-empty c = day-length c.args.field.now (inl (omega arith))

pub returns-in-48 : goal.returns-in-48
returns-in-48 c = day_leading c.args.field.now (search rules) (omega arith)

pub returns-in_default : goal.returns-in_default
returns-in_default c = day-length c.args.field.now (inr (omega arith))

pub returns-in_err-number-in_default-2 : goal.returns-in_err-number-in_default-2
returns-in_err-number-in_default-2 c = rw c.from_residual.ensures (day_no_digits c.args.field.now c.in_err-number-in_default-2.ensures)

pub returns-in_ok-number-in_default-2 : goal.returns-in_ok-number-in_default-2
returns-in_ok-number-in_default-2 c =
    let front : get_or c.args.field.now 0 0 ≡ 48 → length c.args.field.now ≡ 1 = λ z. elim c.in_default.branch [
      | in_default-via-then-field-lt2 w ↦ search rules
      | in_default-via-else-field-lt2+in_default-1 w ↦ search rules
    ] in
    let d = c.in_ok-number-in_default-2.ensures in
    day_digits c.args.field.now c.in_ok-number-in_default-2.field-0 (search rules) (omega arith) front d.0 d.1
