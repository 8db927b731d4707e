use Rattle.std.proofs.Common.{ℕ, ◌<◌, subst, sym, ◌∙◌, ap, arith}
use Rattle.std.specs.Char.{digit_value}
use Rattle.moments.specs.Laws.Numerals.{not_digits, number_fits, number_more}
use Rattle.moments.proofs.digits.number.Goals as goal

pub returns-in_err-n : goal.returns-in_err-n
returns-in_err-n c =
    rw c.from_residual.ensures
    (not_digits c.args.digits.now c.loop-d.d-index (omega arith) (λ d. c.in_err-n.ensures.value (subst (λ (b : ℕ). digit_value b < 10) (sym c.from.ensures) d)))

pub overflow_mul-n : goal.overflow_mul-n
overflow_mul-n c =
    let b = number_fits c.args.digits.now c.loop-d.d-index c.loop-d.n c.requires (omega arith) c.loop-d.invariant.0 c.loop-d.invariant.1 in
    omega arith

pub overflow_add-n : goal.overflow_add-n
overflow_add-n c =
    let b = number_fits c.args.digits.now c.loop-d.d-index c.loop-d.n c.requires (omega arith) c.loop-d.invariant.0 c.loop-d.invariant.1 in
    let d = c.in_ok-n.ensures.value in
    omega arith

pub loop-d-preserved : goal.loop-d-preserved
loop-d-preserved c =
    let d = c.in_ok-n.ensures.value in
    number_more c.args.digits.now c.loop-d.d-index c.loop-d.n c.in_ok-n.field-0 (omega arith) c.loop-d.invariant.0 c.loop-d.invariant.1
    (subst (λ (b : ℕ). digit_value b < 10) c.from.ensures d.0) (d.1 ∙ ap digit_value c.from.ensures)
