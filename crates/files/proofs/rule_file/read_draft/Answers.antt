use Rattle.std.proofs.lemmas.Result.{err_from_is_err_and}
use Rattle.rules.specs.Drafts.{drafted}
use Rattle.files.proofs.Opening.{file_stops}
use Rattle.files.proofs.rule_file.read_draft.Goals as goal

pub returns-in_err-read_lines : goal.returns-in_err-read_lines
returns-in_err-read_lines c =
    let p = err_from_is_err_and c.from_residual-in_err-read_lines.result c.from_residual-in_err-read_lines.ensures.1 in
    rw (p.1, p.2) (file_stops c.args.bytes.now c.new-lines.result c.if-bytes-gt-MOST_BYTES.false c.new-lines.ensures.all c.new-lines.ensures.first c.read_head.new.lines c.in_ok-order.order (drafted c.new-draft.result)
    c.in_err-read_lines.field-0.0 c.in_ok-order.ensures c.new-draft.ensures c.in_err-read_lines.ensures)
