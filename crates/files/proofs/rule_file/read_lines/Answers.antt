use Rattle.std.proofs.lemmas.Result.{err_from_is_err_and}
use Rattle.rules.specs.Drafts.{drafted}
use Rattle.files.specs.Cursors.{lines_left}
use Rattle.files.specs.Faults.{line_told}
use Rattle.files.proofs.Following.{step_same, step_fore, step_told}
use Rattle.files.proofs.rule_file.read_lines.Goals as goal

pub loop-line-preserved : goal.loop-line-preserved
loop-line-preserved c = record {
  same = step_same c.args.order.columns c.args.lines.number (drafted c.args.draft.now) (lines_left c.args.lines) c.loop-line.line-iterator c.next.new.self c.in-Some.line c.in-Some.ensures.steps (drafted c.loop-line.draft)
      c.loop-line.invariant.same c.loop-line.invariant.fore (drafted c.read_line.new.draft) c.in_ok-read_line.ensures;
  fore = step_fore c.args.order.columns c.args.lines.number (drafted c.args.draft.now) (lines_left c.args.lines) c.loop-line.line-iterator c.next.new.self c.in-Some.line c.in-Some.ensures.steps (drafted c.loop-line.draft)
      c.loop-line.invariant.same c.loop-line.invariant.fore (drafted c.read_line.new.draft) c.in_ok-read_line.ensures;
}

pub returns-in_err-read_line : goal.returns-in_err-read_line
returns-in_err-read_line c =
    let p = err_from_is_err_and c.from_residual.result c.from_residual.ensures.1 in
    rw (p.1, p.2) (step_told c.args.order.columns c.args.lines.number (drafted c.args.draft.now) (lines_left c.args.lines) c.loop-line.line-iterator c.next.new.self c.in-Some.line c.in-Some.ensures.steps (drafted c.loop-line.draft)
    c.loop-line.invariant.same c.loop-line.invariant.fore (line_told c.in_err-read_line.field-0.0) c.in_err-read_line.ensures)
