use Rattle.std.proofs.Common.{◌≡◌, true}
use Rattle.rules.specs.Drafts.{drafted}
use Rattle.files.specs.Cursors.{lines_left, any_left}
use Rattle.files.specs.RuleFiles.{lines_outcome}
use Rattle.files.proofs.Following.{Fore}
use Rattle.files.proofs.rule_file.read_lines.Given as goal

-- What is left says what the whole said, and what was taken says the rules of the draft.
abbrev pub invariant-loop-line : goal.invariant-loop-line
invariant-loop-line l = record {
  same : lines_outcome l.order.columns l.fn.lines.number (drafted l.initial.draft) (lines_left l.fn.lines) ≡ lines_outcome l.order.columns l.line-iterator.number (drafted l.draft) (lines_left l.line-iterator);
  fore : any_left (lines_left l.line-iterator) ≡ true → Fore l.order.columns l.fn.lines.number (drafted l.initial.draft) (lines_left l.fn.lines) l.line-iterator.number (drafted l.draft) (lines_left l.line-iterator);
}
