use Rattle.std.proofs.Common.{◌≡◌, ◌+◌, map, length}
use Rattle.files.specs.Cells.{bytes_in}
use Rattle.files.specs.RuleFiles.{first_misfit}
use Rattle.files.proofs.Reading.{StandFrom}
use Rattle.files.proofs.rule_file.check_cells.Given as goal

-- Up to here no field was wrong, and the parts that are left stand in the columns from here on.
abbrev pub invariant-loop-column : goal.invariant-loop-column
invariant-loop-column l = record {
  same : first_misfit 1 l.fn.order.columns (bytes_in l.fn.cells) ≡ first_misfit (1 + length l.yielded) l.column-iterator.a.rest.now (map (λ p. p.bytes.now) l.column-iterator.b.rest.now);
  placed : StandFrom l.fn.cells.line (1 + length l.yielded) l.column-iterator.b.rest.now;
}
