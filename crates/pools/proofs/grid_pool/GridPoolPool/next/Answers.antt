use Rattle.std.proofs.Common.{rules, arith}
use Rattle.pools.specs.Cells.{has_bit}
use Rattle.pools.specs.GridPools.{words_of}
use Rattle.pools.proofs.Scans.{next_found, next_past, from_later}
use Rattle.pools.proofs.grid_pool.GridPoolPool.next.Goals as goal

pub returns-then-after-self : goal.returns-then-after-self
returns-then-after-self c =
    let g = c.args.self.now in
    next_past (has_bit g.measure.places (words_of g)) c.args.after g.measure.places g.measure.labels (omega arith)

pub returns-in-Some : goal.returns-in-Some
returns-in-Some c =
    let g = c.args.self.now in
    let f = has_bit g.measure.places (words_of g) in
    rw (next_found f c.args.after g.measure.places c.max-later_end.result (from_later f c.args.after c.max-later_end.result (search rules)) g.measure.labels (omega arith), ← c.in-Some.ensures)

pub returns-in-Some-scan_starts : goal.returns-in-Some-scan_starts
returns-in-Some-scan_starts c =
    let g = c.args.self.now in
    let f = has_bit g.measure.places (words_of g) in
    rw (next_found f c.args.after g.measure.places c.max-later_end.result (from_later f c.args.after c.max-later_end.result (search rules)) g.measure.labels (omega arith), ← c.in_default.ensures, ← c.in-Some-scan_starts.ensures)

pub returns : goal.returns
returns c =
    let g = c.args.self.now in
    let f = has_bit g.measure.places (words_of g) in
    rw (next_found f c.args.after g.measure.places c.max-later_end.result (from_later f c.args.after c.max-later_end.result (search rules)) g.measure.labels (omega arith), ← c.in_default.ensures, ← c.in_default-scan_starts.ensures) c.scan_labels.ensures
