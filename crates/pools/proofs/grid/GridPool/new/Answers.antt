use Rattle.std.proofs.Common.{◌≤◌, length, rules, arith}
use Rattle.std.proofs.lemmas.Grind.{common_steps}
use Rattle.pools.specs.Cells.{needed}
use Rattle.pools.proofs.GridPuts.{laid, wiped}
use Rattle.pools.proofs.grid.GridPool.new.Goals as goal

pub invariant_of-result : goal.invariant_of-result
invariant_of-result c =
    let m = c.unwrap_or-measure.result in
    let enough : needed m.labels m.places ≤ length c.args.words.now = grind (arith, common_steps) in
    let w = wiped m.labels m.places c.args.words.now c.wipe.new.self.words.now enough (search rules) in
    record { enough = w.enough; counted = w.counted; spare = w.spare }

pub returns-clause-laid : goal.returns-clause-laid
returns-clause-laid c =
    let m = c.unwrap_or-measure.result in
    let enough : needed m.labels m.places ≤ length c.args.words.now = grind (arith, common_steps) in
    let w = wiped m.labels m.places c.args.words.now c.wipe.new.self.words.now enough (search rules) in
    laid m.labels m.places c.wipe.new.self.words.now c.args.words.now w.spare w.later
