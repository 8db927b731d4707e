use Rattle.std.proofs.Common.{rules}
use Rattle.pools.specs.GridPools.{words_of}
use Rattle.pools.proofs.GridPuts.{laid, wiped}
use Rattle.pools.proofs.grid_pool.GridPoolPool.clear.Goals as goal

pub invariant_of-self : goal.invariant_of-self
invariant_of-self c =
    let g = c.args.self.now in
    let w = wiped g.measure.labels g.measure.places (words_of g) c.wipe.new.self.words.now g.enough (search rules) in
    record { enough = w.enough; counted = w.counted; spare = w.spare }

pub returns-clause-laid : goal.returns-clause-laid
returns-clause-laid c =
    let g = c.args.self.now in
    let w = wiped g.measure.labels g.measure.places (words_of g) c.wipe.new.self.words.now g.enough (search rules) in
    laid g.measure.labels g.measure.places c.wipe.new.self.words.now (words_of g) w.spare w.later
