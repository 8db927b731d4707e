use Rattle.std.proofs.Common.{sym, ◌∙◌}
use Rattle.pools.specs.GridPools.{words_of}
use Rattle.pools.proofs.GridPuts.{has_in, has_out}
use Rattle.pools.proofs.grid_pool.GridPoolPool.has.Goals as goal

pub returns-then-fits : goal.returns-then-fits
returns-then-fits c = let g = c.args.self.now in c.marks.ensures ∙ has_in g.measure.labels g.measure.places (words_of g) c.args.p (sym c.if-fits.ensures)

pub returns-else-fits : goal.returns-else-fits
returns-else-fits c = let g = c.args.self.now in c.if-fits.false ∙ has_out g.measure.labels g.measure.places (words_of g) c.args.p (sym c.if-fits.ensures)
