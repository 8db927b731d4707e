use Rattle.std.proofs.Common.{ℕ, ◌+◌, sym, refl, ap, ◌∙◌, rules, arith}
use Rattle.pools.specs.Cells.{triangular}
use Rattle.pools.specs.GridPools.{words_of}
use Rattle.pools.specs.Laws.Grids.{grid-length}
use Rattle.pools.proofs.Triangles.{tri_below, product_below}
use Rattle.pools.proofs.GridPuts.{laid, marked, word_within, grid_put_there}
use Rattle.pools.proofs.grid_pool.GridPoolPool.put.Goals as goal

pub returns-then-not-fits-clause-laid : goal.returns-then-not-fits-clause-laid
returns-then-not-fits-clause-laid c = let g = c.args.self.now in laid g.measure.labels g.measure.places (words_of g) (words_of g) g.spare refl

pub mark-requires : goal.mark-requires
mark-requires c =
    let g = c.args.self.now in
    rw c.bit_of.ensures (word_within g.measure.labels g.measure.places (words_of g) c.args.p (sym c.if-not-fits.ensures) g.enough)

pub overflow_add-self : goal.overflow_add-self
overflow_add-self c =
    let g = c.args.self.now in
    let t = tri_below g.measure.places (omega (arith, g.measure.few_places)) in
    let q = product_below g.measure.labels 32 (triangular g.measure.places) g.measure.few_labels t (omega arith) in
    record { fits = omega (arith, g.counted, grid-length g.measure.labels g.measure.places (words_of g)) }

pub invariant_of-self : goal.invariant_of-self
invariant_of-self c =
    let g = c.args.self.now in
    let k = marked g.measure.labels g.measure.places (words_of g) c.args.p c.mark.new.self.words.now (sym c.if-not-fits.ensures) (sym c.if-not-marks.ensures) g.enough g.spare (search rules) in
    record { enough = k.enough; counted = ap (λ (n : ℕ). n + 1) g.counted ∙ sym k.longer; spare = k.spare }

pub returns-then-not-marks-clause-answer : goal.returns-then-not-marks-clause-answer
returns-then-not-marks-clause-answer c =
    let g = c.args.self.now in
    let k = marked g.measure.labels g.measure.places (words_of g) c.args.p c.mark.new.self.words.now (sym c.if-not-fits.ensures) (sym c.if-not-marks.ensures) g.enough g.spare (search rules) in
    k.answer

pub returns-then-not-marks-clause-laid : goal.returns-then-not-marks-clause-laid
returns-then-not-marks-clause-laid c =
    let g = c.args.self.now in
    let k = marked g.measure.labels g.measure.places (words_of g) c.args.p c.mark.new.self.words.now (sym c.if-not-fits.ensures) (sym c.if-not-marks.ensures) g.enough g.spare (search rules) in
    laid g.measure.labels g.measure.places c.mark.new.self.words.now (words_of g) k.spare k.later

pub returns-else-not-marks-clause-answer : goal.returns-else-not-marks-clause-answer
returns-else-not-marks-clause-answer c =
    let g = c.args.self.now in
    grid_put_there g.measure.labels g.measure.places (words_of g) c.args.p (sym c.if-not-fits.ensures) (sym c.if-not-marks.ensures)

pub returns-else-not-marks-clause-laid : goal.returns-else-not-marks-clause-laid
returns-else-not-marks-clause-laid c = let g = c.args.self.now in laid g.measure.labels g.measure.places (words_of g) (words_of g) g.spare refl
