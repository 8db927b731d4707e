use Rattle.std.proofs.Common.{rules, tests, arith}
use Rattle.std.proofs.lemmas.Iterator.{first_from_Range}
use Rattle.rules.specs.Words.{Barred}
use Rattle.rules.proofs.Rings.{lowest_barred}
use Rattle.rules.proofs.reach.Reach.ringed_exclusive.Goals as goal

pub returns-in_err-i : goal.returns-in_err-i
returns-in_err-i c =
    let rs = c.args.self.now.rules.now in
    let first = first_from_Range _ _ _ _ (λ i. Barred rs i) (λ i. Barred rs i → ⊥) c.find.ensures.ran (λ x q k. search (rules, tests)) (λ x q k. search (rules, tests)) in
    let none = rw c.in_err-i.was at first in
    rw c.from_residual.ensures (λ i b. none i (omega arith) b.in_table b)

pub returns : goal.returns
returns c =
    let rs = c.args.self.now.rules.now in
    let first = first_from_Range _ _ _ _ (λ i. Barred rs i) (λ i. Barred rs i → ⊥) c.find.ensures.ran (λ x q k. search (rules, tests)) (λ x q k. search (rules, tests)) in
    let some = rw c.in_ok-i.was at first in
    lowest_barred rs c.in_ok-i.i some.2 (λ k l. some.3 k (omega arith) l)
