use Rattle.std.proofs.Common.{◌≡◌, ℕ, ◌&&◌, ◌||◌, ltb, cond, length}
use Rattle.rules.specs.RuleSets.{marked}
use Rattle.rules.proofs.reach.through.Given as goal

abbrev pub invariant-loop-row : goal.invariant-loop-row
invariant-loop-row l =
    let rows = l.fn.rows in
    (length l.row-items ≡ 48) × ((m n : ℕ) → marked l.row-items m n ≡ cond (ltb m l.row-index) (marked rows m n || (marked rows m l.k && marked rows l.k n)) (marked rows m n))
