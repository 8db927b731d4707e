use Rattle.std.proofs.Common.{◌≡◌, ℕ}
use Rattle.rules.specs.RuleSets.{marked}
use Rattle.rules.specs.Words.{read_by}
use Rattle.rules.specs.Reach.{via}
use Rattle.rules.proofs.reach.Reach.of.Given as goal

abbrev pub invariant-loop-k : goal.invariant-loop-k
invariant-loop-k l = (i j : ℕ) → marked l.rows i j ≡ via (read_by l.list.rules.items) l.k i j
