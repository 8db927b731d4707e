use Rattle.std.proofs.Common.{◌≡◌, ℕ, ◌&&◌, ltb, length}
use Rattle.rules.specs.RuleSets.{marked}
use Rattle.rules.specs.Words.{read_by}
use Rattle.rules.proofs.reach.first_steps.Given as goal

abbrev pub invariant-loop-i : goal.invariant-loop-i
invariant-loop-i l = (length l.rows ≡ 48) × ((k m : ℕ) → marked l.rows k m ≡ (ltb k l.i && read_by l.list.rules.items k m))
