use Rattle.std.proofs.Common.{ℕ, ◌<◌, Decides}
use Rattle.rules.specs.RuleSets.{holds}
use Rattle.rules.specs.Words.{rule_by_index, Reads}
use Rattle.rules.proofs.reach.readers.Given as goal

abbrev pub invariant-loop-j : goal.invariant-loop-j
invariant-loop-j l = (k : ℕ) → Decides (holds l.set k) ((k < l.j) × Reads (rule_by_index l.list.rules.items k) l.rule.label)
