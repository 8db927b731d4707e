-- What a set of rules holds.
use Rattle.std.specs.Prelude.{ℕ, Bool, List, ◌==◌, slice_index_or}
use Rattle.std.specs.Int.{bit_at}
use Rattle.rules.specs.declared.rule_set.RuleSet.{RuleSet}

unfoldable pub holds : RuleSet → ℕ → Bool
holds s j = bit_at s.0 j == 1

-- The row i of a table of sets holds j.
abbrev pub marked : List RuleSet → ℕ → ℕ → Bool
marked rows i j = holds (slice_index_or rows i (record { 0 = 0 })) j
