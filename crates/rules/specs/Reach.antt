-- What leads to what, found in rounds: round k lets the rule k be one more stop on the way.
use Rattle.std.specs.Prelude.{ℕ, zero, suc, Bool, ◌&&◌, ◌||◌, List, length}
use Rattle.rules.specs.declared.rule.Rule.{Rule}
use Rattle.rules.specs.Words.{read_by}

abbrev pub via : (ℕ → ℕ → Bool) → ℕ → ℕ → ℕ → Bool
via edge zero i j = edge i j
via edge (suc k) i j = via edge k i j || (via edge k i k && via edge k k j)

-- The test that `Leads` decides.
unfoldable pub leads_to : List Rule → ℕ → ℕ → Bool
leads_to rules i j = via (read_by rules) (length rules) i j
