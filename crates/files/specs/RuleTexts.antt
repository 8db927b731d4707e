-- Rules written out as a file, and which files are such a text.
use Rattle.std.specs.Prelude.{◌≡◌, ℕ, ◌≤◌, Bool, true, ◌&&◌, List, [], ◌∷◌, map, length}
use Rattle.rules.specs.Relations.{relation_word}
use Rattle.rules.specs.Written.{Written, names_of, spelt}
use Rattle.files.specs.declared.columns.RuleColumn.{RuleColumn}
use Rattle.files.specs.declared.columns.RuleColumn.TheVariants.{Label, First, How, Second}
use Rattle.files.specs.Parts.{joined, ended}
use Rattle.files.specs.RuleFiles.{comma, line_end, most_bytes, column_name, each_once}

-- What a rule has under a column.
abbrev pub cell : RuleColumn → Written → List ℕ
cell Label w = w.label
cell First w = w.first
cell How w = relation_word w.how
cell Second w = w.second

abbrev pub rule_line : List RuleColumn → Written → List ℕ
rule_line cs w = joined comma (map (λ c. cell c w) cs)

-- The names line, then a line for each rule, under an order of the columns.
abbrev pub rule_text : List RuleColumn → List Written → List ℕ
rule_text cs ws = ended line_end (joined comma (map column_name cs) ∷ map (rule_line cs) ws)

abbrev pub all_spelt : List Written → Bool
all_spelt [] = true
all_spelt (w ∷ ws) = spelt w && all_spelt ws

-- The limits of a table: names that are labels, at most 48 rules and 32 labels.
pub record Limited (ws : List Written) : Type 0 where
  pub names : all_spelt ws ≡ true
  pub few_rules : length ws ≤ 48
  pub few_labels : length (names_of ws) ≤ 32

-- The bytes are the text of the rules under some order of the columns, and rules and bytes keep the limits.
pub record TextOf (bytes : List ℕ) (ws : List Written) : Type 0 where
  pub order : List RuleColumn
  pub once : each_once order ≡ true
  pub text : bytes ≡ rule_text order ws
  pub limited : Limited ws
  pub short : length bytes ≤ most_bytes
