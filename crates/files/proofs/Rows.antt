-- A row: under an order of the columns, a label for each, with commas between. The names line is one, and so is a rule's line.
use Rattle.std.proofs.Common.{◌≡◌, ℕ, ◌*◌, ◌≤◌, true, false, List, [], ◌∷◌, map, length, refl, arith, length-append}
use lib.ListN.{length-map}
use Rattle.std.proofs.lemmas.Bool.{and_from}
use Rattle.rules.specs.Labels.{label_byte, is_label}
use Rattle.files.specs.declared.columns.RuleColumn.{RuleColumn}
use Rattle.files.specs.Parts.{split, joined}
use Rattle.files.specs.RuleFiles.{comma, line_end, each_once}
use Rattle.files.proofs.Texts.{lacks, all_lack, label_short, label_lacks}
use Rattle.files.proofs.Splits.{split_joined, lacks_joined}
use Rattle.files.proofs.Orders.{once_four}

module _ (f : RuleColumn → List ℕ) (label : (c : RuleColumn) → is_label (f c) ≡ true) where
  all_lack_lem : (b : ℕ) → label_byte b ≡ false → (cs : List RuleColumn) → all_lack b (map f cs) ≡ true
  all_lack_lem b n [] = refl
  all_lack_lem b n (c ∷ cs) = and_from (lacks b (f c)) (all_lack b (map f cs)) (label_lacks b (f c) n (label c)) (all_lack_lem b n cs)

  -- Its fields are the labels.
  pub row_split : (cs : List RuleColumn) → each_once cs ≡ true → split comma (joined comma (map f cs)) ≡ map f cs
  row_split cs h = split_joined comma (map f cs) (simp length-map (omega (arith, once_four cs h))) (all_lack_lem comma refl cs)

  -- It is within one line.
  pub row_lacks : (cs : List RuleColumn) → lacks line_end (joined comma (map f cs)) ≡ true
  row_lacks cs = lacks_joined line_end comma (map f cs) refl (all_lack_lem line_end refl cs)

  joined_short : (cs : List RuleColumn) → length (joined comma (map f cs)) ≤ length cs * 17
  joined_short [] = omega arith
  joined_short (c ∷ []) = omega (arith, label_short (f c) (label c))
  joined_short (c ∷ d ∷ cs) =
      rw (length-append (f c) (comma ∷ joined comma (map f (d ∷ cs)))) (omega (arith, label_short (f c) (label c), joined_short (d ∷ cs)))

  -- It has four labels of 16 bytes at most.
  pub row_short : (cs : List RuleColumn) → each_once cs ≡ true → length (joined comma (map f cs)) ≤ 68
  row_short cs h = omega (arith, joined_short cs, once_four cs h)
