-- What a rule has under the columns, and the rule that fields say.
use Rattle.std.proofs.Common.{◌≡◌, ℕ, true, List, map, length, is_some, None, Option, unwrap_or, sym, refl, ap, ◌∙◌}
use Rattle.std.proofs.lemmas.Bool.{and_parts, and_from}
use Rattle.rules.specs.declared.relation.Relation.{Relation}
use Rattle.rules.specs.declared.relation.Relation.TheVariants.{Before}
use Rattle.rules.specs.Labels.{is_label}
use Rattle.rules.specs.Relations.{relation_named}
use Rattle.rules.specs.Written.{Written, spelt}
use Rattle.files.specs.declared.columns.RuleColumn.{RuleColumn}
use Rattle.files.specs.declared.columns.RuleColumn.TheVariants.{Label, First, How, Second}
use Rattle.files.specs.RuleFiles.{each_once, fits, first_misfit, bytes_under, rule_in}
use Rattle.files.specs.RuleTexts.{cell}
use Rattle.files.proofs.Names.{relation_found, word_of_named, word_label}
use Rattle.files.proofs.Orders.{once_has, once_four, under-map, under_once, under_fits}

-- ---- from the rule to its fields

-- What a rule has under a column is right there.
pub cell_fits : (w : Written) → spelt w ≡ true → (c : RuleColumn) → fits c (cell c w) ≡ true
cell_fits w h Label = (and_parts (is_label w.label) _ h).0
cell_fits w h First = (and_parts (is_label w.first) _ (and_parts (is_label w.label) _ h).1).0
cell_fits w h How = ap is_some (relation_found w.how)
cell_fits w h Second = (and_parts (is_label w.first) _ (and_parts (is_label w.label) _ h).1).1

-- And it is a label: a relation's word is one too.
pub cell_label : (w : Written) → spelt w ≡ true → (c : RuleColumn) → is_label (cell c w) ≡ true
cell_label w h Label = cell_fits w h Label
cell_label w h First = cell_fits w h First
cell_label w h How = word_label w.how
cell_label w h Second = cell_fits w h Second

-- The fields of a rule say the rule.
pub rule_in_cells : (cs : List RuleColumn) (w : Written) → each_once cs ≡ true → rule_in cs (map (λ c. cell c w) cs) ≡ w
rule_in_cells cs w h =
    let fs : List (List ℕ) = map (λ d. cell d w) cs in
    let under : (c : RuleColumn) → bytes_under c cs fs ≡ cell c w = λ c. under-map (λ d. cell d w) c cs (once_has cs h c) in
    let how-is : unwrap_or (relation_named (bytes_under How cs fs)) Before ≡ w.how =
    ap (λ (t : List ℕ). unwrap_or (relation_named t) Before) (under How)
    ∙ ap (λ (o : Option Relation). unwrap_or o Before) (relation_found w.how) in
    λ i. record { label = under Label i; first = under First i; how = how-is i; second = under Second i }

-- ---- from the fields to the rule

module _ (cs : List RuleColumn) (fs : List (List ℕ)) (once : each_once cs ≡ true) (four : length fs ≡ 4) (right : first_misfit 1 cs fs ≡ None) where
  fits_in : (c : RuleColumn) → fits c (bytes_under c cs fs) ≡ true
  fits_in c = under_fits 1 c cs fs (once_four cs once ∙ sym four) (once_has cs once c) right

  cell_in : (c : RuleColumn) → cell c (rule_in cs fs) ≡ bytes_under c cs fs
  cell_in Label = refl
  cell_in First = refl
  cell_in How = word_of_named (bytes_under How cs fs) (fits_in How)
  cell_in Second = refl

  -- The rule that right fields say has these fields.
  pub cells_in_rule : map (λ c. cell c (rule_in cs fs)) cs ≡ fs
  cells_in_rule = (λ i. map (λ c. cell_in c i) cs) ∙ under_once cs fs once four

  -- And it is spelt right.
  pub spelt_in_rule : spelt (rule_in cs fs) ≡ true
  spelt_in_rule = and_from (is_label (bytes_under Label cs fs)) _ (fits_in Label)
      (and_from (is_label (bytes_under First cs fs)) _ (fits_in First) (fits_in Second))
