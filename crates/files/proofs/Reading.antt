-- The fields of a line of values under the columns of the file.
use Rattle.std.proofs.Common.{◌≡◌, ℕ, zero, suc, ◌+◌, replicate, Bool, true, false, cond, List, [], ◌∷◌, map, length, is_some, Some, None, Option, Ok, Err, Result, MatchResult, unwrap_or, ◌⊎◌, inl, inr, sym, refl, ap, ◌∙◌, arith}
use lib.ListN.{length-map}
use Rattle.std.specs.List.{range_with_len}
use Rattle.std.specs.Result.{result_err}
use Rattle.std.proofs.lemmas.Bool.{false≢true}
use Rattle.rules.specs.Written.{spelt}
use Rattle.rules.specs.declared.relation.Relation.{Relation}
use Rattle.rules.specs.declared.relation.Relation.TheVariants.{Before}
use Rattle.rules.specs.Labels.{is_label}
use Rattle.rules.specs.Relations.{relation_named}
use Rattle.files.specs.declared.parts.Part.{Part}
use Rattle.files.specs.declared.cells.Cells.{Cells}
use Rattle.files.specs.declared.columns.RuleColumn.{RuleColumn}
use Rattle.files.specs.declared.columns.RuleColumn.TheVariants.{Label, First, How, Second}
use Rattle.files.specs.declared.columns.ColumnOrder.{ColumnOrder}
use Rattle.files.specs.declared.fault.FieldFault.{FieldFault}
use Rattle.files.specs.declared.fault.FieldFlaw.TheVariants.{Misspelt, Unrelated}
use Rattle.rules.specs.declared.rule.RuleWords.{RuleWords}
use Rattle.files.specs.RuleFiles.{fits, misfit, first_misfit, bytes_under, rule_in}
use Rattle.files.specs.Cells.{bytes_in}
use Rattle.files.specs.Fields.{field_for, fault_of, fault_in}
use Rattle.files.specs.Faults.{field_told, reported}
use Rattle.rules.specs.Drafts.{said_by}
use Rattle.files.specs.Answers.{MisfitAt, Reads}
use Rattle.files.proofs.Orders.{once_four, once_has, under_fits}
use Rattle.files.proofs.Values.{spelt_in_rule}

-- ---- one field

-- Whether a field is right, and else what is told of it.
abbrev TellsOf : RuleColumn → Part → Bool → FieldFault → Type 0
TellsOf c p right fault = (fits c p.bytes.now ≡ right) × (field_told fault ≡ reported (misfit c) p.line p.column)

told_by : (c : RuleColumn) (p : Part) (right : Bool) (fault : FieldFault) (r : Result (Unit {0}) FieldFault) → TellsOf c p right fault → result_err r ≡ cond right None (Some fault) →
    MatchResult r (λ _. fits c p.bytes.now ≡ true) (MisfitAt c p)
told_by c p true fault (Ok x) t e = t.0
told_by c p true fault (Err y) t e = absurd (grind arith)
told_by c p false fault (Ok x) t e = absurd (grind arith)
told_by c p false fault (Err y) t e = let same : y ≡ fault = cc in record { wrong = t.0; told = ap field_told same ∙ t.1 }

pub cell_told : (c : RuleColumn) (p : Part) (r : Result (Unit {0}) FieldFault) → result_err r ≡ fault_in (field_for c p) → MatchResult r (λ _. fits c p.bytes.now ≡ true) (MisfitAt c p)
cell_told Label p r e = told_by Label p (is_label p.bytes.now) (fault_of Misspelt p) r (refl, refl) e
cell_told First p r e = told_by First p (is_label p.bytes.now) (fault_of Misspelt p) r (refl, refl) e
cell_told How p r e = told_by How p (is_some (relation_named p.bytes.now)) (fault_of Unrelated p) r (refl, refl) e
cell_told Second p r e = told_by Second p (is_label p.bytes.now) (fault_of Misspelt p) r (refl, refl) e

-- ---- the four fields, from the left

pub four_parts : (f : Cells) → length f.parts ≡ 4
four_parts f = simp length-map at (ap length f.in_columns)

pub four_cells : (f : Cells) → length (bytes_in f) ≡ 4
four_cells f = simp length-map (four_parts f)

-- The parts stand in the line, in the columns from k on.
abbrev pub StandFrom : ℕ → ℕ → List Part → Type 0
StandFrom line k [] = Unit {0}
StandFrom line k (p ∷ ps) = (p.line ≡ line) × (p.column ≡ k) × StandFrom line (k + 1) ps

stand_from : (line k n : ℕ) (ps : List Part) → map (λ p. p.line) ps ≡ replicate n line → map (λ p. p.column) ps ≡ range_with_len k n → StandFrom line k ps
stand_from line k n [] lines columns = tt
stand_from line k zero (p ∷ ps) lines columns = let none = ap length lines in absurd (omega arith)
stand_from line k (suc n) (p ∷ ps) lines columns =
    let one : p.line ≡ line = cc in
    let at : p.column ≡ k = cc in
    let more : map (λ p. p.line) ps ≡ replicate n line = cc in
    let others : map (λ p. p.column) ps ≡ range_with_len (k + 1) n = cc in
    (one, at, stand_from line (k + 1) n ps more others)

pub cells_stand : (f : Cells) → StandFrom f.line 1 f.parts
cells_stand f = stand_from f.line 1 4 f.parts f.in_line f.in_columns

-- Where columns or parts are at an end, none is wrong.
pub none_left : (k : ℕ) (cs : List RuleColumn) (ps : List Part) → (length cs ≡ 0) ⊎ (length ps ≡ 0) → first_misfit k cs (map (λ p. p.bytes.now) ps) ≡ None
none_left k [] ps h = refl
none_left k (c ∷ cs) [] h = refl
none_left k (c ∷ cs) (p ∷ ps) (inl h) = absurd (omega arith)
none_left k (c ∷ cs) (p ∷ ps) (inr h) = absurd (omega arith)

-- ---- the field under a column

module _ (o : ColumnOrder) (f : Cells) (none : first_misfit 1 o.columns (bytes_in f) ≡ None) where
  -- The part that was found under the column is right, so it is not wrong.
  pub found_wrong : {A : Type 0} (c : RuleColumn) (p : Part) → p.bytes.now ≡ bytes_under c o.columns (bytes_in f) → false ≡ fits c p.bytes.now → A
  found_wrong c p e wrong =
      let right = under_fits 1 c o.columns (bytes_in f) (once_four o.columns o.once ∙ sym (four_cells f)) (once_has o.columns o.once c) none in
      absurd (false≢true (wrong ∙ (ap (fits c) e ∙ right)))

  -- The words that were read under the four columns are those of the rule.
  pub words_read : (w : RuleWords) (h : Part) → w.label.now ≡ bytes_under Label o.columns (bytes_in f) → w.first.now ≡ bytes_under First o.columns (bytes_in f)
      → relation_named h.bytes.now ≡ Some w.how → h.bytes.now ≡ bytes_under How o.columns (bytes_in f) → w.second.now ≡ bytes_under Second o.columns (bytes_in f) → Reads o f w
  words_read w h label first how under second =
      let how-is : w.how ≡ unwrap_or (relation_named (bytes_under How o.columns (bytes_in f))) Before =
      ap (λ (r : Option Relation). unwrap_or r Before) (sym how) ∙ ap (λ (t : List ℕ). unwrap_or (relation_named t) Before) under in
      let rule : said_by w ≡ rule_in o.columns (bytes_in f) = λ i. record { label = label i; first = first i; how = how-is i; second = second i } in
      record { right = none; rule = rule; labels = ap spelt rule ∙ spelt_in_rule o.columns (bytes_in f) o.once (four_cells f) none }
