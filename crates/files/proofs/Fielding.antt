-- The number of fields of a line, and of the columns that they name.
use Rattle.std.proofs.Common.{◌≡◌, ℕ, suc, false, cond, ◌&&◌, eqb, List, [], ◌∷◌, map, length, get_or, IfSome, Some, None, Option, Ok, Err, Result, MatchResult, refl, ap, ◌∙◌, arith}
use Rattle.std.specs.Result.{result_ok}
use Rattle.std.proofs.lemmas.Bool.{and_left, cond-false}
use Rattle.files.specs.declared.columns.RuleColumn.{RuleColumn}
use Rattle.files.specs.declared.columns.RuleColumn.TheVariants.{Label, First, How, Second}
use Rattle.files.specs.declared.parts.Part.{Part}
use Rattle.files.specs.declared.parts.Line.{Line}
use Rattle.files.specs.declared.cells.Cells.{Cells}
use Rattle.files.specs.declared.fault.LineFault.{LineFault}
use Rattle.files.specs.Parts.{split}
use Rattle.files.specs.RuleFiles.{column_named, columns_named, column_order, each_once, has_column, comma}
use Rattle.files.proofs.Names.{before}
use Rattle.files.specs.Cells.{bytes_in, FourTaken, NotFour}

abbrev AsLong : List (List ℕ) → Option (List RuleColumn) → Type 0
AsLong fs o = IfSome o (λ cs. length cs ≡ length fs)

before_long : (o : Option RuleColumn) (f : List ℕ) (fs : List (List ℕ)) (p : Option (List RuleColumn)) → AsLong fs p → AsLong (f ∷ fs) (before o p)
before_long None f fs p h = tt
before_long (Some c) f fs None h = tt
before_long (Some c) f fs (Some cs) h = ap suc h

named_long : (fs : List (List ℕ)) → AsLong fs (columns_named fs)
named_long [] = refl
named_long (f ∷ fs) = before_long (column_named f) f fs (columns_named fs) (named_long fs)

-- The order that columns give, if the fields name some.
abbrev pub settled : Option (List RuleColumn) → Option (List RuleColumn)
settled o = elim o [ None ↦ None | Some cs ↦ cond (each_once cs) (Some cs) None ]

settled_none : (fs : List (List ℕ)) (o : Option (List RuleColumn)) → AsLong fs o → eqb (length fs) 4 ≡ false → settled o ≡ None
settled_none fs None long not-four = refl
settled_none fs (Some cs) long not-four =
    let wrong : eqb (length cs) 4 ≡ false = rw long not-four in
    cond-false (each_once cs) (Some cs) None (and_left (eqb (length cs) 4) (has_column Label cs && (has_column First cs && (has_column How cs && has_column Second cs))) wrong)

-- A names line with another number of fields gives no order.
pub no_order : (line : List ℕ) → eqb (length (split comma line)) 4 ≡ false → column_order line ≡ None
no_order line not-four = settled_none (split comma line) (columns_named (split comma line)) (named_long (split comma line)) not-four

module _ (line : Line) (cut : Result Cells LineFault) (read : MatchResult cut (FourTaken line) (NotFour line)) where
  -- What was not cut into four fields gives no order.
  pub uncut_gives : result_ok cut ≡ None → column_order line.bytes.now ≡ None
  uncut_gives none = go cut read none
    where
      go : (r : Result Cells LineFault) → MatchResult r (FourTaken line) (NotFour line) → result_ok r ≡ None → column_order line.bytes.now ≡ None
      go (Ok cells) taken e = absurd (grind arith)
      go (Err fault) other e = no_order line.bytes.now other.count

  pub cut_fields : (cells : Cells) → result_ok cut ≡ Some cells → split comma line.bytes.now ≡ bytes_in cells
  cut_fields cells some = go cut read some
    where
      go : (r : Result Cells LineFault) → MatchResult r (FourTaken line) (NotFour line) → result_ok r ≡ Some cells → split comma line.bytes.now ≡ bytes_in cells
      go (Ok taken) four e = let same : taken ≡ cells = cc in four.fields ∙ ap bytes_in same
      go (Err fault) other e = absurd (grind arith)

one_named : (p : Part) (ps : List Part) (c : RuleColumn) (cs : List RuleColumn) → column_named p.bytes.now ≡ Some c → columns_named (map (λ q. q.bytes.now) ps) ≡ Some cs →
    columns_named (map (λ q. q.bytes.now) (p ∷ ps)) ≡ Some (c ∷ cs)
one_named p ps c cs one others =
    ap (λ (o : Option RuleColumn). before o (columns_named (map (λ q. q.bytes.now) ps))) one ∙ ap (before (Some c)) others

-- The order that four fields give, each of which names a column.
pub four_named : (line : List ℕ) (ps : List Part) (d : Part) (c₁ c₂ c₃ c₄ : RuleColumn) → length ps ≡ 4 → split comma line ≡ map (λ p. p.bytes.now) ps →
    column_named (get_or ps 0 d).bytes.now ≡ Some c₁ → column_named (get_or ps 1 d).bytes.now ≡ Some c₂ → column_named (get_or ps 2 d).bytes.now ≡ Some c₃ → column_named (get_or ps 3 d).bytes.now ≡ Some c₄ →
    column_order line ≡ cond (each_once (c₁ ∷ c₂ ∷ c₃ ∷ c₄ ∷ [])) (Some (c₁ ∷ c₂ ∷ c₃ ∷ c₄ ∷ [])) None
four_named line (p ∷ q ∷ r ∷ s ∷ []) d c₁ c₂ c₃ c₄ four fields e₁ e₂ e₃ e₄ =
    ap (λ (fs : List (List ℕ)). settled (columns_named fs)) fields ∙ ap settled (one_named p (q ∷ r ∷ s ∷ []) c₁ (c₂ ∷ c₃ ∷ c₄ ∷ []) e₁
    (one_named q (r ∷ s ∷ []) c₂ (c₃ ∷ c₄ ∷ []) e₂ (one_named r (s ∷ []) c₃ (c₄ ∷ []) e₃ (one_named s [] c₄ [] e₄ refl))))
four_named line [] d c₁ c₂ c₃ c₄ four fields e₁ e₂ e₃ e₄ = absurd (omega arith)
four_named line (p ∷ []) d c₁ c₂ c₃ c₄ four fields e₁ e₂ e₃ e₄ = absurd (omega arith)
four_named line (p ∷ q ∷ []) d c₁ c₂ c₃ c₄ four fields e₁ e₂ e₃ e₄ = absurd (omega arith)
four_named line (p ∷ q ∷ r ∷ []) d c₁ c₂ c₃ c₄ four fields e₁ e₂ e₃ e₄ = absurd (omega arith)
four_named line (p ∷ q ∷ r ∷ s ∷ t ∷ ps) d c₁ c₂ c₃ c₄ four fields e₁ e₂ e₃ e₄ = absurd (omega arith)
