-- From the bytes of a file to the lines after the names line.
use Rattle.std.proofs.Common.{◌≡◌, ℕ, ◌+◌, ◌≤◌, true, ltb, List, [], ◌∷◌, ◌++◌, length, Some, None, Option, sym, ap, ◌∙◌}
use Rattle.std.proofs.lemmas.Bool.{le-ltb, cond-false, false≢true}
use Rattle.terms.specs.declared.refusal.Refusal.TheVariants.{Headless, Overfull}
use Rattle.rules.specs.Written.{Written}
use Rattle.files.specs.declared.parts.Lines.{Lines}
use Rattle.files.specs.declared.columns.RuleColumn.{RuleColumn}
use Rattle.files.specs.declared.columns.ColumnOrder.{ColumnOrder}
use Rattle.files.specs.declared.fault.Report.{Report}
use Rattle.files.specs.declared.fault.LineFault.{LineFault}
use Rattle.files.specs.declared.fault.FileFault.TheVariants as ofFile
use Rattle.files.specs.Parts.{split}
use Rattle.files.specs.RuleFiles.{fault, line_end, most_bytes, lines_outcome, parts_outcome, file_outcome}
use Rattle.files.specs.Cursors.{lines_left, any_left}
use Rattle.files.specs.Faults.{line_told}
use Rattle.files.specs.Answers.{ToldOf, HeadRead, Refuses}
use Rattle.files.proofs.Following.{any_push}

module _ (bytes : List ℕ) (from : Lines) (short : length bytes ≤ most_bytes) (all : lines_left from ≡ split line_end bytes) (first : from.number ≡ 1) where
  file_is : file_outcome bytes ≡ parts_outcome (lines_left from)
  file_is =
      cond-false (ltb most_bytes (length bytes)) (fault Overfull 0 0) (parts_outcome (split line_end bytes)) (le-ltb most_bytes (length bytes) short)
      ∙ ap parts_outcome (sym all)

  -- What the file says, by the lines after a right names line.
  parts_open : (to : Lines) (o : ColumnOrder) (head : HeadRead from to o) (left : List (List ℕ)) → any_left left ≡ true → parts_outcome (head.names ∷ left) ≡ lines_outcome o.columns to.number [] left
  parts_open to o head [] any = absurd (false≢true any)
  parts_open to o head (line ∷ left) any =
      let second : 2 ≡ to.number = sym (head.next_number ∙ ap (λ n. n + 1) first) in
      ap (λ (c : Option (List RuleColumn)). elim c [ None ↦ fault Headless 1 0 | Some cs ↦ lines_outcome cs 2 [] (line ∷ left) ]) head.gives
      ∙ ap (λ n. lines_outcome o.columns n [] (line ∷ left)) second

  file_opens : (to : Lines) (o : ColumnOrder) (ws : List Written) → HeadRead from to o → ws ≡ [] → file_outcome bytes ≡ lines_outcome o.columns to.number ws (lines_left to)
  file_opens to o ws head none =
      file_is ∙ (ap parts_outcome head.lines ∙ (parts_open to o head (lines_left to) head.any ∙ ap (λ (w : List Written). lines_outcome o.columns to.number w (lines_left to)) (sym none)))

  -- One was refused, or there was no memory for its rule: so with the file.
  lines_told : (to : Lines) (o : ColumnOrder) (ws : List Written) (t : Option Report) → HeadRead from to o → ws ≡ [] → ToldOf (lines_outcome o.columns to.number ws) (lines_left to) t → ToldOf parts_outcome (split line_end bytes) t
  lines_told to o ws None head none h = record {
    front = head.names ∷ h.front;
    back = h.back;
    cut = sym all ∙ (head.lines ∙ ap (λ ls. head.names ∷ ls) h.cut);
    before = h.before;
    last = h.last;
    says_rules = parts_open to o head (h.front ++ ([] ∷ [])) (any_push h.front) ∙ (ap (λ (w : List Written). lines_outcome o.columns to.number w (h.front ++ ([] ∷ []))) (sym none) ∙ h.says_rules);
  }
  lines_told to o ws (Some r) head none h = ap parts_outcome (sym all) ∙ (sym file_is ∙ (file_opens to o ws head none ∙ h))

  pub file_stops : (to : Lines) (o : ColumnOrder) (ws : List Written) (x : LineFault) → HeadRead from to o → ws ≡ [] → ToldOf (lines_outcome o.columns to.number ws) (lines_left to) (line_told x) → Refuses bytes (ofFile.Line x)
  file_stops to o ws x head none h = (short, lines_told to o ws (line_told x) head none h)
