-- What the lines of a file say.
use Rattle.std.proofs.Common.{◌≡◌, ℕ, ◌+◌, ◌<◌, Bool, true, false, cond, eqb, List, [], ◌∷◌, ◌++◌, map, length, Some, None, Option, sym, refl, ap, ◌∙◌, subst, append_assoc, append-nil, arith, length-append}
use lib.ListN.{length-map}
use Rattle.std.proofs.lemmas.List.{nil_from_length}
use Rattle.std.proofs.lemmas.Bool.{eqb-true, eq-eqb, cond-true}
use Rattle.terms.specs.declared.refusal.Refusal.{Refusal}
use Rattle.terms.specs.declared.refusal.Refusal.TheVariants.{Ragged, Overfull, Unended}
use Rattle.rules.specs.Written.{Written, room_for, spelt}
use Rattle.files.specs.declared.columns.RuleColumn.{RuleColumn}
use Rattle.files.specs.Parts.{split, joined}
use Rattle.files.specs.RuleFiles.{Outcome, rules, fault, comma, each_once, first_misfit, rule_in, fields_outcome, line_outcome, lines_outcome}
use Rattle.files.specs.RuleTexts.{cell, rule_line, Limited}
use Rattle.files.proofs.Splits.{joined_split}
use Rattle.files.proofs.Orders.{once_four, map_fits}
use Rattle.files.proofs.Limits.{more_limited, limited_spelt, limited_room}
use Rattle.files.proofs.Rows.{row_split}
use Rattle.files.proofs.Values.{cell_fits, cell_label, rule_in_cells, cells_in_rule, spelt_in_rule}

pub fault_rules : (r : Refusal) (n k : ℕ) (ws : List Written) → fault r n k ≡ rules ws → ⊥
fault_rules r n k ws e = let z : ◌≡◌ {A = ℕ} 0 1 = cc in omega arith

pub rules_same : (ws vs : List Written) → rules ws ≡ rules vs → ws ≡ vs
rules_same ws vs e = cc

module _ (cs : List RuleColumn) (once : each_once cs ≡ true) where
  -- ---- one line

  -- After a line that says a rule, the rules vs are the rules ws and that one.
  record Said (ws : List Written) (line : List ℕ) (vs : List Written) : Type 0 where
    pub rule : Written
    pub after : vs ≡ ws ++ (rule ∷ [])
    pub text : line ≡ rule_line cs rule
    pub right : spelt rule ≡ true
    pub room : room_for ws rule ≡ true

  -- Right or not, and with room or not.
  abbrev tested : ℕ → List Written → List (List ℕ) → Option (Refusal × ℕ) → Bool → Outcome
  tested n ws fs m room = elim m [
    | Some b ↦ fault b.0 n b.1
    | None ↦ cond room (rules (ws ++ (rule_in cs fs ∷ []))) (fault Overfull n 0)
  ]

  fields_say : (n : ℕ) (ws : List Written) (fs : List (List ℕ)) (vs : List Written) → length fs ≡ 4 → fields_outcome cs n ws fs ≡ rules vs →
      Said ws (joined comma fs) vs
  fields_say n ws fs vs four h = go (first_misfit 1 cs fs) (room_for ws (rule_in cs fs)) refl refl h
    where
      go : (m : Option (Refusal × ℕ)) (room : Bool) → first_misfit 1 cs fs ≡ m → room_for ws (rule_in cs fs) ≡ room → tested n ws fs m room ≡ rules vs →
          Said ws (joined comma fs) vs
      go (Some b) room e r h = absurd (fault_rules b.0 n b.1 vs h)
      go None true e r h = record {
        rule = rule_in cs fs;
        after = rules_same _ _ (sym h);
        text = ap (joined comma) (sym (cells_in_rule cs fs once four e));
        right = spelt_in_rule cs fs once four e;
        room = r;
      }
      go None false e r h = absurd (fault_rules Overfull n 0 vs h)

  line_says : (n : ℕ) (ws : List Written) (line : List ℕ) (vs : List Written) → line_outcome cs n ws line ≡ rules vs → Said ws line vs
  line_says n ws line vs h = go (eqb (length (split comma line)) 4) refl h
    where
      go : (b : Bool) → eqb (length (split comma line)) 4 ≡ b → cond b (fields_outcome cs n ws (split comma line)) (fault Ragged n 0) ≡ rules vs →
          Said ws line vs
      go true e h = subst (λ (l : List ℕ). Said ws l vs) (joined_split comma line)
          (fields_say n ws (split comma line) vs (eqb-true (length (split comma line)) 4 e) h)
      go false e h = absurd (fault_rules Ragged n 0 vs h)

  -- Right fields with room say their rule.
  fields_said : (n : ℕ) (ws : List Written) (fs : List (List ℕ)) (w : Written) → first_misfit 1 cs fs ≡ None → rule_in cs fs ≡ w → room_for ws w ≡ true →
      fields_outcome cs n ws fs ≡ rules (ws ++ (w ∷ []))
  fields_said n ws fs w right is room =
      ap (λ (m : Option (Refusal × ℕ)). tested n ws fs m (room_for ws (rule_in cs fs))) right
      ∙ ap (tested n ws fs None) (ap (room_for ws) is ∙ room)
      ∙ ap (λ (v : Written). rules (ws ++ (v ∷ []))) is

  -- The line of a rule says the rule.
  line_said : (n : ℕ) (ws : List Written) (w : Written) → spelt w ≡ true → room_for ws w ≡ true →
      line_outcome cs n ws (rule_line cs w) ≡ rules (ws ++ (w ∷ []))
  line_said n ws w right room =
      let fs : List (List ℕ) = map (λ c. cell c w) cs in
      let four : length fs ≡ 4 = simp length-map (once_four cs once) in
      ap (λ (gs : List (List ℕ)). cond (eqb (length gs) 4) (fields_outcome cs n ws gs) (fault Ragged n 0))
      (row_split (λ c. cell c w) (cell_label w right) cs once)
      ∙ cond-true (eqb (length fs) 4) (fields_outcome cs n ws fs) (fault Ragged n 0) (eq-eqb (length fs) 4 four)
      ∙ fields_said n ws fs w (map_fits (λ c. cell c w) (cell_fits w right) 1 cs) (rule_in_cells cs w once) room

  -- ---- all lines

  -- After lines that say rules, the rules vs are the rules ws and those.
  pub record AllSaid (ws : List Written) (parts : List (List ℕ)) (vs : List Written) : Type 0 where
    pub more : List Written
    pub after : vs ≡ ws ++ more
    pub text : parts ≡ map (rule_line cs) more ++ ([] ∷ [])
    pub limited : Limited vs

  -- A file's lines that are no fault are the lines of rules, with an empty part after the last.
  pub lines_say : (n : ℕ) (ws : List Written) (parts : List (List ℕ)) (vs : List Written) → 0 < length parts → Limited ws →
      lines_outcome cs n ws parts ≡ rules vs → AllSaid ws parts vs
  lines_say n ws [] vs l o h = absurd (omega arith)
  lines_say n ws (line ∷ []) vs l o h = go (eqb (length line) 0) refl h
    where
      go : (b : Bool) → eqb (length line) 0 ≡ b → cond b (rules ws) (fault Unended n 0) ≡ rules vs → AllSaid ws (line ∷ []) vs
      go true e h =
          let same = rules_same ws vs h in
          let none : line ≡ [] = nil_from_length line (eqb-true (length line) 0 e) in
          record {
            more = [];
            after = sym same ∙ sym (append-nil ws);
            text = ap (λ (p : List ℕ). p ∷ []) none;
            limited = subst Limited same o;
          }
      go false e h = absurd (fault_rules Unended n 0 vs h)
  lines_say n ws (line ∷ next ∷ rest) vs l o h = go (line_outcome cs n ws line) refl (λ us. lines_say (n + 1) us (next ∷ rest) vs (omega arith)) h
    where
      go : (out : Outcome) → line_outcome cs n ws line ≡ out →
          ((us : List Written) → Limited us → lines_outcome cs (n + 1) us (next ∷ rest) ≡ rules vs → AllSaid us (next ∷ rest) vs) →
          elim out [ rules us ↦ lines_outcome cs (n + 1) us (next ∷ rest) | fault r i k ↦ fault r i k ] ≡ rules vs → AllSaid ws (line ∷ next ∷ rest) vs
      go (rules us) e later h =
          let one = line_says n ws line us e in
          let w = one.rule in
          let others = later us (subst Limited (sym one.after) (more_limited ws w o one.right one.room)) h in
          record {
            more = w ∷ others.more;
            after = others.after ∙ ap (λ (ts : List Written). ts ++ others.more) one.after ∙ append_assoc ws (w ∷ []) others.more;
            text = λ i. (one.text i) ∷ (others.text i);
            limited = others.limited;
          }
      go (fault r i k) e later h = absurd (fault_rules r i k vs h)

  -- A line that says a rule, before others.
  lines_next : (n : ℕ) (ws : List Written) (line : List ℕ) (parts : List (List ℕ)) (us : List Written) → 0 < length parts →
      line_outcome cs n ws line ≡ rules us → lines_outcome cs n ws (line ∷ parts) ≡ lines_outcome cs (n + 1) us parts
  lines_next n ws line [] us l h = absurd (omega arith)
  lines_next n ws line (next ∷ rest) us l h =
      ap (λ (out : Outcome). elim out [ rules vs ↦ lines_outcome cs (n + 1) vs (next ∷ rest) | fault r i k ↦ fault r i k ]) h

  -- The lines of rules say the rules.
  pub lines_said : (n : ℕ) (ws more : List Written) → Limited (ws ++ more) →
      lines_outcome cs n ws (map (rule_line cs) more ++ ([] ∷ [])) ≡ rules (ws ++ more)
  lines_said n ws [] o = ap rules (sym (append-nil ws))
  lines_said n ws (w ∷ more) o =
      let us : List Written = ws ++ (w ∷ []) in
      let whole : us ++ more ≡ ws ++ (w ∷ more) = append_assoc ws (w ∷ []) more in
      let parts : List (List ℕ) = map (rule_line cs) more ++ ([] ∷ []) in
      lines_next n ws (rule_line cs w) parts us (simp length-append (omega arith))
      (line_said n ws w (limited_spelt ws w more o) (limited_room ws w more o))
      ∙ lines_said (n + 1) us more (subst Limited (sym whole) o)
      ∙ ap rules whole
