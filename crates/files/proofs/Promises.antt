-- What is read is the text of its rules, and the text of a table is read back.
use Rattle.std.proofs.Common.{◌≡◌, ℕ, ◌-◌, ◌<◌, ◌≤◌, true, ltb, List, [], ◌∷◌, length, is_some, Some, None, Ok, Err, Option, Result, sym, refl, ap, ◌∙◌, subst, inl, inr, arith}
use Rattle.std.proofs.lemmas.List.{length-map}
use Rattle.std.proofs.lemmas.Bool.{and_parts, and_from, false≢true, le-ltb, cond-false, cases_Bool}
use Rattle.terms.specs.declared.refusal.Refusal.{Refusal}
use Rattle.terms.specs.declared.refusal.Refusal.TheVariants as refusal
use Rattle.rules.specs.declared.rule.Rule.{Rule}
use Rattle.rules.specs.declared.table.Table.{Table}
use Rattle.rules.specs.Labels.{is_label}
use Rattle.rules.specs.Tables.{names_in, rules_in, tabled}
use Rattle.rules.specs.Words.{Barred, Free}
use Rattle.rules.specs.Written.{Written, names_of, rules_of, name_at, spell_rule, spell_rules, spelt, in_range, all_in_range}
use Rattle.rules.proofs.Keeping.{range_parts}
use Rattle.rules.proofs.Closings.{table_kept, table_closed}
use Rattle.files.specs.declared.columns.RuleColumn.{RuleColumn}
use Rattle.files.specs.declared.fault.FileFault.{FileFault}
use Rattle.files.specs.declared.fault.FileFault.TheVariants.{Overlong, Headless, Line, Ringed, OutOfMemory}
use Rattle.files.specs.declared.fault.Report.{Report}
use Rattle.files.specs.Answers.{Answers, Refuses, ToldOf}
use Rattle.files.specs.Faults.{file_told, line_told}
use Rattle.files.specs.RuleFiles.{fault, each_once, parts_outcome, file_outcome, line_end, most_bytes}
use Rattle.files.specs.Parts.{split}
use Rattle.files.specs.RuleTexts.{TextOf, Limited, all_spelt, rule_text}
use Rattle.files.specs.RuleLaws.{AcceptsTexts, SameTable, ReadsBack}
use Rattle.files.proofs.Lines.{fault_rules, rules_same}
use Rattle.files.proofs.WholeFiles.{says_its_text, texts_are_short}

-- ---- accepted exactly when it is a text

table_free : (t : Table) → Free (rules_of (tabled t))
table_free t = subst (λ (rs : List Rule). (i : ℕ) → Barred rs i → ⊥) (table_closed t).rules (table_closed t).free

-- A file that says a fault is no text.
fault_no_text : (bytes : List ℕ) (r : Refusal) (i k : ℕ) → file_outcome bytes ≡ fault r i k → (ws : List Written) → TextOf bytes ws → ⊥
fault_no_text bytes r i k h ws t = fault_rules r i k ws (sym h ∙ (says_its_text bytes ws).1 t)

lines_no_text : (bytes : List ℕ) (o : Option Report) → length bytes ≤ most_bytes → is_some o ≡ true → ToldOf parts_outcome (split line_end bytes) o → (ws : List Written) → TextOf bytes ws → ⊥
lines_no_text bytes None short s h ws t = false≢true s
lines_no_text bytes (Some r) short s h ws t =
    fault_no_text bytes r.refusal r.line r.column (cond-false (ltb most_bytes (length bytes)) _ _ (le-ltb most_bytes (length bytes) short) ∙ h) ws t

refused_no_text : (bytes : List ℕ) (what : FileFault) → Refuses bytes what → is_some (file_told what) ≡ true → (ws : List Written) → TextOf bytes ws → Free (rules_of ws) → ⊥
refused_no_text bytes Overlong h s ws t free = fault_no_text bytes refusal.Overfull 0 0 h ws t
refused_no_text bytes Headless h s ws t free = fault_no_text bytes refusal.Headless 1 0 h ws t
refused_no_text bytes (Line f) h s ws t free = lines_no_text bytes (line_told f) h.0 s h.1 ws t
refused_no_text bytes (Ringed line) h s ws t free =
    let e : h.0 ≡ ws = rules_same h.0 ws (sym h.2 ∙ (says_its_text bytes ws).1 t) in
    free (h.1.0 - 1) (subst (λ (vs : List Written). Barred (rules_of vs) (h.1.0 - 1)) e h.3.barred)
refused_no_text bytes OutOfMemory h s ws t free = false≢true s

pub accepts_texts : (bytes : List ℕ) (r : Result Table FileFault) → Answers bytes r → AcceptsTexts bytes r
accepts_texts bytes (Ok table) h = ((says_its_text bytes (tabled table)).0 h, table_free table)
accepts_texts bytes (Err what) h = refused_no_text bytes what h

-- ---- read back

spelt_rules : (names : List (List ℕ)) (rs : List Rule) → ((k : ℕ) → k < length names → is_label (name_at names k) ≡ true) → all_in_range (length names) rs ≡ true → all_spelt (spell_rules names rs) ≡ true
spelt_rules names [] labels h = refl
spelt_rules names (r ∷ rs) labels h =
    let q = and_parts (in_range (length names) r) _ h in
    let b = range_parts (length names) r q.0 in
    let one : spelt (spell_rule names r) ≡ true =
    and_from (is_label (name_at names r.label.0)) _ (labels r.label.0 b.0)
    (and_from (is_label (name_at names r.first.0)) (is_label (name_at names r.second.0)) (labels r.first.0 b.1) (labels r.second.0 b.2)) in
    and_from (spelt (spell_rule names r)) _ one (spelt_rules names rs labels q.1)

table_limited : (t : Table) → Limited (tabled t)
table_limited t =
    let c = table_closed t in
    let n = length-map (rules_in t) (spell_rule (names_in t)) in
    let few = c.few_rules in
    let names = ap length c.names in
    let fewer = c.few_labels in
    record { names = spelt_rules (names_in t) (rules_in t) c.spelt (table_kept t).within; few_rules = omega arith; few_labels = omega arith }

table_text : (t : Table) (cs : List RuleColumn) (bytes : List ℕ) → each_once cs ≡ true → bytes ≡ rule_text cs (tabled t) → TextOf bytes (tabled t)
table_text t cs bytes once e = record {
  order = cs;
  once = once;
  text = e;
  limited = table_limited t;
  short = subst (λ bs. length bs ≤ most_bytes) (sym e) (texts_are_short cs (tabled t) once (table_limited t));
}

same_written : (t u : Table) → tabled u ≡ tabled t → SameTable t (Ok u)
same_written t u e =
    let c = table_closed t in
    let d = table_closed u in
    (d.names ∙ (ap names_of e ∙ sym c.names), d.rules ∙ (ap rules_of e ∙ sym c.rules))

pub reads_back : (bytes : List ℕ) (r : Result Table FileFault) → Answers bytes r → ReadsBack bytes r
reads_back bytes (Ok u) h t cs once e =
    same_written t u (rules_same (tabled u) (tabled t) (sym h ∙ (says_its_text bytes (tabled t)).1 (table_text t cs bytes once e)))
reads_back bytes (Err what) h t cs once e = elim (cases_Bool (is_some (file_told what))) [
  | inl s ↦ absurd (refused_no_text bytes what h s (tabled t) (table_text t cs bytes once e) (table_free t))
  | inr s ↦ s
]
