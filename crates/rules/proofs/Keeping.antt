-- What a draft keeps while rules are added: its names are those of its rules, in the order of first appearance.
use Rattle.std.proofs.Common.{◌≡◌, ℕ, zero, suc, ◌<◌, ◌≤◌, true, ltb, List, [], ◌∷◌, ◌++◌, length, Some, None, Option, sym, refl, ap, ◌∙◌, subst, inl, inr, arith, length-append}
use Rattle.std.proofs.lemmas.List.{map-append, length-map, get_or_append_left, get_or_push}
use Rattle.std.proofs.lemmas.Bool.{and_parts, and_from, and_right, ltb-true, lt-ltb, le-leb, lt-leb, leb-true, cond-true, cond-false, cases_Bool, cases_lt}
use Rattle.terms.specs.declared.refusal.Refusal.{Refusal}
use Rattle.terms.specs.declared.refusal.Refusal.TheVariants.{Misspelt, Overfull}
use Rattle.rules.specs.declared.rule.Rule.{Rule}
use Rattle.rules.specs.Labels.{is_label}
use Rattle.rules.specs.Drafts.{Extends, add_refusal}
use Rattle.rules.specs.Written.{Written, index_of, known, enter, enter_rule, enter_rules, names_of, number_rule, number_rules, rules_of, name_at, spell_rule, spell_rules, spelt, all_labels, in_range, all_in_range, room_for}
use Rattle.rules.proofs.Numbering.{index_name, index_extends, index-append, index_new, unknown_index, enter_extends, enter_index, extends_trans, extends-length}

-- ---- the names of one rule more

enter_push : (names : List (List ℕ)) (ws : List Written) (w : Written) → enter_rules names (ws ++ (w ∷ [])) ≡ enter_rule (enter_rules names ws) w
enter_push names [] w = refl
enter_push names (v ∷ ws) w = enter_push (enter_rule names v) ws w

pub names_push : (ws : List Written) (w : Written) → names_of (ws ++ (w ∷ [])) ≡ enter_rule (names_of ws) w
names_push = enter_push []

rule_extends : (names : List (List ℕ)) (w : Written) → Extends names (enter_rule names w)
rule_extends names w =
    extends_trans _ _ _ (enter_extends names w.label)
    (extends_trans _ _ _ (enter_extends (enter names w.label) w.first) (enter_extends (enter (enter names w.label) w.first) w.second))

-- A name that was entered is there, also when more were entered.
entered_index : (names after : List (List ℕ)) (t : List ℕ) → Extends (enter names t) after → index_of after t < length after
entered_index names after t p =
    let i = enter_index names t in
    let e = index_extends (enter names t) after t p i in
    let n = extends-length _ _ p in omega arith

pub label_index : (names : List (List ℕ)) (w : Written) → index_of (enter_rule names w) w.label < length (enter_rule names w)
label_index names w = entered_index names _ w.label (extends_trans _ _ _ (enter_extends (enter names w.label) w.first) (enter_extends (enter (enter names w.label) w.first) w.second))

pub first_index : (names : List (List ℕ)) (w : Written) → index_of (enter_rule names w) w.first < length (enter_rule names w)
first_index names w = entered_index (enter names w.label) _ w.first (enter_extends (enter (enter names w.label) w.first) w.second)

pub second_index : (names : List (List ℕ)) (w : Written) → index_of (enter_rule names w) w.second < length (enter_rule names w)
second_index names w = enter_index (enter (enter names w.label) w.first) w.second

-- ---- rules by name

spell_number : (names : List (List ℕ)) (w : Written) → spell_rule (enter_rule names w) (number_rule (enter_rule names w) w) ≡ w
spell_number names w =
    let a = index_name (enter_rule names w) w.label (label_index names w) in
    let b = index_name (enter_rule names w) w.first (first_index names w) in
    let d = index_name (enter_rule names w) w.second (second_index names w) in
    λ i. record { label = a i; first = b i; how = w.how; second = d i }

number_in_range : (names : List (List ℕ)) (w : Written) → in_range (length (enter_rule names w)) (number_rule (enter_rule names w) w) ≡ true
number_in_range names w = and_from _ _ (lt-ltb _ _ (label_index names w)) (and_from _ _ (lt-ltb _ _ (first_index names w)) (lt-ltb _ _ (second_index names w)))

name_extends : (names after : List (List ℕ)) (k : ℕ) → Extends names after → k < length names → name_at after k ≡ name_at names k
name_extends names after k p l = ap (λ ns. name_at ns k) p.1 ∙ get_or_append_left names p.0 [] k l

pub range_parts : (n : ℕ) (r : Rule) → in_range n r ≡ true → (r.label.0 < n) × (r.first.0 < n) × (r.second.0 < n)
range_parts n r h =
    let p = and_parts (ltb r.label.0 n) _ h in
    let q = and_parts (ltb r.first.0 n) (ltb r.second.0 n) p.1 in
    (ltb-true _ _ p.0, ltb-true _ _ q.0, ltb-true _ _ q.1)

spell_extends : (names after : List (List ℕ)) (rules : List Rule) → Extends names after → all_in_range (length names) rules ≡ true → spell_rules after rules ≡ spell_rules names rules
spell_extends names after [] p h = refl
spell_extends names after (r ∷ rules) p h =
    let q = and_parts (in_range (length names) r) _ h in
    let b = range_parts (length names) r q.0 in
    let one : spell_rule after r ≡ spell_rule names r = λ i. record { label = name_extends names after r.label.0 p b.0 i; first = name_extends names after r.first.0 p b.1 i; how = r.how; second = name_extends names after r.second.0 p b.2 i } in
    λ i. one i ∷ spell_extends names after rules p q.1 i

range_more : (m n : ℕ) (r : Rule) → m ≤ n → in_range m r ≡ true → in_range n r ≡ true
range_more m n r l h = let b = range_parts m r h in let x = b.0 in let y = b.1 in let z = b.2 in
    and_from _ _ (lt-ltb r.label.0 n (omega arith)) (and_from _ _ (lt-ltb r.first.0 n (omega arith)) (lt-ltb r.second.0 n (omega arith)))

range_push : (m n : ℕ) (rules : List Rule) (r : Rule) → m ≤ n → all_in_range m rules ≡ true → in_range n r ≡ true → all_in_range n (rules ++ (r ∷ [])) ≡ true
range_push m n [] r l h g = and_from (in_range n r) true g refl
range_push m n (q ∷ rules) r l h g = let p = and_parts (in_range m q) _ h in and_from _ _ (range_more m n q l p.0) (range_push m n rules r l p.1 g)

labels_append : (names : List (List ℕ)) (t : List ℕ) → all_labels names ≡ true → is_label t ≡ true → all_labels (names ++ (t ∷ [])) ≡ true
labels_append [] t h g = and_from (is_label t) true g refl
labels_append (n ∷ names) t h g = let p = and_parts (is_label n) _ h in and_from _ _ p.0 (labels_append names t p.1 g)

labels_enter : (names : List (List ℕ)) (t : List ℕ) → all_labels names ≡ true → is_label t ≡ true → all_labels (enter names t) ≡ true
labels_enter names t h g = elim (cases_Bool (known names t)) [
  | inl e ↦ rw e h
  | inr e ↦ rw e (labels_append names t h g)
]

-- ---- the draft

-- What the fields of a draft keep.
pub record Kept (names : List (List ℕ)) (rules : List Rule) : Type 0 where
  pub few : length rules ≤ 48
  pub fewnames : length names ≤ 32
  pub spelt : all_labels names ≡ true
  pub within : all_in_range (length names) rules ≡ true
  pub appear : names_of (spell_rules names rules) ≡ names

pub written_more : (names : List (List ℕ)) (rules : List Rule) (w : Written) → Kept names rules → spell_rules (enter_rule names w) (rules ++ (number_rule (enter_rule names w) w ∷ [])) ≡ spell_rules names rules ++ (w ∷ [])
written_more names rules w k =
    map-append (spell_rule (enter_rule names w)) rules (number_rule (enter_rule names w) w ∷ []) ∙
    (λ i. spell_extends names (enter_rule names w) rules (rule_extends names w) k.within i ++ (spell_number names w i ∷ []))

pub kept_more : (names : List (List ℕ)) (rules : List Rule) (w : Written) → Kept names rules → spelt w ≡ true → length rules < 48 → length (enter_rule names w) ≤ 32
    → Kept (enter_rule names w) (rules ++ (number_rule (enter_rule names w) w ∷ []))
kept_more names rules w k s l m =
    let a = and_parts (is_label w.label) _ s in
    let b = and_parts (is_label w.first) (is_label w.second) a.1 in
    let n = length-append rules (number_rule (enter_rule names w) w ∷ []) in
    record {
      few = omega arith;
      fewnames = m;
      spelt = labels_enter (enter (enter names w.label) w.first) w.second (labels_enter (enter names w.label) w.first (labels_enter names w.label k.spelt a.0) b.0) b.1;
      within = range_push (length names) (length (enter_rule names w)) rules _ (extends-length _ _ (rule_extends names w)) k.within (number_in_range names w);
      appear = ap names_of (written_more names rules w k) ∙ (names_push (spell_rules names rules) w ∙ ap (λ ns. enter_rule ns w) k.appear);
    }

-- The names that the rules would have with one more.
names_with : (names : List (List ℕ)) (rules : List Rule) (w : Written) → Kept names rules → names_of (spell_rules names rules ++ (w ∷ [])) ≡ enter_rule names w
names_with names rules w k = names_push (spell_rules names rules) w ∙ ap (λ ns. enter_rule ns w) k.appear

pub accepts : (names : List (List ℕ)) (rules : List Rule) (w : Written) → Kept names rules → spelt w ≡ true → length rules < 48 → length (enter_rule names w) ≤ 32 → add_refusal (spell_rules names rules) w ≡ None
accepts names rules w k s l m =
    let n = length-map rules (spell_rule names) in
    let e = ap length (names_with names rules w k) in
    cond-true (spelt w) _ _ s ∙ cond-true (room_for (spell_rules names rules) w) _ _ (and_from _ _ (lt-ltb (length (spell_rules names rules)) 48 (omega arith)) (le-leb (length (names_of (spell_rules names rules ++ (w ∷ [])))) 32 (omega arith)))

pub refuses_labels : (names : List (List ℕ)) (rules : List Rule) (w : Written) → Kept names rules → spelt w ≡ true → 32 < length (enter_rule names w) → add_refusal (spell_rules names rules) w ≡ Some Overfull
refuses_labels names rules w k s m =
    let e = ap length (names_with names rules w k) in
    cond-true (spelt w) _ _ s ∙ cond-false (room_for (spell_rules names rules) w) _ _ (and_right _ _ (lt-leb (length (names_of (spell_rules names rules ++ (w ∷ [])))) 32 (omega arith)))

-- What is not refused is within the limits.
pub accepted_parts : (names : List (List ℕ)) (rules : List Rule) (w : Written) → Kept names rules → add_refusal (spell_rules names rules) w ≡ None → (spelt w ≡ true) × (length rules < 48) × (length (enter_rule names w) ≤ 32)
accepted_parts names rules w k h = elim (cases_Bool (spelt w)) [
  | inl s ↦ elim (cases_Bool (room_for (spell_rules names rules) w)) [
    | inl r ↦
        let p = and_parts (ltb (length (spell_rules names rules)) 48) _ r in
        let a = ltb-true (length (spell_rules names rules)) 48 p.0 in
        let b = leb-true (length (names_of (spell_rules names rules ++ (w ∷ [])))) 32 p.1 in
        let n = length-map rules (spell_rule names) in
        let e = ap length (names_with names rules w k) in
        (s, omega arith, omega arith)
    | inr r ↦ absurd (refused_none Overfull (sym (cond-true (spelt w) _ _ s ∙ cond-false (room_for (spell_rules names rules) w) _ _ r) ∙ h))
  ]
  | inr s ↦ absurd (refused_none Misspelt (sym (cond-false (spelt w) _ _ s) ∙ h))
]
  where
    refused_none : (why : Refusal) → ◌≡◌ {A = Option Refusal} (Some why) None → ⊥
    refused_none why e = let z : ◌≡◌ {A = ℕ} 0 1 = cc in omega arith

-- ---- names that are all different

-- Each name is the first that is itself.
abbrev pub Different : List (List ℕ) → Type 0
Different names = (k : ℕ) → k < length names → index_of names (name_at names k) ≡ k

different_enter : (names : List (List ℕ)) (t : List ℕ) → Different names → Different (enter names t)
different_enter names t d = elim (cases_Bool (known names t)) [
  | inl e ↦ subst Different (sym (cond-true (known names t) _ _ e)) d
  | inr e ↦ subst Different (sym (cond-false (known names t) _ _ e)) (λ k l.
      let n = length-append names (t ∷ []) in
      let new = unknown_index names t e in
      elim (cases_lt k (length names)) [
        | inl h ↦
            let x = d k h in
            ap (index_of (names ++ (t ∷ []))) (get_or_append_left names (t ∷ []) [] k h) ∙ (index-append names (t ∷ []) (name_at names k) (omega arith) ∙ x)
        | inr h ↦
            ap (index_of (names ++ (t ∷ []))) (get_or_push names t [] k (omega arith)) ∙ (index_new names t new ∙ omega arith)
      ])
]

different_rules : (names : List (List ℕ)) (ws : List Written) → Different names → Different (enter_rules names ws)
different_rules names [] d = d
different_rules names (w ∷ ws) d = different_rules (enter_rule names w) ws
    (different_enter (enter (enter names w.label) w.first) w.second (different_enter (enter names w.label) w.first (different_enter names w.label d)))

pub kept_different : (names : List (List ℕ)) (rules : List Rule) → Kept names rules → Different names
kept_different names rules k = subst Different k.appear (different_rules [] (spell_rules names rules) (λ j l. absurd (omega arith)))

number_spell : (names : List (List ℕ)) (rules : List Rule) → Different names → all_in_range (length names) rules ≡ true → number_rules names (spell_rules names rules) ≡ rules
number_spell names [] d h = refl
number_spell names (r ∷ rules) d h =
    let q = and_parts (in_range (length names) r) _ h in
    let b = range_parts (length names) r q.0 in
    let one : number_rule names (spell_rule names r) ≡ r = λ i. record { label = record { 0 = d r.label.0 b.0 i }; first = record { 0 = d r.first.0 b.1 i }; how = r.how; second = record { 0 = d r.second.0 b.2 i } } in
    λ i. one i ∷ number_spell names rules d q.1 i

-- The rules are those that their text gives.
pub kept_rules : (names : List (List ℕ)) (rules : List Rule) → Kept names rules → rules_of (spell_rules names rules) ≡ rules
kept_rules names rules k = ap (λ ns. number_rules ns (spell_rules names rules)) k.appear ∙ number_spell names rules (kept_different names rules k) k.within

pub labels_each : (names : List (List ℕ)) → all_labels names ≡ true → (k : ℕ) → k < length names → is_label (name_at names k) ≡ true
labels_each [] h k l = absurd (omega arith)
labels_each (n ∷ names) h zero l = (and_parts (is_label n) _ h).0
labels_each (n ∷ names) h (suc k) l = labels_each names (and_parts (is_label n) _ h).1 k (omega arith)
