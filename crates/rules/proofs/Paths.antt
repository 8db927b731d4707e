-- What leads to what, and the rounds that find it.
use Rattle.std.proofs.Common.{◌≡◌, ℕ, zero, suc, ◌<◌, ◌≤◌, Bool, true, false, ◌&&◌, eqb, ltb, ◌⊎◌, List, [], ◌∷◌, ◌++◌, length, Decides, sym, refl, ap, ◌∙◌, subst, inl, inr, arith}
use Rattle.std.proofs.lemmas.Bool.{and_parts, and_from, and_right, or_cases, or_left, or_right, ltb-true, lt-ltb, eqb-true, eq-eqb, cases_Bool, cases_lt, cases_eq}
use Rattle.terms.specs.declared.numbers.LabelNo.{LabelNo}
use Rattle.rules.specs.declared.rule.Rule.{Rule}
use Rattle.rules.specs.Reach.{via, leads_to}
use Rattle.rules.specs.Words.{rule_by_index, ReadBy, read_by, Chain, alone, next, Leads}

-- ---- the test `read_by`

same_label : (l m : LabelNo) → eqb l.0 m.0 ≡ true → l ≡ m
same_label l m h = let e : l.0 ≡ m.0 = eqb-true l.0 m.0 h in ap (λ (n : ℕ). let r : LabelNo = record { 0 = n } in r) e

test_label : (l m : LabelNo) → l ≡ m → eqb l.0 m.0 ≡ true
test_label l m e = eq-eqb l.0 m.0 (ap (λ (n : LabelNo). n.0) e)

pub read_by_true : (rules : List Rule) (i j : ℕ) → read_by rules i j ≡ true → ReadBy rules i j
unfolding read_by
read_by_true rules i j h =
    let p = and_parts (ltb i (length rules)) _ h in
    let q = and_parts (ltb j (length rules)) _ p.1 in
    record {
      from_table = ltb-true i (length rules) p.0;
      to_table = ltb-true j (length rules) q.0;
      reads = elim (or_cases _ _ q.1) [
        | inl e ↦ inl (same_label (rule_by_index rules i).label (rule_by_index rules j).first e)
        | inr e ↦ inr (same_label (rule_by_index rules i).label (rule_by_index rules j).second e)
      ];
    }

pub true_read_by : (rules : List Rule) (i j : ℕ) → ReadBy rules i j → read_by rules i j ≡ true
unfolding read_by
true_read_by rules i j r =
    and_from _ _ (lt-ltb i (length rules) r.from_table)
    (and_from _ _ (lt-ltb j (length rules) r.to_table)
    (elim r.reads [
      | inl e ↦ or_left _ _ (test_label (rule_by_index rules i).label (rule_by_index rules j).first e)
      | inr e ↦ or_right _ _ (test_label (rule_by_index rules i).label (rule_by_index rules j).second e)
    ]))

-- ---- rounds: via k i j says that a path of one or more steps goes from i to j, through rules below k

module _ (edge : ℕ → ℕ → Bool) where
  pub via_more : (k i j : ℕ) → via edge k i j ≡ true → via edge (suc k) i j ≡ true
  via_more k i j h = or_left _ _ h

  pub via_edge : (k i j : ℕ) → edge i j ≡ true → via edge k i j ≡ true
  via_edge zero i j h = h
  via_edge (suc k) i j h = via_more k i j (via_edge k i j h)

  via_split : (k i j : ℕ) → via edge (suc k) i j ≡ true → (via edge k i j ≡ true) ⊎ ((via edge k i k ≡ true) × (via edge k k j ≡ true))
  via_split k i j h = elim (or_cases _ _ h) [ inl e ↦ inl e | inr e ↦ inr (and_parts _ _ e) ]

  via_at : (k i j : ℕ) → via edge k i k ≡ true → via edge k k j ≡ true → via edge (suc k) i j ≡ true
  via_at k i j p q = or_right _ _ (and_from _ _ p q)

  to_last : (k i : ℕ) → via edge (suc k) i k ≡ true → via edge k i k ≡ true
  to_last k i h = elim (via_split k i k h) [ inl e ↦ e | inr e ↦ e.0 ]

  from_last : (k j : ℕ) → via edge (suc k) k j ≡ true → via edge k k j ≡ true
  from_last k j h = elim (via_split k k j h) [ inl e ↦ e | inr e ↦ e.1 ]

  pub via_through : (k i m j : ℕ) → m < k → via edge k i m ≡ true → via edge k m j ≡ true → via edge k i j ≡ true
  via_through zero i m j l p q = absurd (omega arith)
  via_through (suc k) i m j l p q = elim (cases_eq m k) [
    | inl e ↦ via_at k i j (to_last k i (subst (λ (x : ℕ). via edge (suc k) i x ≡ true) e p)) (from_last k j (subst (λ (x : ℕ). via edge (suc k) x j ≡ true) e q))
    | inr ne ↦ let below : m < k = omega arith in
        elim (via_split k i m p) [
          | inl a ↦ elim (via_split k m j q) [
            | inl b ↦ via_more k i j (via_through k i m j below a b)
            | inr b ↦ via_at k i j (via_through k i m k below a b.0) b.1
          ]
          | inr a ↦ elim (via_split k m j q) [
            | inl b ↦ via_at k i j a.0 (via_through k k m j below a.1 b)
            | inr b ↦ via_at k i j a.0 b.1
          ]
        ]
  ]

-- ---- what leads to what

module _ (rules : List Rule) where
  pub chain_join : {a b c d : ℕ} {xs ys : List ℕ} → Chain rules a xs b → ReadBy rules b c → Chain rules c ys d → Chain rules a (xs ++ ys) d
  chain_join (alone h) r q = next r q
  chain_join (next s p) r q = next s (chain_join p r q)

  pub leads_one : (a b : ℕ) → ReadBy rules a b → Leads rules a b
  leads_one a b r = (a ∷ [], a, alone r.from_table, r)

  pub leads_more : (a b c : ℕ) → Leads rules a b → Leads rules b c → Leads rules a c
  leads_more a b c p q = (p.0 ++ q.0, q.1, chain_join p.2 p.3 q.2, q.3)

  pub via_leads : (k i j : ℕ) → via (read_by rules) k i j ≡ true → Leads rules i j
  via_leads zero i j h = leads_one i j (read_by_true rules i j h)
  via_leads (suc k) i j h = elim (or_cases _ _ h) [
    | inl e ↦ via_leads k i j e
    | inr e ↦ let p = and_parts _ _ e in leads_more i k j (via_leads k i k p.0) (via_leads k k j p.1)
  ]

  chain_via : {a b : ℕ} {xs : List ℕ} (j : ℕ) → Chain rules a xs b → ReadBy rules b j → via (read_by rules) (length rules) a j ≡ true
  chain_via {a} j (alone h) r = via_edge (read_by rules) (length rules) a j (true_read_by rules a j r)
  chain_via {a} j (next {b = b} s p) r = via_through (read_by rules) (length rules) a b j s.to_table (via_edge (read_by rules) (length rules) a b (true_read_by rules a b s)) (chain_via j p r)

  pub leads_via : (i j : ℕ) → Leads rules i j → via (read_by rules) (length rules) i j ≡ true
  leads_via i j l = chain_via j l.2 l.3

  pub leads_to_tells : (i j : ℕ) → Decides (leads_to rules i j) (Leads rules i j)
  unfolding leads_to
  leads_to_tells i j = (via_leads (length rules) i j, leads_via i j)

pub read_by_past : (rules : List Rule) (i j : ℕ) → (length rules ≤ i) ⊎ (length rules ≤ j) → read_by rules i j ≡ false
read_by_past rules i j o = elim (cases_Bool (read_by rules i j)) [
  | inl e ↦ let r = read_by_true rules i j e in let l = r.from_table in let m = r.to_table in elim o [ inl p ↦ absurd (omega arith) | inr p ↦ absurd (omega arith) ]
  | inr e ↦ e
]

pub all_rows : (rules : List Rule) (i j n : ℕ) → length rules ≤ n → (ltb i n && read_by rules i j) ≡ read_by rules i j
all_rows rules i j n g = elim (cases_lt i n) [
  | inl h ↦ rw (lt-ltb i n h) refl
  | inr h ↦ let p = read_by_past rules i j (inl (omega arith)) in and_right _ _ p ∙ sym p
]
