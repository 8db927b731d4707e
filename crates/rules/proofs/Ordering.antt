-- The key by which rules are put in order, and that an order by it is a working order.
use Rattle.std.proofs.Common.{◌≡◌, ℕ, zero, suc, ◌+◌, ◌<◌, ◌≤◌, Bool, true, ◌&&◌, ◌||◌, eqb, ◌⊎◌, List, length, Decides, sym, refl, ap, ◌∙◌, subst, inl, inr, arith}
use Rattle.std.specs.List.{range_with_len}
use Rattle.std.specs.Ordering.{is_lt}
use Rattle.std.proofs.lemmas.Bool.{and_parts, and_from, or_cases, or_left, or_right, or_from, eqb-true, eq-eqb, ne_eqb, cases_Bool, cases_lt, cases_order, both_ways}
use Rattle.std.proofs.lemmas.Bool.Decides.{nat_tests}
use Rattle.std.proofs.lemmas.List.{get_or_default}
use Rattle.std.proofs.lemmas.List.Folds.{Any-from_list_any}
use Rattle.std.proofs.lemmas.List.FromFn.{length-range_with_len}
use Rattle.rules.specs.declared.rule.Rule.{Rule}
use Rattle.terms.specs.declared.numbers.RuleNo.{RuleNo}
use Rattle.rules.specs.Words.{Leads, OneGroup, WorkingOrder, number_at, at}
use Rattle.rules.specs.Keys.{Key, key_cmp, key_of, rank_of, leader_of, InOrder}
use Rattle.rules.proofs.Counts.{count_le, count_less, first_is_lowest, range_at, Lowest}
use Rattle.rules.proofs.Paths.{leads_one, leads_more}
use Rattle.rules.proofs.Rings.{one_ring_leads, leads_one_ring}

-- ---- three numbers, compared in turn

abbrev Lex : Key → Key → Type 0
Lex a b = (a.0 < b.0) ⊎ ((a.0 ≡ b.0) × ((a.1 < b.1) ⊎ ((a.1 ≡ b.1) × (a.2 < b.2))))

lex_from_lt : (a b c x y z : ℕ) → is_lt (key_cmp (a, b, c) (x, y, z)) ≡ true → Lex (a, b, c) (x, y, z)
lex_from_lt a b c x y z h = grind (arith, nat_tests)

lex_not : (a : Key) → Lex a a → ⊥
lex_not a (inl h) = omega arith
lex_not a (inr h) = elim h.1 [ inl u ↦ omega arith | inr u ↦ let k = u.1 in omega arith ]

lex_both : (a b : Key) → Lex a b → Lex b a → ⊥
lex_both a b (inl h) (inl k) = omega arith
lex_both a b (inl h) (inr k) = let e = k.0 in omega arith
lex_both a b (inr h) (inl k) = let e = h.0 in omega arith
lex_both a b (inr h) (inr k) = elim h.1 [
  | inl u ↦ elim k.1 [ inl v ↦ omega arith | inr v ↦ let e = v.0 in omega arith ]
  | inr u ↦ let f = u.1 in let e = u.0 in elim k.1 [ inl v ↦ omega arith | inr v ↦ let g = v.1 in omega arith ]
]

-- ---- an order by the key

module _ (leads : ℕ → ℕ → Bool) (n : ℕ) where
  abbrev Sooner : ℕ → ℕ → Type 0
  Sooner i j = Lex (key_of leads n i) (key_of leads n j)

  module _ (order : List RuleNo) (o : InOrder leads n order) where
    pub sooner : (p q : ℕ) → p < q → q < length order → Sooner (at order p) (at order q)
    sooner p q l m = lex_from_lt _ _ _ _ _ _ (o.ascends p q l m)

    -- no rule stands twice
    pub once : (p q : ℕ) → p < length order → q < length order → at order p ≡ at order q → p ≡ q
    once p q l m e = elim (cases_order p q) [
      | inl f ↦ f
      | inr f ↦ elim f [
        | inl g ↦ absurd (lex_not _ (subst (λ (i : ℕ). Sooner (at order p) i) (sym e) (sooner p q g m)))
        | inr g ↦ absurd (lex_not _ (subst (λ (i : ℕ). Sooner (at order q) i) e (sooner q p g l)))
      ]
    ]

    pub all : (i : ℕ) → i < n → (p : ℕ) × (p < length order) × (at order p ≡ i)
    all i l =
        let a = Any-from_list_any (λ (no : RuleNo). eqb no.0 (i + 1)) order (o.every i l) in
        let f : a.1.0 ≡ i + 1 = eqb-true a.1.0 (i + 1) a.4 in
        let e : number_at order a.0 ≡ a.1.0 = ap (λ (no : RuleNo). no.0) (get_or_default order a.0 (record { 0 = 0 }) a.1 a.2 ∙ a.3) in
        (a.0, a.2, omega arith)

  -- There is one such order only: two have the same rule at each place.
  module _ (xs ys : List RuleNo) (a : InOrder leads n xs) (b : InOrder leads n ys) where
    -- where they agree below p, the rule at p of one stands at p or later in the other
    later : (us vs : List RuleNo) (c : InOrder leads n us) (d : InOrder leads n vs) (p : ℕ) → p < n → ((k : ℕ) → k < p → at us k ≡ at vs k) → (q : ℕ) × (q < length vs) × (at vs q ≡ at us p) × (p ≤ q)
    later us vs c d p l same =
        let long = c.long in
        let f = all vs d (at us p) (c.numbered p (omega arith)).1 in
        (f.0, f.1, f.2, elim (cases_lt f.0 p) [ inl h ↦ let e = once us c f.0 p (omega arith) (omega arith) (same f.0 h ∙ f.2) in absurd (omega arith) | inr h ↦ h ])

    agree : (m p : ℕ) → p < m → m ≤ n → at xs p ≡ at ys p
    agree zero p l h = absurd (omega arith)
    agree (suc m) p l h = elim (cases_lt p m) [
      | inl g ↦ agree m p g (omega arith)
      | inr g ↦
          let low : (k : ℕ) → k < p → at xs k ≡ at ys k = λ k g'. agree m k (omega arith) (omega arith) in
          let f = later xs ys a b p (omega arith) low in
          let r = later ys xs b a p (omega arith) (λ k g'. sym (low k g')) in
          elim (cases_lt p f.0) [
            | inl u ↦ elim (cases_lt p r.0) [
              | inl v ↦ absurd (lex_both _ _ (subst (λ (i : ℕ). Sooner (at ys p) i) f.2 (sooner ys b p f.0 u f.1)) (subst (λ (i : ℕ). Sooner (at xs p) i) r.2 (sooner xs a p r.0 v r.1)))
              | inr v ↦ let e : p ≡ r.0 = omega (arith, r.3) in ap (at xs) e ∙ r.2
            ]
            | inr u ↦ let e : p ≡ f.0 = omega (arith, f.3) in sym (ap (at ys) e ∙ f.2)
          ]
    ]

    pub only_one : (p : ℕ) → p < n → at xs p ≡ at ys p
    only_one p l = agree n p l (omega arith)

-- ---- what the key says of groups

module _ (rules : List Rule) (leads : ℕ → ℕ → Bool) (tells : (i j : ℕ) → Decides (leads i j) (Leads rules i j)) where
  pub leads_trans : (i j k : ℕ) → leads i j ≡ true → leads j k ≡ true → leads i k ≡ true
  leads_trans i j k a b = (tells i k).1 (leads_more rules i j k ((tells i j).0 a) ((tells j k).0 b))

  abbrev pub Grouped : ℕ → ℕ → Type 0
  Grouped i j = (i ≡ j) ⊎ ((leads i j ≡ true) × (leads j i ≡ true))

  pub grouped : (i j : ℕ) → OneGroup rules i j → Grouped i j
  grouped i j (inl e) = inl e
  grouped i j (inr o) = let p = one_ring_leads rules i j o in inr ((tells i j).1 p.0, (tells j i).1 p.1)

  pub one_group_lem : (i j : ℕ) → Grouped i j → OneGroup rules i j
  one_group_lem i j (inl e) = inl e
  one_group_lem i j (inr o) = inr (leads_one_ring rules i j ((tells i j).0 o.0) ((tells j i).0 o.1))

  pub grouped_sym : (i j : ℕ) → Grouped i j → Grouped j i
  grouped_sym i j (inl e) = inl (sym e)
  grouped_sym i j (inr o) = inr (o.1, o.0)

  pub grouped_trans : (i j k : ℕ) → Grouped i j → Grouped j k → Grouped i k
  grouped_trans i j k (inl e) b = subst (λ (x : ℕ). Grouped x k) (sym e) b
  grouped_trans i j k (inr a) (inl e) = subst (λ (x : ℕ). Grouped i x) e (inr a)
  grouped_trans i j k (inr a) (inr b) = inr (leads_trans i j k a.0 b.0, leads_trans k j i b.1 a.1)

  -- the rank
  fore : (i j : ℕ) → leads i j ≡ true → (k : ℕ) → (eqb k i || leads k i) ≡ true → (eqb k j || leads k j) ≡ true
  fore i j h k g = elim (or_cases (eqb k i) (leads k i) g) [
    | inl e ↦ or_right _ _ (subst (λ (x : ℕ). leads x j ≡ true) (sym (eqb-true k i e)) h)
    | inr e ↦ or_right _ _ (leads_trans k i j e h)
  ]

  rank_ring : (n i j : ℕ) → leads i j ≡ true → leads j i ≡ true → rank_of leads n i ≡ rank_of leads n j
  unfolding rank_of
  rank_ring n i j a b =
      let x = count_le (λ m. eqb m i || leads m i) (λ m. eqb m j || leads m j) (fore i j a) (range_with_len 0 n) in
      let y = count_le (λ m. eqb m j || leads m j) (λ m. eqb m i || leads m i) (fore j i b) (range_with_len 0 n) in
      omega arith

  rank_same : (n i j : ℕ) → Grouped i j → rank_of leads n i ≡ rank_of leads n j
  rank_same n i j (inl e) = ap (λ (k : ℕ). rank_of leads n k) e
  rank_same n i j (inr o) = rank_ring n i j o.0 o.1

  rank_less : (n i j : ℕ) → j < n → leads i j ≡ true → (Grouped i j → ⊥) → rank_of leads n i < rank_of leads n j
  unfolding rank_of
  rank_less n i j l h ne =
      let at_j = range_at n j l in
      count_less (λ m. eqb m i || leads m i) (λ m. eqb m j || leads m j) (fore i j h) (range_with_len 0 n) j 0 (omega (arith, length-range_with_len 0 n))
      (ap (λ (m : ℕ). eqb m i || leads m i) at_j ∙ or_from (eqb j i) (leads j i) (ne_eqb j i (λ e. ne (inl (sym e)))) (elim (cases_Bool (leads j i)) [ inl e ↦ absurd (ne (inr (h, e))) | inr e ↦ e ]))
      (ap (λ (m : ℕ). eqb m j || leads m j) at_j ∙ or_left (eqb j j) (leads j j) (eq-eqb j j refl))

  -- the leader
  leader_lowest : (i : ℕ) → Lowest (λ m. leads m i && leads i m) i (leader_of leads i)
  unfolding leader_of
  leader_lowest i = first_is_lowest (λ m. leads m i && leads i m) i

  leader_grouped : (i : ℕ) → Grouped (leader_of leads i) i
  leader_grouped i = let o = leader_lowest i in let w = o.within in elim (cases_lt (leader_of leads i) i) [
    | inl l ↦ inr (and_parts (leads (leader_of leads i) i) (leads i (leader_of leads i)) (o.passes l))
    | inr g ↦ inl (omega arith)
  ]

  -- no rule of the group is lower
  leader_low : (i m : ℕ) → Grouped m i → leader_of leads i ≤ m
  leader_low i m g = let o = leader_lowest i in let w = o.within in elim (cases_lt m (leader_of leads i)) [
    | inl l ↦ elim g [
      | inl e ↦ absurd (omega arith)
      | inr b ↦ absurd (both_ways (leads m i && leads i m) (o.none_below m l) (and_from (leads m i) (leads i m) b.0 b.1))
    ]
    | inr h ↦ h
  ]

  leader_same : (i j : ℕ) → Grouped i j → leader_of leads i ≡ leader_of leads j
  leader_same i j g =
      let a = leader_low i (leader_of leads j) (grouped_trans (leader_of leads j) j i (leader_grouped j) (grouped_sym i j g)) in
      let b = leader_low j (leader_of leads i) (grouped_trans (leader_of leads i) i j (leader_grouped i) g) in
      omega arith

  leader_group : (i j : ℕ) → leader_of leads i ≡ leader_of leads j → Grouped i j
  leader_group i j e =
      grouped_trans i (leader_of leads i) j (grouped_sym (leader_of leads i) i (leader_grouped i)) (subst (λ (m : ℕ). Grouped m j) (sym e) (leader_grouped j))

  -- ---- the order

  module _ (order : List RuleNo) (o : InOrder leads (length rules) order) where
    between : (p q r : ℕ) → p < q → q < r → r < length order → Grouped (at order p) (at order r) → leader_of leads (at order p) ≡ leader_of leads (at order q)
    between p q r l m h g =
        let s = sooner leads (length rules) order o p q l (omega arith) in
        let t = sooner leads (length rules) order o q r m h in
        let e = rank_same (length rules) (at order p) (at order r) g in
        let f = leader_same (at order p) (at order r) g in
        elim s [
          | inl a ↦ elim t [ inl b ↦ absurd (omega arith) | inr b ↦ let u = b.0 in absurd (omega arith) ]
          | inr a ↦ let v = a.0 in elim t [
            | inl b ↦ absurd (omega arith)
            | inr b ↦ elim a.1 [
              | inl x ↦ elim b.1 [ inl y ↦ absurd (omega arith) | inr y ↦ let z = y.0 in absurd (omega arith) ]
              | inr x ↦ x.0
            ]
          ]
        ]

    ascending : (p q : ℕ) → p < q → q < length order → Grouped (at order p) (at order q) → at order p < at order q
    ascending p q l m g =
        let e = rank_same (length rules) (at order p) (at order q) g in
        let f = leader_same (at order p) (at order q) g in
        elim (sooner leads (length rules) order o p q l m) [
          | inl a ↦ absurd (omega arith)
          | inr a ↦ elim a.1 [ inl x ↦ absurd (omega arith) | inr x ↦ x.1 ]
        ]

    onward : (p q : ℕ) → p < length order → q < length order → leads (at order p) (at order q) ≡ true → (Grouped (at order p) (at order q) → ⊥) → p < q
    onward p q l m h ne =
        let r = rank_less (length rules) (at order p) (at order q) (o.numbered q m).1 h ne in
        elim (cases_order p q) [
          | inl e ↦ absurd (ne (inl (ap (λ (k : ℕ). at order k) e)))
          | inr c ↦ elim c [
            | inl d ↦ d
            | inr d ↦ elim (sooner leads (length rules) order o q p d l) [ inl a ↦ absurd (omega arith) | inr a ↦ let e = a.0 in absurd (omega arith) ]
          ]
        ]

    pub working : WorkingOrder rules order
    working = record {
      long = o.long;
      only = o.numbered;
      all = all leads (length rules) order o;
      once = once leads (length rules) order o;
      together = λ p q r l m h g. one_group_lem (at order p) (at order q) (leader_group (at order p) (at order q) (between p q r l m h (grouped (at order p) (at order r) g)));
      ascends = λ p q l m g. ascending p q l m (grouped (at order p) (at order q) g);
      forward = λ p q l m r ne. onward p q l m ((tells (at order p) (at order q)).1 (leads_one rules (at order p) (at order q) r)) (λ g. ne (one_group_lem (at order p) (at order q) g));
    }
