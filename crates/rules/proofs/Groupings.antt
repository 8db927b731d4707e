-- The parts of a working order are its groups.
use Rattle.std.proofs.Common.{◌≡◌, ℕ, zero, suc, pred, ◌<◌, ◌≤◌, Bool, true, ◌&&◌, eqb, List, length, Decides, sym, ap, ◌∙◌, subst, inl, inr, arith}
use Rattle.std.proofs.lemmas.Bool.{and_parts, and_from, or_cases, or_left, or_right, eqb-true, eq-eqb, cases_lt, cases_eq, cases_order, both_ways}
use Rattle.terms.specs.declared.numbers.RuleNo.{RuleNo}
use Rattle.rules.specs.declared.group.Group.{Group}
use Rattle.rules.specs.declared.rule.Rule.{Rule}
use Rattle.rules.specs.Words.{Leads, InRing, OneGroup, WorkingOrder, Grouping, Holds, at, start_of, end_of, ringed_at}
use Rattle.rules.specs.Keys.{one_group, PartsTo}
use Rattle.rules.proofs.Rings.{ring_leads, leads_ring}
use Rattle.rules.proofs.Ordering.{Grouped, grouped, one_group_lem, grouped_sym, grouped_trans, leads_trans}

-- ---- places and parts

module _ (groups : List Group) (leads : ℕ → ℕ → Bool) (order : List RuleNo) (n : ℕ) (o : PartsTo leads order n groups n) where
  -- each place before the end of a part is in a part
  covered : (k : ℕ) → k < length groups → (p : ℕ) → p < end_of groups k → (g : ℕ) × Holds groups g p
  covered zero l p h = let s = o.first l in (0, record { in_list = l; from = omega arith; upto = h })
  covered (suc k) l p h = elim (cases_lt p (end_of groups k)) [
    | inl m ↦ covered k (omega arith) p m
    | inr m ↦ let s = o.next k l in (suc k, record { in_list = l; from = omega arith; upto = h })
  ]

  pub covers : (p : ℕ) → p < n → (g : ℕ) × Holds groups g p
  covers p h = elim (cases_eq (length groups) 0) [
    | inl e ↦ let z = o.none e in absurd (omega arith)
    | inr ne ↦ let m : suc (pred (length groups)) ≡ length groups = omega arith in let e = o.last (pred (length groups)) m in covered (pred (length groups)) (omega arith) p (omega arith)
  ]

  pub in_turn : (g h : ℕ) → g < h → h < length groups → end_of groups g ≤ start_of groups h
  in_turn g zero l m = absurd (omega arith)
  in_turn g (suc h) l m = let e = o.next h m in elim (cases_eq g h) [
    | inl f ↦ let s = ap (end_of groups) f in omega arith
    | inr ne ↦ let i = in_turn g h (omega arith) (omega arith) in let s = (o.sized h (omega arith)).0 in omega arith
  ]

-- ---- parts and groups

module _ (rules : List Rule) (leads : ℕ → ℕ → Bool) (tells : (i j : ℕ) → Decides (leads i j) (Leads rules i j)) where
  pub one_grouped : (i j : ℕ) → one_group leads i j ≡ true → Grouped rules leads tells i j
  one_grouped i j h = elim (or_cases (eqb i j) (leads i j && leads j i) h) [
    | inl e ↦ inl (eqb-true i j e)
    | inr e ↦ inr (and_parts (leads i j) (leads j i) e)
  ]

  pub grouped_one : (i j : ℕ) → Grouped rules leads tells i j → one_group leads i j ≡ true
  grouped_one i j (inl e) = or_left (eqb i j) _ (eq-eqb i j e)
  grouped_one i j (inr p) = or_right (eqb i j) (leads i j && leads j i) (and_from _ _ p.0 p.1)

  -- a rule leads to itself if another of its group does
  leads_along : (i j : ℕ) → Grouped rules leads tells i j → leads i i ≡ true → leads j j ≡ true
  leads_along i j (inl e) h = subst (λ (k : ℕ). leads k k ≡ true) e h
  leads_along i j (inr p) h = leads_trans rules leads tells j i j p.1 p.0

  module _ (groups : List Group) (order : List RuleNo) (o : PartsTo leads order (length rules) groups (length rules)) (w : WorkingOrder rules order) where
    start_one : (g p : ℕ) → Holds groups g p → Grouped rules leads tells (at order (start_of groups g)) (at order p)
    start_one g p h = one_grouped (at order (start_of groups g)) (at order p) (o.inside g p h)

    one : (g p q : ℕ) → Holds groups g p → Holds groups g q → OneGroup rules (at order p) (at order q)
    one g p q h k = one_group_lem rules leads tells (at order p) (at order q)
        (grouped_trans rules leads tells (at order p) (at order (start_of groups g)) (at order q) (grouped_sym rules leads tells (at order (start_of groups g)) (at order p) (start_one g p h)) (start_one g q k))

    -- the rule after a part is not of its group, so no later one is
    apart : (g h p q : ℕ) → g < h → Holds groups g p → Holds groups h q → OneGroup rules (at order p) (at order q) → ⊥
    apart g h p q l a b e =
        let s = start_of groups g in
        let len = w.long in
        let t = in_turn groups leads order (length rules) o g h l b.in_list in
        let u = o.sized h b.in_list in
        let v = o.sized g a.in_list in
        let below = v.0 in let most = u.1 in let from = b.from in let upto = b.upto in
        let far : Grouped rules leads tells (at order s) (at order q) =
        grouped_trans rules leads tells (at order s) (at order p) (at order q) (start_one g p a) (grouped rules leads tells (at order p) (at order q) e) in
        let near : Grouped rules leads tells (at order s) (at order (end_of groups g)) = elim (cases_eq (end_of groups g) q) [
          | inl f ↦ subst (λ (k : ℕ). Grouped rules leads tells (at order s) (at order k)) (sym f) far
          | inr ne ↦ grouped rules leads tells (at order s) (at order (end_of groups g))
              (w.together s (end_of groups g) q (omega arith) (omega arith) (omega arith) (one_group_lem rules leads tells (at order s) (at order q) far))
        ] in
        both_ways (one_group leads (at order s) (at order (end_of groups g))) (o.outside g a.in_list (omega arith)) (grouped_one (at order s) (at order (end_of groups g)) near)

    others : (g h p q : ℕ) → (g ≡ h → ⊥) → Holds groups g p → Holds groups h q → OneGroup rules (at order p) (at order q) → ⊥
    others g h p q ne a b e = elim (cases_order g h) [
      | inl f ↦ ne f
      | inr d ↦ elim d [
        | inl l ↦ apart g h p q l a b e
        | inr l ↦ apart h g q p l b a
            (one_group_lem rules leads tells (at order q) (at order p) (grouped_sym rules leads tells (at order p) (at order q) (grouped rules leads tells (at order p) (at order q) e)))
      ]
    ]

    ringed : (g p : ℕ) → Holds groups g p → Decides (ringed_at groups g) (InRing rules (at order p))
    ringed g p h =
        let e = o.ringed g h.in_list in
        let s = at order (start_of groups g) in (
          λ r. leads_ring rules (at order p) ((tells (at order p) (at order p)).0 (leads_along s (at order p) (start_one g p h) (sym e ∙ r))),
          λ r. e ∙ leads_along (at order p) s (grouped_sym rules leads tells s (at order p) (start_one g p h)) ((tells (at order p) (at order p)).1 (ring_leads rules (at order p) r)),
        )

    pub grouping : Grouping rules order groups
    grouping = record {
      within = λ g l. let s = o.sized g l in let a = s.0 in let b = s.1 in let len = w.long in (a, omega arith);
      covers = λ p l. let len = w.long in covers groups leads order (length rules) o p (omega arith);
      in_turn = in_turn groups leads order (length rules) o;
      one = one;
      others = others;
      ringed = ringed;
    }
