-- Rings, by what leads to what.
use Rattle.std.proofs.Common.{◌≡◌, ℕ, ◌+◌, ◌-◌, ◌<◌, ◌⊎◌, List, [], ◌∷◌, ◌++◌, sym, refl, subst, inl, inr, arith}
use mathlib.Core.List.Memᴰ
use mathlib.Core.List.{Memᴰ}
use Rattle.rules.specs.declared.rule.Rule.{Rule}
use Rattle.rules.specs.Words.{ReadBy, Chain, alone, next, Leads, InRing, InOneRing, Barred, LowestBarred}
use Rattle.rules.proofs.Paths.{chain_join, leads_one, leads_more}

module _ (rules : List Rule) where
  chain_first : {a b : ℕ} {xs : List ℕ} → Chain rules a xs b → Memᴰ a xs
  chain_first (alone h) = Memᴰ.head refl
  chain_first (next r p) = Memᴰ.head refl

  -- A rule of a chain is its first or is led to by it, and a chain goes on from it.
  abbrev Split : ℕ → ℕ → ℕ → Type 0
  Split h a l = ((h ≡ a) ⊎ Leads rules h a) × ((ys : List ℕ) × Chain rules a ys l)

  step_on : (h b a : ℕ) → ReadBy rules h b → (b ≡ a) ⊎ Leads rules b a → Leads rules h a
  step_on h b a r (inl e) = leads_one rules h a (subst (λ (x : ℕ). ReadBy rules h x) e r)
  step_on h b a r (inr l) = leads_more rules h b a (leads_one rules h b r) l

  chain_split : {h l : ℕ} {xs : List ℕ} (a : ℕ) → Chain rules h xs l → Memᴰ a xs → Split h a l
  chain_split {h} {l} a (alone t) m = elim (Memᴰ.cases_cons m) [
    | inl e ↦ (inl (sym e), (h ∷ [], subst (λ (x : ℕ). Chain rules x (h ∷ []) h) (sym e) (alone t)))
    | inr n ↦ absurd (Memᴰ.not-nil n)
  ]
  chain_split {h} {l} a (next {b = b} {xs = xs} r p) m = elim (Memᴰ.cases_cons m) [
    | inl e ↦ (inl (sym e), (h ∷ xs, subst (λ (x : ℕ). Chain rules x (h ∷ xs) l) (sym e) (next r p)))
    | inr n ↦ let s = chain_split a p n in (inr (step_on h b a r s.0), s.1)
  ]

  -- Each rule of a ring leads to each.
  round : (h l a b : ℕ) → ReadBy rules l h → Split h a l → Split h b l → Leads rules a b
  round h l a b r s t =
      let back : Leads rules a h = (s.1.0, l, s.1.1, r) in
      elim t.0 [ inl e ↦ subst (λ (x : ℕ). Leads rules a x) e back | inr n ↦ leads_more rules a h b back n ]

  pub ring_leads : (a : ℕ) → InRing rules a → Leads rules a a
  ring_leads a o =
      let s = chain_split a o.1.2 o.2 in
      round o.1.0 o.1.1 a a o.1.3 s s

  pub one_ring_leads : (a b : ℕ) → InOneRing rules a b → Leads rules a b × Leads rules b a
  one_ring_leads a b o =
      let s = chain_split a o.1.2 o.2 in
      let t = chain_split b o.1.2 o.3 in
      (round o.1.0 o.1.1 a b o.1.3 s t, round o.1.0 o.1.1 b a o.1.3 t s)

  pub leads_ring : (a : ℕ) → Leads rules a a → InRing rules a
  leads_ring a l = (l.0, (a, l.1, l.2, l.3), chain_first l.2)

  pub leads_one_ring : (a b : ℕ) → Leads rules a b → Leads rules b a → InOneRing rules a b
  leads_one_ring a b p q =
      (p.0 ++ q.0, (a, q.1, chain_join rules p.2 p.3 q.2, q.3), Memᴰ.append_left q.0 (chain_first p.2), Memᴰ.append_right p.0 (chain_first q.2))

  -- an exclusive rule in a ring, and none below it, by number
  pub lowest_barred : (i : ℕ) → Barred rules i → ((k : ℕ) → k < i → Barred rules k → ⊥) → LowestBarred rules (record { 0 = i + 1 })
  lowest_barred i b low =
      let e : i ≡ (i + 1) - 1 = omega arith in
      record { numbered = omega arith; barred = subst (λ (k : ℕ). Barred rules k) e b; lowest = λ k l. low k (omega arith) }
