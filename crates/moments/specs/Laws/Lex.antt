-- An order by one thing first, then by the rest, keeps the laws of an order.
use Rattle.std.specs.Prelude.{◌≡◌, Bool, true, false, ◌⊎◌, nat_lt, refl}
use Rattle.std.proofs.Common.{sym, subst, ◌∙◌, inl, inr, arith}
use Rattle.std.proofs.lemmas.Bool.{cases_Bool, both_ways, lt-ltb, le-ltb, ltb-true, ltb-false}
use Rattle.moments.specs.Order.{StrictTotalOrder, first_by}

module _ {A : Type 0} (before : A → A → Bool) (laws : StrictTotalOrder before) where
  -- of two values at most one comes before the other
  pub asym : (x y : A) → before x y ≡ true → before y x ≡ false
  asym x y h = elim (cases_Bool (before y x)) [
    | inl t ↦ absurd (both_ways (before x x) (laws.irreflexive x) (laws.transitive x y x h t))
    | inr f ↦ f
  ]

pub nat_lt_laws : StrictTotalOrder nat_lt
nat_lt_laws = record {
  irreflexive = λ x. le-ltb x x (omega arith);
  connected = λ x y h k. omega (arith, ltb-false x y h, ltb-false y x k);
  transitive = λ x y z h k. lt-ltb x z (omega (arith, ltb-true x y h, ltb-true y z k));
}

module _ {X A : Type 0} (before : A → A → Bool) (laws : StrictTotalOrder before) (part : X → A) (rest : X → X → Bool) where
  pub first_less : (x y : X) → before (part x) (part y) ≡ true → first_by before part rest x y ≡ true
  first_less x y h = rw h refl

  pub first_more : (x y : X) → before (part y) (part x) ≡ true → first_by before part rest x y ≡ false
  first_more x y h = rw (h, asym before laws (part y) (part x) h) refl

  pub first_same : (x y : X) → part x ≡ part y → first_by before part rest x y ≡ rest x y
  first_same x y e =
      let a : before (part x) (part y) ≡ false = subst (λ (z : A). before (part x) z ≡ false) e (laws.irreflexive (part x)) in
      let b : before (part y) (part x) ≡ false = subst (λ (z : A). before z (part x) ≡ false) e (laws.irreflexive (part x)) in
      rw (a, b) refl

  pub first_true : (x y : X) → first_by before part rest x y ≡ true → (before (part x) (part y) ≡ true) ⊎ ((part x ≡ part y) × (rest x y ≡ true))
  first_true x y h = elim (cases_Bool (before (part x) (part y))) [
    | inl t ↦ inl t
    | inr f ↦ elim (cases_Bool (before (part y) (part x))) [
      | inl u ↦ absurd (both_ways (first_by before part rest x y) (first_more x y u) h)
      | inr g ↦ let e = laws.connected (part x) (part y) f g in inr (e, sym (first_same x y e) ∙ h)
    ]
  ]

  pub first_irreflexive : ((x : X) → rest x x ≡ false) → (x : X) → first_by before part rest x x ≡ false
  first_irreflexive r x = first_same x x refl ∙ r x

  pub first_transitive : ((x y z : X) → rest x y ≡ true → rest y z ≡ true → rest x z ≡ true) → (x y z : X) → first_by before part rest x y ≡ true → first_by before part rest y z ≡ true → first_by before part rest x z ≡ true
  first_transitive r x y z h k = elim (first_true x y h) [
    | inl l ↦ elim (first_true y z k) [
      | inl m ↦ first_less x z (laws.transitive (part x) (part y) (part z) l m)
      | inr e ↦ first_less x z (subst (λ (v : A). before (part x) v ≡ true) e.0 l)
    ]
    | inr e ↦ elim (first_true y z k) [
      | inl m ↦ first_less x z (subst (λ (v : A). before v (part z) ≡ true) (sym e.0) m)
      | inr u ↦ first_same x z (e.0 ∙ u.0) ∙ r x y z e.1 u.1
    ]
  ]

  pub first_connected : (x y : X) → first_by before part rest x y ≡ false → first_by before part rest y x ≡ false → (part x ≡ part y) × (rest x y ≡ false) × (rest y x ≡ false)
  first_connected x y h k = elim (cases_Bool (before (part x) (part y))) [
    | inl t ↦ absurd (both_ways (first_by before part rest x y) h (first_less x y t))
    | inr f ↦ elim (cases_Bool (before (part y) (part x))) [
      | inl u ↦ absurd (both_ways (first_by before part rest y x) k (first_less y x u))
      | inr g ↦ let e = laws.connected (part x) (part y) f g in (e, sym (first_same x y e) ∙ h, sym (first_same y x (sym e)) ∙ k)
    ]
  ]
