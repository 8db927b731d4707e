-- All periods of so many labels and places: each is among them, and has a number of its own.
use Rattle.std.proofs.Common.{◌≡◌, ℕ, zero, suc, ◌+◌, ◌<◌, ◌≤◌, Bool, true, false, not, ◌&&◌, eqb, List, [], ◌∷◌, ◌++◌, sym, refl, ◌∙◌, subst, inl, inr, arith}
use Rattle.std.specs.List.{AllByRecursion}
use Rattle.std.proofs.lemmas.Bool.{cases_Bool, cases_eq, and_parts, both_ways, or_left, or_right, or_cases, ne_eqb}
use Rattle.moments.specs.Order.{StrictTotalOrder, among}
use Rattle.pools.specs.Periods.{Span, sooner}
use Rattle.pools.specs.Sets.{in_bounds}
use Rattle.pools.specs.Cells.{cell, by_end, by_start, by_label, every, bit_number}
use Rattle.pools.specs.Laws.Earlier.{sooner_laws, same_period}
use Rattle.pools.specs.Laws.Grids.{bounds, every_inside}
use Rattle.pools.proofs.Filters.{among_here}
use Rattle.pools.proofs.Triangles.{number_same}

-- ---- what holds of each
module _ {A : Type 0} (before : A → A → Bool) (laws : StrictTotalOrder before) where
  all_among : (P : A → Type 0) (x : A) (ys : List A) → AllByRecursion P ys → among before x ys ≡ true → P x
  all_among P x [] h m = absurd (both_ways false refl m)
  all_among P x (y ∷ ys) h m = elim (or_cases (not (before x y) && not (before y x)) (among before x ys) m) [
    | inl s ↦ let parts = and_parts (not (before x y)) (not (before y x)) s in subst P (sym (laws.connected x y (negated (before x y) parts.0) (negated (before y x) parts.1))) h.0
    | inr k ↦ all_among P x ys h.1 k
  ]
    where
      negated : (b : Bool) → not b ≡ true → b ≡ false
      negated true e = sym e
      negated false e = refl

  among_left : (x : A) (xs ys : List A) → among before x xs ≡ true → among before x (xs ++ ys) ≡ true
  among_left x [] ys m = absurd (both_ways false refl m)
  among_left x (y ∷ xs) ys m = elim (or_cases (not (before x y) && not (before y x)) (among before x xs) m) [
    | inl s ↦ or_left (not (before x y) && not (before y x)) _ s
    | inr k ↦ or_right (not (before x y) && not (before y x)) _ (among_left x xs ys k)
  ]

  among_right : (x : A) (xs ys : List A) → among before x ys ≡ true → among before x (xs ++ ys) ≡ true
  among_right x [] ys m = m
  among_right x (y ∷ xs) ys m = or_right (not (before x y) && not (before y x)) _ (among_right x xs ys m)

-- ---- each
ends_in : (p : Span) (l s e n : ℕ) → p.label.0 ≡ l → p.start.0 ≡ s → e ≤ p.end.0 → p.end.0 < e + n → among sooner p (by_end l s e n) ≡ true
ends_in p l s e zero a b c d = absurd (omega arith)
ends_in p l s e (suc n) a b c d = elim (cases_eq p.end.0 e) [
  | inl q ↦ subst (λ (z : Span). among sooner p (z ∷ by_end l s (suc e) n) ≡ true) (same_period p (cell l s e) a b q) (among_here sooner sooner_laws p (by_end l s (suc e) n))
  | inr ne ↦ or_right (not (sooner p (cell l s e)) && not (sooner (cell l s e) p)) _ (ends_in p l s (suc e) n a b (omega (arith, ne)) (omega arith))
]

starts_in : (p : Span) (l s n : ℕ) → p.label.0 ≡ l → s ≤ p.start.0 → p.start.0 ≤ p.end.0 → p.end.0 < s + n → among sooner p (by_start l s n) ≡ true
starts_in p l s zero a b c d = absurd (omega arith)
starts_in p l s (suc n) a b c d = elim (cases_eq p.start.0 s) [
  | inl q ↦ among_left sooner sooner_laws p (by_end l s s (suc n)) (by_start l (suc s) n) (ends_in p l s s (suc n) a q (omega arith) d)
  | inr ne ↦ among_right sooner sooner_laws p (by_end l s s (suc n)) (by_start l (suc s) n) (starts_in p l (suc s) n a (omega (arith, ne)) c (omega arith))
]

labels_in : (p : Span) (m l n : ℕ) → l ≤ p.label.0 → p.label.0 < l + n → p.start.0 ≤ p.end.0 → p.end.0 < m → among sooner p (by_label m l n) ≡ true
labels_in p m l zero a b c d = absurd (omega arith)
labels_in p m l (suc n) a b c d = elim (cases_eq p.label.0 l) [
  | inl q ↦ among_left sooner sooner_laws p (by_start l 0 m) (by_label m (suc l) n) (starts_in p l 0 m q (omega arith) c (omega arith))
  | inr ne ↦ among_right sooner sooner_laws p (by_start l 0 m) (by_label m (suc l) n) (labels_in p m (suc l) n (omega (arith, ne)) (omega arith) c d)
]

pub every_bounds : (labels m : ℕ) (p : Span) → among sooner p (every labels m) ≡ true → in_bounds labels m p ≡ true
every_bounds labels m p h = all_among sooner sooner_laws (λ q. in_bounds labels m q ≡ true) p (every labels m) (every_inside labels m) h

pub every_in : (labels m : ℕ) (p : Span) → in_bounds labels m p ≡ true → among sooner p (every labels m) ≡ true
every_in labels m p h = let b = bounds labels m p h in let x = b.0 in labels_in p m 0 labels (omega arith) (omega arith) b.2 b.1

pub among_every : (labels m : ℕ) (p : Span) → among sooner p (every labels m) ≡ in_bounds labels m p
among_every labels m p = elim (cases_Bool (in_bounds labels m p)) [
  | inl t ↦ every_in labels m p t ∙ sym t
  | inr f ↦ elim (cases_Bool (among sooner p (every labels m))) [
    | inl u ↦ absurd (both_ways (in_bounds labels m p) f (every_bounds labels m p u))
    | inr g ↦ g ∙ sym f
  ]
]

-- two periods in bounds with one number are the same
pub number_apart : (labels m : ℕ) (p q : Span) → in_bounds labels m p ≡ true → in_bounds labels m q ≡ true → (p ≡ q → ⊥) → eqb (bit_number m p) (bit_number m q) ≡ false
number_apart labels m p q h k ne = ne_eqb (bit_number m p) (bit_number m q) (λ e.
    let a = bounds labels m p h in
    let b = bounds labels m q k in
    let s = number_same m p.label.0 p.start.0 p.end.0 q.label.0 q.start.0 q.end.0 a.2 a.1 b.2 b.1 e in
    ne (same_period p q s.0 s.1 s.2))
