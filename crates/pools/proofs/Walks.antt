-- A walk over an ascending list, from the first to the next.
use Rattle.std.proofs.Common.{◌≡◌, ℕ, zero, suc, ◌+◌, ◌<◌, ◌≤◌, Bool, true, List, [], ◌∷◌, ◌++◌, length, get_or, take, Some, None, sym, refl, ap, ◌∙◌, subst, inl, inr, add-one, arith}
use Rattle.std.specs.List.{slice_get}
use Rattle.std.proofs.lemmas.Bool.{and_parts, cases_lt}
use Rattle.std.proofs.lemmas.List.{take_more, take_all}
use Rattle.std.proofs.lemmas.Option.{slice_get-get_or, slice_get_past}
use Rattle.moments.specs.Order.{StrictTotalOrder, all_after, ascends, Ascending, least_after}
use Rattle.moments.specs.Laws.Lex.{asym}
use Rattle.moments.proofs.Ascents.{after_at, first_after}

module _ {A : Type 0} where
  pub nth_some : (xs : List A) (i : ℕ) (x : A) → Some x ≡ slice_get xs i → (i < length xs) × (get_or xs i x ≡ x)
  nth_some xs i x e = elim (cases_lt i (length xs)) [
    | inl l ↦ let q = e ∙ slice_get-get_or xs i x l in (l, (cc))
    | inr g ↦ let q = e ∙ slice_get_past xs i g in let z : ◌≡◌ {A = ℕ} 0 1 = cc in absurd (omega arith)
  ]

  nth_none : (xs : List A) (i : ℕ) → None ≡ slice_get xs i → length xs ≤ i
  nth_none xs i e = elim (cases_lt i (length xs)) [
    | inl l ↦ none xs i l e
    | inr g ↦ g
  ]
    where
      none : (xs : List A) (i : ℕ) → i < length xs → None ≡ slice_get xs i → length xs ≤ i
      none [] i l e = omega arith
      none (x ∷ xs) zero l e = let z : ◌≡◌ {A = ℕ} 0 1 = cc in absurd (omega arith)
      none (x ∷ xs) (suc i) l e = let q = none xs i (omega arith) e in omega arith

  pub walked_all : (xs items : List A) (n : ℕ) → items ≡ take n xs → None ≡ slice_get xs n → items ≡ xs
  walked_all xs items n e f = e ∙ take_all n xs (nth_none xs n f)

  pub walked_more : (xs items more : List A) (n : ℕ) (x : A) → items ≡ take n xs → Some x ≡ slice_get xs n → more ≡ items ++ x ∷ [] → more ≡ take (n + 1) xs
  walked_more xs items more n x e f g =
      let q = nth_some xs n x f in
      g ∙ (ap (λ (ys : List A). ys ++ x ∷ []) e ∙ (ap (λ (y : A). take n xs ++ y ∷ []) (sym q.1) ∙ sym (take_more xs n x q.0)))

  module _ (before : A → A → Bool) (laws : StrictTotalOrder before) where
    -- the first after the one at a place stands at the next place
    pub after-nth : (xs : List A) (i : ℕ) (x : A) → Ascending before xs → Some x ≡ slice_get xs i → least_after before x xs ≡ slice_get xs (i + 1)
    after-nth xs i x a e = go xs i a e ∙ ap (slice_get xs) (sym (add-one i))
      where
        go : (xs : List A) (i : ℕ) → Ascending before xs → Some x ≡ slice_get xs i → least_after before x xs ≡ slice_get xs (suc i)
        go [] i a e = refl
        go (y ∷ ys) zero a e =
            let parts = and_parts (all_after before y ys) (ascends before ys) a in
            let q : x ≡ y = cc in
            subst (λ (z : A). least_after before z (y ∷ ys) ≡ slice_get ys 0) (sym q) (rw (laws.irreflexive y) (first_after before laws y ys parts.0))
        go (y ∷ ys) (suc i) a e =
            let parts = and_parts (all_after before y ys) (ascends before ys) a in
            let q = nth_some ys i x e in
            let b : before y x ≡ true = subst (λ (z : A). before y z ≡ true) q.1 (after_at before laws y ys i x parts.0 q.0) in
            rw (asym before laws y x b) (go ys i parts.1 e)
