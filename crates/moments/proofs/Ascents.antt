-- Lists that ascend by a strict total order.
use Rattle.std.specs.Prelude.{◌≡◌, ℕ, zero, suc, ◌+◌, ◌<◌, ◌≤◌, Bool, true, false, cond, not, ◌&&◌, List, [], ◌∷◌, ◌++◌, length, take, drop, Ok, Err, Option, nat_lt, slice_index_or, refl}
use Rattle.std.proofs.Common.{sym, ap, subst, ◌∙◌, inl, inr, arith, add-one}
use mathlib.Core.List.Memᴰ
use mathlib.Core.List.{Memᴰ}
use Rattle.std.specs.List.{slice_get}
use Rattle.std.proofs.lemmas.Bool.{cases_Bool, and_parts, and_from, both_ways, or_cases, or_right, not-true, cond-true, cond-false, lt-ltb, le-ltb, cases_lt}
use Rattle.moments.specs.Laws.Lex.{asym}
use Rattle.moments.specs.Order.{StrictTotalOrder, all_after, ascends, Ascending, among, rank, with, least_after, found}

ltb_suc : (a b : ℕ) → nat_lt (suc a) (suc b) ≡ nat_lt a b
ltb_suc a b = elim (cases_lt a b) [
  | inl l ↦ lt-ltb (suc a) (suc b) (omega arith) ∙ sym (lt-ltb a b l)
  | inr g ↦ le-ltb (suc a) (suc b) (omega arith) ∙ sym (le-ltb a b g)
]

module _ {A : Type 0} (before : A → A → Bool) (laws : StrictTotalOrder before) where
  pub rank_le : (x : A) (ys : List A) → rank before x ys ≤ length ys
  rank_le x [] = omega arith
  rank_le x (y ∷ ys) = let ih = rank_le x ys in elim (cases_Bool (before y x)) [
    | inl t ↦ rw t (omega arith)
    | inr f ↦ rw f (omega arith)
  ]

  pub after_at : (x : A) (ys : List A) (k : ℕ) (d : A) → all_after before x ys ≡ true → k < length ys → before x (slice_index_or ys k d) ≡ true
  after_at x [] k d a l = absurd (omega arith)
  after_at x (y ∷ ys) zero d a l = (and_parts (before x y) (all_after before x ys) a).0
  after_at x (y ∷ ys) (suc k) d a l = after_at x ys k d (and_parts (before x y) (all_after before x ys) a).1 (omega arith)

  pub after_further : (x y : A) (ys : List A) → before x y ≡ true → all_after before y ys ≡ true → all_after before x ys ≡ true
  after_further x y [] h a = refl
  after_further x y (z ∷ zs) h a =
      let parts = and_parts (before y z) (all_after before y zs) a in
      and_from (before x z) (all_after before x zs) (laws.transitive x y z h parts.0) (after_further x y zs h parts.1)

  pub among_none : (x : A) (ys : List A) → all_after before x ys ≡ true → among before x ys ≡ false
  among_none x [] a = refl
  among_none x (y ∷ ys) a =
      let parts = and_parts (before x y) (all_after before x ys) a in
      rw parts.0 (among_none x ys parts.1)

  -- of an ascending list x is one just where what stands at its place is not after it
  pub among_at : (x : A) (ys : List A) (d : A) → Ascending before ys → among before x ys ≡ (nat_lt (rank before x ys) (length ys) && not (before x (slice_index_or ys (rank before x ys) d)))
  among_at x [] d a = refl
  among_at x (y ∷ ys) d a =
      let parts = and_parts (all_after before y ys) (ascends before ys) a in
      let ih = among_at x ys d parts.1 in
      elim (cases_Bool (before y x)) [
        | inl t ↦ rw (t, asym before laws y x t) (ih ∙ ap (λ (b : Bool). b && not (before x (slice_index_or ys (rank before x ys) d))) (sym (ltb_suc (rank before x ys) (length ys))))
        | inr f ↦ rw f (elim (cases_Bool (before x y)) [
          | inl t ↦ rw (t, lt-ltb 0 (length (y ∷ ys)) (omega arith)) (among_none x ys (after_further x y ys t parts.0))
          | inr g ↦ rw (g, lt-ltb 0 (length (y ∷ ys)) (omega arith)) refl
        ])
      ]

  pub with_there : (x : A) (ys : List A) → Ascending before ys → among before x ys ≡ true → with before x ys ≡ ys
  with_there x [] a m = absurd (both_ways false refl m)
  with_there x (y ∷ ys) a m =
      let parts = and_parts (all_after before y ys) (ascends before ys) a in
      elim (cases_Bool (before x y)) [
        | inl t ↦ absurd (both_ways (among before x (y ∷ ys)) (rw t (among_none x ys (after_further x y ys t parts.0))) m)
        | inr f ↦ rw f (elim (cases_Bool (before y x)) [
          | inl t ↦ rw t (ap (λ (zs : List A). y ∷ zs) (with_there x ys parts.1 (rw (f, t) at m)))
          | inr g ↦ rw g refl
        ])
      ]

  pub with_new : (x : A) (ys : List A) → among before x ys ≡ false → with before x ys ≡ take (rank before x ys) ys ++ x ∷ drop (rank before x ys) ys
  with_new x [] m = refl
  with_new x (y ∷ ys) m =
      elim (cases_Bool (before x y)) [
        | inl t ↦ rw (t, asym before laws x y t) refl
        | inr f ↦ rw f (elim (cases_Bool (before y x)) [
          | inl t ↦ rw t (ap (λ (zs : List A). y ∷ zs) (with_new x ys (rw (f, t) at m)))
          | inr g ↦ absurd (both_ways true (rw (f, g) at m) refl)
        ])
      ]

  pub after_with : (z x : A) (ys : List A) → before z x ≡ true → all_after before z ys ≡ true → all_after before z (with before x ys) ≡ true
  after_with z x [] h a = and_from (before z x) true h refl
  after_with z x (y ∷ ys) h a =
      let parts = and_parts (before z y) (all_after before z ys) a in
      elim (cases_Bool (before x y)) [
        | inl t ↦ rw t (and_from (before z x) _ h a)
        | inr f ↦ rw f (elim (cases_Bool (before y x)) [
          | inl t ↦ rw t (and_from (before z y) _ parts.0 (after_with z x ys h parts.1))
          | inr g ↦ rw g a
        ])
      ]

  pub with_ascends : (x : A) (ys : List A) → Ascending before ys → Ascending before (with before x ys)
  with_ascends x [] a = refl
  with_ascends x (y ∷ ys) a =
      let parts = and_parts (all_after before y ys) (ascends before ys) a in
      elim (cases_Bool (before x y)) [
        | inl t ↦ rw t (and_from (before x y && all_after before x ys) _ (and_from (before x y) _ t (after_further x y ys t parts.0)) a)
        | inr f ↦ rw f (elim (cases_Bool (before y x)) [
          | inl t ↦ rw t (and_from (all_after before y (with before x ys)) _ (after_with y x ys t parts.0) (with_ascends x ys parts.1))
          | inr g ↦ rw g a
        ])
      ]

  pub first_after : (y : A) (ys : List A) → all_after before y ys ≡ true → least_after before y ys ≡ slice_get ys 0
  first_after y [] a = refl
  first_after y (z ∷ zs) a = rw (and_parts (before y z) (all_after before y zs) a).0 refl

  -- what follows x stands at its place, or one later where x is there
  pub least_after_at : (x : A) (ys : List A) → Ascending before ys → least_after before x ys ≡ cond (among before x ys) (slice_get ys (suc (rank before x ys))) (slice_get ys (rank before x ys))
  least_after_at x [] a = refl
  least_after_at x (y ∷ ys) a =
      let parts = and_parts (all_after before y ys) (ascends before ys) a in
      let ih = least_after_at x ys parts.1 in
      elim (cases_Bool (before y x)) [
        | inl t ↦ rw (t, asym before laws y x t) ih
        | inr f ↦ rw f (elim (cases_Bool (before x y)) [
          | inl t ↦ rw (t, among_none x ys (after_further x y ys t parts.0)) refl
          | inr g ↦ rw g (subst (λ (z : A). least_after before z ys ≡ slice_get ys 0) (sym (laws.connected x y g f)) (first_after y ys parts.0))
        ])
      ]

  pub not_found : (x : A) (xs : List A) (i : ℕ) → Err i ≡ found before x xs → (among before x xs ≡ false) × (i ≡ rank before x xs)
  not_found x xs i f = elim (cases_Bool (among before x xs)) [
    | inl t ↦ let z : ◌≡◌ {A = ℕ} 0 1 = (let q = f ∙ cond-true (among before x xs) (Ok (rank before x xs)) (Err (rank before x xs)) t in cc) in absurd (omega arith)
    | inr n ↦ let q = f ∙ cond-false (among before x xs) (Ok (rank before x xs)) (Err (rank before x xs)) n in (n, (cc))
  ]

  pub there : (x : A) (xs : List A) (i : ℕ) → Ok i ≡ found before x xs → (among before x xs ≡ true) × (i ≡ rank before x xs)
  there x xs i f = elim (cases_Bool (among before x xs)) [
    | inl t ↦ let q = f ∙ cond-true (among before x xs) (Ok (rank before x xs)) (Err (rank before x xs)) t in (t, (cc))
    | inr n ↦ let z : ◌≡◌ {A = ℕ} 0 1 = (let q = f ∙ cond-false (among before x xs) (Ok (rank before x xs)) (Err (rank before x xs)) n in cc) in absurd (omega arith)
  ]

  pub next_there : (x : A) (xs : List A) (i : ℕ) (r : Option A) → Ascending before xs → Ok i ≡ found before x xs → r ≡ slice_get xs (i + 1) → r ≡ least_after before x xs
  next_there x xs i r a f e =
      let q = there x xs i f in
      e ∙ (ap (slice_get xs) (add-one i ∙ ap suc q.1) ∙ sym (least_after_at x xs a ∙ cond-true (among before x xs) (slice_get xs (suc (rank before x xs))) (slice_get xs (rank before x xs)) q.0))

  pub next_new : (x : A) (xs : List A) (i : ℕ) (r : Option A) → Ascending before xs → Err i ≡ found before x xs → r ≡ slice_get xs i → r ≡ least_after before x xs
  next_new x xs i r a f e =
      let q = not_found x xs i f in
      e ∙ (ap (slice_get xs) q.1 ∙ sym (least_after_at x xs a ∙ cond-false (among before x xs) (slice_get xs (suc (rank before x xs))) (slice_get xs (rank before x xs)) q.0))

  pub with-length : (x : A) (ys : List A) → length (with before x ys) ≤ suc (length ys)
  with-length x [] = omega arith
  with-length x (y ∷ ys) =
      let ih = with-length x ys in
      elim (cases_Bool (before x y)) [
        | inl t ↦ rw t (omega arith)
        | inr f ↦ rw f (elim (cases_Bool (before y x)) [ inl t ↦ rw t (omega arith) | inr g ↦ rw g (omega arith) ])
      ]

-- `among` is membership
module _ {A : Type 0} (before : A → A → Bool) (laws : StrictTotalOrder before) where
  pub mem_among : (x : A) (xs : List A) → Memᴰ x xs → among before x xs ≡ true
  mem_among x [] m = absurd (Memᴰ.not-nil m)
  mem_among x (y ∷ ys) m = elim (Memᴰ.cases_cons m) [
    | inl e ↦ subst (λ (z : A). among before x (z ∷ ys) ≡ true) e (rw (laws.irreflexive x) refl)
    | inr k ↦ or_right (not (before x y) && not (before y x)) (among before x ys) (mem_among x ys k)
  ]

  pub among_mem : (x : A) (xs : List A) → among before x xs ≡ true → Memᴰ x xs
  among_mem x [] m = absurd (both_ways false refl m)
  among_mem x (y ∷ ys) m = elim (or_cases (not (before x y) && not (before y x)) (among before x ys) m) [
    | inl s ↦
        let parts = and_parts (not (before x y)) (not (before y x)) s in
        Memᴰ.head (laws.connected x y (not-true (before x y) parts.0) (not-true (before y x) parts.1))
    | inr k ↦ Memᴰ.tail (among_mem x ys k)
  ]
