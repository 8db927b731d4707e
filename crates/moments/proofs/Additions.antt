-- What adding to an ascending list answers and leaves, case by case.
use Rattle.std.proofs.Common.{◌≡◌, ℕ, ◌+◌, ◌<◌, ◌≤◌, Bool, true, false, cond, ◌||◌, ltb, ◌⊎◌, List, [], ◌∷◌, length, Ok, Err, sym, refl, ap, ◌∙◌, subst, inl, inr, arith}
use mathlib.Core.List.{Memᴰ}
use Rattle.std.specs.List.{insert}
use Rattle.std.proofs.lemmas.Bool.{cases_Bool, both_ways, cond_both, lt-ltb, le-ltb}
use Rattle.terms.specs.declared.refusal.Refusal.TheVariants.{Full}
use Rattle.moments.specs.Order.{StrictTotalOrder, Ascending, among, with, found}
use Rattle.moments.specs.Rows.{Adds, added}
use Rattle.moments.proofs.Ascents.{with_there, with_new, with_ascends, with-length, not_found, there}

module _ {A : Type 0} (before : A → A → Bool) (laws : StrictTotalOrder before) where
  pub with_only : (x : A) (xs : List A) (y : A) → Memᴰ y (with before x xs) → (y ≡ x) ⊎ Memᴰ y xs
  with_only x [] y m = elim (mathlib.Core.List.Memᴰ.cases_cons m) [ inl e ↦ inl e | inr k ↦ inr k ]
  with_only x (z ∷ zs) y m = elim (cases_Bool (before x z)) [
    | inl t ↦ let n : Memᴰ y (x ∷ z ∷ zs) = rw t at m in elim (mathlib.Core.List.Memᴰ.cases_cons n) [ inl e ↦ inl e | inr k ↦ inr k ]
    | inr f ↦ elim (cases_Bool (before z x)) [
      | inl t ↦
          let n : Memᴰ y (z ∷ with before x zs) = rw (f, t) at m in
          elim (mathlib.Core.List.Memᴰ.cases_cons n) [
            | inl e ↦ inr (mathlib.Core.List.Memᴰ.head e)
            | inr k ↦ elim (with_only x zs y k) [ inl e ↦ inl e | inr j ↦ inr (mathlib.Core.List.Memᴰ.tail j) ]
          ]
      | inr g ↦ inr (rw (f, g) at m)
    ]
  ]

  pub with_all : (x : A) (xs : List A) (y : A) → (y ≡ x) ⊎ Memᴰ y xs → Memᴰ y (with before x xs)
  with_all x [] y m = elim m [ inl e ↦ mathlib.Core.List.Memᴰ.head e | inr k ↦ absurd (mathlib.Core.List.Memᴰ.not-nil k) ]
  with_all x (z ∷ zs) y m = elim (cases_Bool (before x z)) [
    | inl t ↦ rw t (elim m [ inl e ↦ mathlib.Core.List.Memᴰ.head e | inr k ↦ mathlib.Core.List.Memᴰ.tail k ])
    | inr f ↦ rw f (elim (cases_Bool (before z x)) [
      | inl t ↦ rw t (elim m [
        | inl e ↦ mathlib.Core.List.Memᴰ.tail (with_all x zs y (inl e))
        | inr k ↦ elim (mathlib.Core.List.Memᴰ.cases_cons k) [
          | inl e ↦ mathlib.Core.List.Memᴰ.head e
          | inr j ↦ mathlib.Core.List.Memᴰ.tail (with_all x zs y (inr j))
        ]
      ])
      | inr g ↦ rw g (elim m [ inl e ↦ mathlib.Core.List.Memᴰ.head (e ∙ laws.connected x z f g) | inr k ↦ k ])
    ])
  ]

  accepted : (x : A) (xs ys : List A) (slots : ℕ) (b : Bool) → Ascending before xs → Ok b ≡ cond (among before x xs) (Ok false) (cond (ltb (length xs) slots) (Ok true) (Err Full)) → ys ≡ added before slots xs x → ys ≡ with before x xs → Adds before slots xs x (Ok b) ys
  accepted x xs ys slots b a e f q = record {
    answer = e;
    after = f;
    ascends = subst (Ascending before) (sym q) (with_ascends before laws x xs a);
    only = λ _ y m. with_only x xs y (subst (Memᴰ y) q m);
    all = λ _ y m. subst (Memᴰ y) (sym q) (with_all x xs y m);
    same = λ h. absurd (both_ways true h refl);
  }

  pub add_there : (x : A) (xs ys : List A) (slots i : ℕ) → Ascending before xs → Ok i ≡ found before x xs → ys ≡ xs → Adds before slots xs x (Ok false) ys
  add_there x xs ys slots i a f e =
      let t = (there before laws x xs i f).0 in
      let w = e ∙ sym (with_there before laws x xs a t) in
      accepted x xs ys slots false a (rw t refl) (rw t w) w

  pub add_full : (x : A) (xs ys : List A) (slots i : ℕ) → Ascending before xs → Err i ≡ found before x xs → slots ≤ length xs → ys ≡ xs → Adds before slots xs x (Err Full) ys
  add_full x xs ys slots i a f l e =
      let n = (not_found before laws x xs i f).0 in
      record {
        answer = rw (n, le-ltb (length xs) slots l) refl;
        after = rw (n, le-ltb (length xs) slots l) e;
        ascends = subst (Ascending before) (sym e) a;
        only = λ h. absurd (both_ways false refl h);
        all = λ h. absurd (both_ways false refl h);
        same = λ _. e;
      }

  pub add_new : (x : A) (xs ys : List A) (slots i : ℕ) → Ascending before xs → Err i ≡ found before x xs → length xs < slots → ys ≡ insert xs i x → Adds before slots xs x (Ok true) ys
  add_new x xs ys slots i a f l e =
      let q = not_found before laws x xs i f in
      let w = e ∙ (ap (λ (k : ℕ). insert xs k x) q.1 ∙ sym (with_new before laws x xs q.0)) in
      accepted x xs ys slots true a (rw (q.0, lt-ltb (length xs) slots l) refl) (rw (q.0, lt-ltb (length xs) slots l) w) w

  pub added-length : (x : A) (xs ys : List A) (slots : ℕ) → ys ≡ added before slots xs x → length ys ≤ length xs + 1
  added-length x xs ys slots e = rw e (cond_both (among before x xs || ltb (length xs) slots) (with before x xs) xs (λ zs. length zs ≤ length xs + 1) (λ t. let q = with-length before laws x xs in omega arith) (λ f. omega arith))
