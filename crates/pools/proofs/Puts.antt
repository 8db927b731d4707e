-- What a put answers, case by case.
use Rattle.std.proofs.Common.{◌≡◌, ℕ, ◌<◌, ◌≤◌, true, false, not, ◌&&◌, ◌||◌, eqb, ltb, List, [], ◌∷◌, length, Ok, sym, refl, ap, ◌∙◌, subst, inl, inr, arith}
use mathlib.Core.List.{Memᴰ}
use Rattle.std.proofs.lemmas.Bool.{cases_Bool, cases_lt, lt-ltb, and_parts, and_from, cond_both, both_ways, eq-eqb}
use Rattle.pools.specs.declared.size.Size.{Size}
use Rattle.pools.specs.Periods.{Span, sooner}
use Rattle.moments.specs.Rows.{added}
use Rattle.pools.specs.Sets.{Puts, put_answer, set_after, in_bounds, member, Ascending, with, all_in_bounds}
use Rattle.moments.proofs.Ascents.{with_there}
use Rattle.moments.proofs.Additions.{with_only, with_all, added-length}
use Rattle.pools.specs.Laws.Earlier.{sooner_laws}

module _ (size : Size) (ps : List Span) (p : Span) where
  accepted : (qs : List Span) → Ok tt ≡ put_answer size ps p → qs ≡ set_after size ps p → qs ≡ with p ps → Puts size ps p (Ok tt) qs
  accepted qs e f q = record {
    answer = e;
    after = f;
    only = λ _ r m. with_only sooner sooner_laws p ps r (subst (Memᴰ r) q m);
    all = λ _ r m. subst (Memᴰ r) (sym q) (with_all sooner sooner_laws p ps r m);
    same = λ h. absurd (both_ways true h refl);
  }

  pub put_there : in_bounds size.labels size.places p ≡ true → Ascending ps → member p ps ≡ true → Puts size ps p (Ok tt) ps
  put_there h a m = let w = sym (with_there sooner sooner_laws p ps a m) in accepted ps (rw (h, m) refl) (rw (h, m) w) w

  pub put_new : (qs : List Span) → in_bounds size.labels size.places p ≡ true → length ps < size.capacity → member p ps ≡ false → qs ≡ with p ps → Puts size ps p (Ok tt) qs
  put_new qs h l m e = accepted qs (rw (h, m, lt-ltb (length ps) size.capacity l) refl) (rw (h, m, lt-ltb (length ps) size.capacity l) e) e

-- where a list at its limit takes no new one, the limit makes no difference
module _ (ps : List Span) (p : Span) (limit slots : ℕ) (few : length ps ≤ limit) (open-to : (eqb (length ps) limit && not (member p ps)) ≡ false) where
  full : length ps ≡ limit → member p ps ≡ true
  full e = elim (cases_Bool (member p ps)) [
    | inl m ↦ m
    | inr n ↦ absurd (both_ways (eqb (length ps) limit && not (member p ps)) open-to (rw (eq-eqb (length ps) limit e, n) refl))
  ]

  pub limit_kept : (qs : List Span) → Ascending ps → qs ≡ added sooner slots ps p → length qs ≤ limit
  limit_kept qs a e = elim (cases_Bool (member p ps)) [
    | inl m ↦ let q : length qs ≡ length ps = ap length (rw m at e ∙ with_there sooner sooner_laws p ps a m) in omega arith
    | inr n ↦ elim (cases_lt (length ps) limit) [
      | inl l ↦ let q = added-length sooner sooner_laws p ps qs slots e in omega arith
      | inr g ↦ absurd (both_ways (member p ps) n (full (omega arith)))
    ]
  ]

-- ---- each in bounds
module _ (labels places : ℕ) where
  inside_with : (p : Span) (qs : List Span) → in_bounds labels places p ≡ true → all_in_bounds labels places qs ≡ true → all_in_bounds labels places (with p qs) ≡ true
  inside_with p [] h a = and_from (in_bounds labels places p) true h refl
  inside_with p (q ∷ qs) h a =
      let parts = and_parts (in_bounds labels places q) (all_in_bounds labels places qs) a in
      elim (cases_Bool (sooner p q)) [
        | inl t ↦ rw t (and_from (in_bounds labels places p) _ h a)
        | inr f ↦ rw f (elim (cases_Bool (sooner q p)) [
          | inl t ↦ rw t (and_from (in_bounds labels places q) _ parts.0 (inside_with p qs h parts.1))
          | inr g ↦ rw g a
        ])
      ]

  pub inside_added : (p : Span) (ps qs : List Span) (slots : ℕ) → in_bounds labels places p ≡ true → all_in_bounds labels places ps ≡ true → qs ≡ added sooner slots ps p → all_in_bounds labels places qs ≡ true
  inside_added p ps qs slots h a e = rw e (cond_both (member p ps || ltb (length ps) slots) (with p ps) ps (λ xs. all_in_bounds labels places xs ≡ true) (λ t. inside_with p ps h a) (λ f. a))
