-- Looking for the first period that passes: what each scan finds, and where to go on after a period.
use Rattle.std.proofs.Common.{◌≡◌, ℕ, max, zero, suc, ◌+◌, ◌-◌, ◌<◌, ◌≤◌, Bool, true, false, ◌&&◌, List, [], ◌∷◌, ◌++◌, map, None, Option, sym, refl, ap, ◌∙◌, inl, inr, add-one, arith}
use Rattle.std.specs.List.{AllByRecursion, find, range_with_len}
use Rattle.std.specs.Option.{option_or}
use Rattle.std.proofs.lemmas.Bool.{cases_Bool, cases_eq}
use Rattle.moments.specs.Order.{least, least_after}
use Rattle.pools.specs.Periods.{Span, sooner}
use Rattle.pools.specs.Cells.{cell, by_end, by_start, by_label, every}
use Rattle.pools.specs.Laws.Earlier.{sooner_laws, by_label_less, by_start_less, by_end_less, by_label_more, by_start_more, by_end_more}
use Rattle.std.specs.List.{filter}
use Rattle.std.proofs.lemmas.List.Elements.{filter-append}
use Rattle.pools.proofs.Firsts.{first_in}
use Rattle.pools.proofs.Filters.{first-append, least_after_filter}
use Rattle.pools.specs.Laws.Grids.{all_ends, all_starts, all_labels}

module _ (f : Span → Bool) where
  -- ---- the first that passes
  pub first_of_ends : (l s e n : ℕ) → find f (map (cell l s) (range_with_len e n)) ≡ least (filter f (by_end l s e n))
  first_of_ends l s e zero = refl
  first_of_ends l s e (suc n) =
      let ih : find f (map (cell l s) (range_with_len (e + 1) n)) ≡ least (filter f (by_end l s (suc e) n)) = ap (λ (k : ℕ). find f (map (cell l s) (range_with_len k n))) (add-one e) ∙ first_of_ends l s (suc e) n in
      elim (cases_Bool (f (cell l s e))) [ inl t ↦ rw t refl | inr u ↦ rw u ih ]

  pub first_of_starts : (l s m n : ℕ) → n ≡ m - s → first_in (λ k. least (filter f (by_end l k k (m - k)))) s n ≡ least (filter f (by_start l s n))
  first_of_starts l s m zero e = refl
  first_of_starts l s m (suc n) e =
      let ih = first_of_starts l (suc s) m n (omega arith) in
      rw (sym e) (ap (option_or (least (filter f (by_end l s s (suc n))))) ih ∙ sym (first-append f (by_end l s s (suc n)) (by_start l (suc s) n)))

  pub first_of_labels : (m l n : ℕ) → first_in (λ k. least (filter f (by_start k 0 (m - 0)))) l n ≡ least (filter f (by_label m l n))
  first_of_labels m l zero = refl
  first_of_labels m l (suc n) =
      let all : m - 0 ≡ m = omega arith in
      ap (λ (k : ℕ). option_or (least (filter f (by_start l 0 k))) (first_in (λ j. least (filter f (by_start j 0 (m - 0)))) (suc l) n)) all
      ∙ (ap (option_or (least (filter f (by_start l 0 m)))) (first_of_labels m (suc l) n) ∙ sym (first-append f (by_start l 0 m) (by_label m (suc l) n)))

  -- ---- after a period
  module _ (x : Span) where
    abbrev later : Span → Bool
    later y = sooner x y && f y

    skip : (ys : List Span) → AllByRecursion (λ y. sooner x y ≡ false) ys → filter later ys ≡ []
    skip [] h = refl
    skip (y ∷ ys) h = rw h.0 (skip ys h.1)

    keep : (ys : List Span) → AllByRecursion (λ y. sooner x y ≡ true) ys → filter later ys ≡ filter f ys
    keep [] h = refl
    keep (y ∷ ys) h = let ih = keep ys h.1 in rw h.0 (elim (cases_Bool (f y)) [
      | inl t ↦ rw t (ap (λ (zs : List Span). y ∷ zs) ih)
      | inr n ↦ rw n ih
    ])

    -- where the ends go on
    pub record From (from : ℕ) : Type 0 where
      pub start : x.start.0 ≤ from
      pub low : (k : ℕ) → x.start.0 ≤ k → k < from → k ≤ x.end.0
      pub high : (k : ℕ) → from ≤ k → x.end.0 < k

    module _ (m from : ℕ) (go_on : From from) where
      after_ends : (a n : ℕ) → x.start.0 ≤ a → a ≤ from → a + n ≡ m → filter later (by_end x.label.0 x.start.0 a n) ≡ filter f (by_end x.label.0 x.start.0 from (m - from))
      after_ends a zero s h e = let q : m - from ≡ 0 = omega arith in rw q refl
      after_ends a (suc n) s h e = elim (cases_eq a from) [
        | inl q ↦
            let r : suc n ≡ m - from = omega arith in
            keep (by_end x.label.0 x.start.0 a (suc n)) (all_ends (λ y. sooner x y ≡ true) x.label.0 x.start.0 a (suc n) (λ k b c. by_end_less x (cell x.label.0 x.start.0 k) refl refl (go_on.high k (omega arith))))
            ∙ (ap (λ (i : ℕ). filter f (by_end x.label.0 x.start.0 i (suc n))) q ∙ ap (λ (i : ℕ). filter f (by_end x.label.0 x.start.0 from i)) r)
        | inr ne ↦ rw (by_end_more x (cell x.label.0 x.start.0 a) refl refl (go_on.low a s (omega (arith, ne)))) (after_ends (suc a) n (omega arith) (omega (arith, ne)) (omega arith))
      ]

      abbrev rest_of_label : List Span
      rest_of_label = by_end x.label.0 x.start.0 from (m - from) ++ by_start x.label.0 (x.start.0 + 1) (m - (x.start.0 + 1))

      after_starts : (a n : ℕ) → a ≤ x.start.0 → a + n ≡ m → filter later (by_start x.label.0 a n) ≡ filter f rest_of_label
      after_starts a zero h e =
          let s = go_on.start in
          let q : m - from ≡ 0 = omega arith in let r : m - (x.start.0 + 1) ≡ 0 = omega arith in rw (q, r) refl
      after_starts a (suc n) h e = elim (cases_eq a x.start.0) [
        | inl q ↦
            let r : n ≡ m - (x.start.0 + 1) = omega arith in
            filter-append later (by_end x.label.0 a a (suc n)) (by_start x.label.0 (suc a) n)
            ∙ (ap (λ (zs : List Span). zs ++ filter later (by_start x.label.0 (suc a) n)) (ap (λ (i : ℕ). filter later (by_end x.label.0 i a (suc n))) q ∙ after_ends a (suc n) (omega arith) (let s = go_on.start in omega arith) e)
            ∙ (ap (λ (zs : List Span). filter f (by_end x.label.0 x.start.0 from (m - from)) ++ zs)
            (keep (by_start x.label.0 (suc a) n) (all_starts (λ y. sooner x y ≡ true) x.label.0 (suc a) n (λ i k b c d. by_start_less x (cell x.label.0 i k) refl (omega arith)))
            ∙ (ap (λ (i : ℕ). filter f (by_start x.label.0 i n)) (sym (add-one a) ∙ ap (λ (i : ℕ). i + 1) q) ∙ ap (λ (i : ℕ). filter f (by_start x.label.0 (x.start.0 + 1) i)) r))
            ∙ sym (filter-append f (by_end x.label.0 x.start.0 from (m - from)) (by_start x.label.0 (x.start.0 + 1) (m - (x.start.0 + 1))))))
        | inr ne ↦
            filter-append later (by_end x.label.0 a a (suc n)) (by_start x.label.0 (suc a) n)
            ∙ (ap (λ (zs : List Span). zs ++ filter later (by_start x.label.0 (suc a) n)) (skip (by_end x.label.0 a a (suc n)) (all_ends (λ y. sooner x y ≡ false) x.label.0 a a (suc n) (λ k b c. by_start_more x (cell x.label.0 a k) refl (omega (arith, ne)))))
            ∙ after_starts (suc a) n (omega (arith, ne)) (omega arith))
      ]

      after_labels : (labels a n : ℕ) → a ≤ x.label.0 → x.label.0 < labels → a + n ≡ labels → filter later (by_label m a n) ≡ filter f (rest_of_label ++ by_label m (x.label.0 + 1) (labels - (x.label.0 + 1)))
      after_labels labels a zero h l e = absurd (omega arith)
      after_labels labels a (suc n) h l e = elim (cases_eq a x.label.0) [
        | inl q ↦
            let r : n ≡ labels - (x.label.0 + 1) = omega arith in
            filter-append later (by_start a 0 m) (by_label m (suc a) n)
            ∙ (ap (λ (zs : List Span). zs ++ filter later (by_label m (suc a) n)) (ap (λ (i : ℕ). filter later (by_start i 0 m)) q ∙ after_starts 0 m (omega arith) (omega arith))
            ∙ (ap (λ (zs : List Span). filter f rest_of_label ++ zs)
            (keep (by_label m (suc a) n) (all_labels (λ y. sooner x y ≡ true) m (suc a) n (λ j i k b c d u. by_label_less x (cell j i k) (omega arith)))
            ∙ (ap (λ (i : ℕ). filter f (by_label m i n)) (sym (add-one a) ∙ ap (λ (i : ℕ). i + 1) q) ∙ ap (λ (i : ℕ). filter f (by_label m (x.label.0 + 1) i)) r))
            ∙ sym (filter-append f rest_of_label (by_label m (x.label.0 + 1) (labels - (x.label.0 + 1))))))
        | inr ne ↦
            filter-append later (by_start a 0 m) (by_label m (suc a) n)
            ∙ (ap (λ (zs : List Span). zs ++ filter later (by_label m (suc a) n)) (skip (by_start a 0 m) (all_starts (λ y. sooner x y ≡ false) a 0 m (λ i k b c d. by_label_more x (cell a i k) (omega (arith, ne)))))
            ∙ after_labels labels (suc a) n (omega (arith, ne)) l (omega arith))
      ]

      next_is : (labels : ℕ) → x.label.0 < labels → least_after sooner x (filter f (every labels m)) ≡ least (filter f (rest_of_label ++ by_label m (x.label.0 + 1) (labels - (x.label.0 + 1))))
      next_is labels l = least_after_filter sooner sooner_laws f x (every labels m) ∙ ap least (after_labels labels 0 labels (omega arith) l (omega arith))

      -- among the ends of its own start, or else the later starts of its label, or else the later labels
      pub next_found : (labels : ℕ) → x.label.0 < labels → least_after sooner x (filter f (every labels m))
          ≡ option_or (option_or (least (filter f (by_end x.label.0 x.start.0 from (m - from)))) (least (filter f (by_start x.label.0 (x.start.0 + 1) (m - (x.start.0 + 1))))))
          (least (filter f (by_label m (x.label.0 + 1) (labels - (x.label.0 + 1)))))
      next_found labels l =
          let later_labels = by_label m (x.label.0 + 1) (labels - (x.label.0 + 1)) in
          next_is labels l
          ∙ (first-append f rest_of_label later_labels
          ∙ ap (λ (o : Option Span). option_or o (least (filter f later_labels))) (first-append f (by_end x.label.0 x.start.0 from (m - from)) (by_start x.label.0 (x.start.0 + 1) (m - (x.start.0 + 1)))))

    pub next_past : (m labels : ℕ) → labels ≤ x.label.0 → None ≡ least_after sooner x (filter f (every labels m))
    next_past m labels h = sym (least_after_filter sooner sooner_laws f x (every labels m) ∙ ap least (skip (every labels m) (all_labels (λ y. sooner x y ≡ false) m 0 labels (λ j i k a b c d. by_label_more x (cell j i k) (omega arith)))))

    pub from_later : (r : ℕ) → r ≡ max x.start.0 (x.end.0 + 1) → From r
    from_later r e = record { start = omega arith; low = λ k a b. omega arith; high = λ k a. omega arith }
