-- A binary search of an ascending list finds what `found` says.
use Rattle.std.proofs.Common.{◌≡◌, ℕ, zero, suc, ◌<◌, ◌≤◌, Bool, true, false, not, ◌&&◌, ltb, List, [], ◌∷◌, length, get_or, Ok, Err, refl, sym, ap, ◌∙◌, subst, inl, inr, arith}
use Rattle.std.specs.List.Sorted.{IsPartitionedBy, IsPartitionPoint}
use Rattle.std.proofs.lemmas.Bool.{and_parts, cond-true, cond-false, lt-ltb, le-ltb, cases_lt}
use Rattle.moments.specs.Order.{StrictTotalOrder, all_after, ascends, Ascending, among, rank, found}
use Rattle.moments.proofs.Ascents.{after_at, among_at}

module _ {A : Type 0} (before : A → A → Bool) (laws : StrictTotalOrder before) where
  -- what stands below i comes before x, and what stands at i does not: i is the index of x
  rank_at : (x : A) (ys : List A) (i : ℕ) → i ≤ length ys → ((k : ℕ) (d : A) → k < i → before (get_or ys k d) x ≡ true) → (i < length ys → (d : A) → before (get_or ys i d) x ≡ false) → i ≡ rank before x ys
  rank_at x [] i l b n = omega arith
  rank_at x (y ∷ ys) zero l b n = rw (n (omega arith) x) refl
  rank_at x (y ∷ ys) (suc i) l b n =
      rw (b 0 x (omega arith)) (ap suc (rank_at x ys i (omega arith) (λ k d m. b (suc k) d (omega arith)) (λ m d. n (omega arith) d)))

  ascending_at : (ys : List A) (i j : ℕ) (d : A) → Ascending before ys → i < j → j < length ys → before (get_or ys i d) (get_or ys j d) ≡ true
  ascending_at [] i j d a l m = absurd (omega arith)
  ascending_at (y ∷ ys) zero zero d a l m = absurd (omega arith)
  ascending_at (y ∷ ys) zero (suc j) d a l m = after_at before laws y ys j d (and_parts (all_after before y ys) (ascends before ys) a).0 (omega arith)
  ascending_at (y ∷ ys) (suc i) zero d a l m = absurd (omega arith)
  ascending_at (y ∷ ys) (suc i) (suc j) d a l m = ascending_at ys i j d (and_parts (all_after before y ys) (ascends before ys) a).1 (omega arith) (omega arith)

  pub found_at : (x : A) (ys : List A) (i : ℕ) → Ascending before ys → i < length ys → i ≡ rank before x ys → before x (get_or ys i x) ≡ false → Ok i ≡ found before x ys
  found_at x ys i a l p b = sym (cond-true (among before x ys) _ _ there ∙ ap Ok (sym p))
    where
      there : among before x ys ≡ true
      there = among_at before laws x ys x a ∙ subst (λ (k : ℕ). (ltb k (length ys) && not (before x (get_or ys k x))) ≡ true) p (rw (lt-ltb i (length ys) l, b) refl)

  pub not_found_at : (x : A) (ys : List A) (i : ℕ) → Ascending before ys → i ≡ rank before x ys → (i < length ys → before x (get_or ys i x) ≡ true) → Err i ≡ found before x ys
  not_found_at x ys i a p b = sym (cond-false (among before x ys) _ _ absent ∙ ap Err (sym p))
    where
      absent : among before x ys ≡ false
      absent = among_at before laws x ys x a ∙ subst (λ (k : ℕ). (ltb k (length ys) && not (before x (get_or ys k x))) ≡ false) p (elim (cases_lt i (length ys)) [
        | inl l ↦ rw (lt-ltb i (length ys) l, b l) refl
        | inr g ↦ rw (le-ltb i (length ys) g) refl
      ])

  -- of an ascending list, what stands no later than one that comes before x comes before x too
  parted : (x : A) (ys : List A) → Ascending before ys → IsPartitionedBy (λ y. before y x) ys
  parted x ys a i j d l m h = elim (cases_lt i j) [
    | inl b ↦ laws.transitive (get_or ys i d) (get_or ys j d) x (ascending_at ys i j d a b m) h
    | inr g ↦ let e : j ≡ i = omega arith in subst (λ (k : ℕ). before (get_or ys k d) x ≡ true) e h
  ]

  -- what `partition_point` answers on the list itself
  pub rank_searched : (x : A) (xs ys : List A) (i : ℕ) → Ascending before xs → ys ≡ xs → i ≤ length ys → (IsPartitionedBy (λ y. before y x) ys → IsPartitionPoint (λ y. before y x ≡ true) (λ y. before y x ≡ false) ys i) → i ≡ rank before x xs
  rank_searched x xs ys i a e l h =
      let p = h (parted x ys (subst (Ascending before) (sym e) a)) in
      rank_at x ys i l (λ k d m. p.0 k d (omega arith) m) (λ m d. p.1 i d (omega arith) m) ∙ ap (rank before x) e
