-- How many of a list pass a test, and the first of a range that does.
use Rattle.std.proofs.Common.{◌≡◌, ℕ, ◌<◌, ◌≤◌, Bool, true, false, cond, List, length, count_by, get_or, not, sym, ap, ◌∙◌, inl, inr, zero-add, arith}
use Rattle.std.specs.List.{remove, position_or_len, range_with_len}
use Rattle.std.specs.Option.{MatchOption, unwrap_or}
use Rattle.std.specs.declared.option.Option.{Option}
use Rattle.std.specs.declared.option.Option.TheVariants.{None, Some}
use Rattle.std.proofs.lemmas.List.Sums.{sum_by-le-sum_by, sum_by-remove, position_or_len_is, fails_before_first, passes_at_first, prefix_len-le-length}
use Rattle.std.proofs.lemmas.List.FromFn.{length-range_with_len, get_or-range_with_len}
use Rattle.std.proofs.lemmas.Bool.{cases_Bool, cond-true, cond-false}

module _ (p q : ℕ → Bool) (weaker : (k : ℕ) → p k ≡ true → q k ≡ true) where
  one : (k : ℕ) → cond {A = ℕ} (p k) 1 0 ≤ cond {A = ℕ} (q k) 1 0
  one k = elim (cases_Bool (p k)) [
    | inl e ↦ rw (e, weaker k e) (omega arith)
    | inr e ↦ rw e (omega arith)
  ]

  -- at least as many pass the weaker test, and more if one passes only that
  pub count_le : (xs : List ℕ) → count_by p xs ≤ count_by q xs
  count_le xs = sum_by-le-sum_by (λ k. cond (p k) 1 0) (λ k. cond (q k) 1 0) xs one

  pub count_less : (xs : List ℕ) (i d : ℕ) → i < length xs → p (get_or xs i d) ≡ false → q (get_or xs i d) ≡ true → count_by p xs < count_by q xs
  count_less xs i d l a b =
      let e = sum_by-remove (λ k. cond {A = ℕ} (p k) 1 0) xs i d l in
      let f = sum_by-remove (λ k. cond {A = ℕ} (q k) 1 0) xs i d l in
      let g = count_le (remove xs i) in
      omega (arith, cond-false {A = ℕ} (p (get_or xs i d)) 1 0 a, cond-true {A = ℕ} (q (get_or xs i d)) 1 0 b)

pub range_at : (n k : ℕ) → k < n → get_or (range_with_len 0 n) k 0 ≡ k
range_at n k l = get_or-range_with_len 0 n k 0 l ∙ zero-add k

-- The first number below n that passes, or n.
pub record Lowest (p : ℕ → Bool) (n m : ℕ) : Type 0 where
  pub within : m ≤ n
  pub none_below : (k : ℕ) → k < m → p k ≡ false
  pub passes : m < n → p m ≡ true

module _ (p : ℕ → Bool) (n : ℕ) where
  at_range : (b : Bool) (k : ℕ) → k < n → p (get_or (range_with_len 0 n) k 0) ≡ b → p k ≡ b
  at_range b k l e = ap p (sym (range_at n k l)) ∙ e

  pub first_is_lowest : Lowest p n (position_or_len p (range_with_len 0 n))
  first_is_lowest = let w = prefix_len-le-length (λ k. not (p k)) (range_with_len 0 n) in record {
    within = omega (arith, length-range_with_len 0 n);
    none_below = λ k l. at_range false k (omega (arith, length-range_with_len 0 n)) (fails_before_first p (range_with_len 0 n) k 0 l);
    passes = λ l. at_range true _ l (passes_at_first p (range_with_len 0 n) 0 (omega (arith, length-range_with_len 0 n)));
  }

  pub lowest_is_first : (m : ℕ) → Lowest p n m → m ≡ position_or_len p (range_with_len 0 n)
  lowest_is_first m o =
      let w = o.within in
      sym (position_or_len_is p (range_with_len 0 n) m 0 (omega (arith, length-range_with_len 0 n))
      (λ k l. ap p (range_at n k (omega arith)) ∙ o.none_below k l)
      (λ l. let h : m < n = omega (arith, length-range_with_len 0 n) in ap p (range_at n m h) ∙ o.passes h))

-- what `find` over a range gives, or else the range's end
pub lowest_found : (p : ℕ → Bool) (n : ℕ) (r : Option ℕ)
    → MatchOption r ((k : ℕ) → 0 ≤ k → k < n → p k ≡ false) (λ m. (0 ≤ m) × (m < n) × (p m ≡ true) × ((k : ℕ) → 0 ≤ k → k < m → p k ≡ false)) → Lowest p n (unwrap_or r n)
lowest_found p n None h = record { within = omega arith; none_below = λ k l. h k (omega arith) l; passes = λ l. absurd (omega arith) }
lowest_found p n (Some m) h = record { within = omega (arith, h.1); none_below = λ k l. h.3 k (omega arith) l; passes = λ l. h.2 }
