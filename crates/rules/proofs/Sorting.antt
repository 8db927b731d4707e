-- Rule numbers that are sorted by their keys.
use Rattle.std.proofs.Common.{◌≡◌, ℕ, Bool, ◌+◌, ◌-◌, ◌<◌, true, false, eqb, List, length, get_or, sym, refl, ap, ◌∙◌, subst, Decides, arith}
use Rattle.std.specs.List.{list_any, AllPairs}
use Rattle.std.specs.List.Sorted.{IsPermutation, IsSortedByKey}
use Rattle.std.specs.Ordering.{is_lt}
use Rattle.std.specs.Cmp.{IsTotalOrder}
use Rattle.std.proofs.lemmas.Bool.{eq-eqb, eqb-true}
use Rattle.std.proofs.lemmas.Bool.Decides.{nat_tests}
use Rattle.std.proofs.lemmas.Cmp.{nat_cmp_total, on_total, then_total}
use Rattle.std.proofs.lemmas.List.Folds.{list_any_at}
use Rattle.std.proofs.lemmas.List.FromFn.{length-map-range_with_len, get_or-map-range_with_len}
use Rattle.std.proofs.lemmas.List.Sorted.{ranks_by, sorted_far, length_permutation, All-permutation, list_any-IsPermutation}
use Rattle.std.proofs.lemmas.Map.Keys.{IsDistinct-IsPermutation}
use Rattle.std.proofs.lemmas.Map.Made.{AllPairs-from_IsDistinct, IsDistinct-from_AllPairs}
use Rattle.terms.specs.declared.numbers.RuleNo.{RuleNo}
use Rattle.rules.specs.Words.{number_at, at}
use Rattle.rules.specs.Keys.{numbers, Key, key_cmp, rank_of, leader_of, key_of, InOrder}

key_total : IsTotalOrder key_cmp
key_total = then_total (then_total (on_total (λ (k : Key). k.0) nat_cmp_total) (on_total (λ (k : Key). k.1) nat_cmp_total)) (on_total (λ (k : Key). k.2) nat_cmp_total)

-- keys of two rules do not tie
apart : (a b c x y z : ℕ) → (c ≡ z → ⊥) → is_lt (key_cmp (x, y, z) (a, b, c)) ≡ false → is_lt (key_cmp (a, b, c) (x, y, z)) ≡ true
apart a b c x y z ne h = grind (arith, nat_tests)

same : (a b : RuleNo) → Decides (eqb a.0 b.0) (a ≡ b)
same a b = (λ h. same_number a b (eqb-true a.0 b.0 h), λ e. eq-eqb a.0 b.0 (ap (λ (no : RuleNo). no.0) e))
  where
    same_number : (a b : RuleNo) → a.0 ≡ b.0 → a ≡ b
    same_number a b e = ap (λ (k : ℕ). let no : RuleNo = record { 0 = k } in no) e

module _ (leads : ℕ → ℕ → Bool) (n : ℕ) (order : List RuleNo) (moved : IsPermutation (numbers n) order) where
  numbers-length : length (numbers n) ≡ n
  numbers-length = length-map-range_with_len (λ (k : ℕ). let no : RuleNo = record { 0 = k } in no) 1 n

  in_numbers : (k : ℕ) (d : RuleNo) → k < length (numbers n) → get_or (numbers n) k d ≡ record { 0 = 1 + k }
  in_numbers k d l = get_or-map-range_with_len (λ (k : ℕ). let no : RuleNo = record { 0 = k } in no) 1 n k (1 + k) d (omega (arith, numbers-length)) refl

  long : length order ≡ n
  long = length_permutation (numbers n) order moved ∙ numbers-length

  numbered : (p : ℕ) → p < length order → (0 < number_at order p) × (at order p < n)
  numbered p l =
      let P : RuleNo → Type 0 = λ no. (0 < no.0) × (no.0 - 1 < n) in
      All-permutation P (numbers n) order moved (λ k d h. subst P (sym (in_numbers k d h)) (omega arith, omega (arith, numbers-length))) p _ l

  every : (i : ℕ) → i < n → list_any (λ (no : RuleNo). eqb no.0 (i + 1)) order ≡ true
  every i l =
      let p : RuleNo → Bool = λ no. eqb no.0 (i + 1) in
      let h : i < length (numbers n) = omega (arith, numbers-length) in
      let d : RuleNo = record { 0 = 0 } in
      sym (list_any-IsPermutation p (numbers n) order moved) ∙ list_any_at p (numbers n) i d h (ap p (in_numbers i d h) ∙ eq-eqb (1 + i) (i + 1) (omega arith))

  distinct : AllPairs (λ x y. x ≡ y → ⊥) order
  distinct = AllPairs-from_IsDistinct same order (IsDistinct-IsPermutation _ (λ x y. grind (arith, nat_tests)) (numbers n) order moved (IsDistinct-from_AllPairs same (numbers n)
      (λ i j d l m e. let f = ap (λ (no : RuleNo). no.0) (sym (in_numbers i d (omega arith)) ∙ (e ∙ in_numbers j d m)) in omega arith)))

  pub in_order : IsSortedByKey (λ (no : RuleNo). key_of leads n (no.0 - 1)) key_cmp order → InOrder leads n order
  in_order sorted = record {
    long = long;
    numbered = numbered;
    every = every;
    ascends = λ p q l m.
        let i = at order p in
        let j = at order q in
        apart (rank_of leads n i) (leader_of leads i) i (rank_of leads n j) (leader_of leads j) j
        (λ e. let a = (numbered p (omega arith)).0 in let b = (numbered q m).0 in
        let f : number_at order p ≡ number_at order q = omega arith in
        distinct p q (record { 0 = 0 }) l m (ap (λ (k : ℕ). let no : RuleNo = record { 0 = k } in no) f))
        (sorted_far _ (ranks_by key_total (λ (no : RuleNo). key_of leads n (no.0 - 1))) order sorted p q (record { 0 = 0 }) (omega arith) m);
  }
