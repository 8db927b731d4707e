-- What holds of the members of a grid, whatever its words: they ascend, are no more than the periods that fit, and are in bounds.
use Rattle.std.specs.Prelude.{◌≡◌, ℕ, zero, suc, ◌+◌, ◌*◌, ◌<◌, ◌≤◌, Bool, true, ◌&&◌, List, [], ◌∷◌, ◌++◌, length, filter, refl}
use Rattle.std.proofs.Common.{ltb, leb, ap, inl, inr, suc-mul, add-one, add-mul, mul-add, one-mul, mul-one, arith, length-append}
use Rattle.std.specs.List.{AllByRecursion}
use Rattle.std.proofs.lemmas.Bool.{cases_Bool, and_parts, and_from, lt-ltb, le-leb, ltb-true, leb-true}
use Rattle.std.proofs.lemmas.List.Sums.{length-filter, count_by-le-length}
use Rattle.moments.specs.Order.{all_after, ascends, Ascending}
use Rattle.pools.specs.Periods.{Span, sooner}
use Rattle.pools.specs.Sets.{Sound, in_bounds, all_in_bounds}
use Rattle.pools.specs.Cells.{cell, by_end, by_start, by_label, every, triangular, on_grid, grid_size, has_bit}
use Rattle.pools.specs.Laws.Earlier.{by_label_less, by_start_less, by_end_less}

-- ---- lists
all_append : {A : Type 0} (P : A → Type 0) (xs ys : List A) → AllByRecursion P xs → AllByRecursion P ys → AllByRecursion P (xs ++ ys)
all_append P [] ys h k = k
all_append P (x ∷ xs) ys h k = (h.0, all_append P xs ys h.1 k)

module _ {A : Type 0} (before : A → A → Bool) where
  after_from : (x : A) (ys : List A) → AllByRecursion (λ y. before x y ≡ true) ys → all_after before x ys ≡ true
  after_from x [] h = refl
  after_from x (y ∷ ys) h = and_from (before x y) (all_after before x ys) h.0 (after_from x ys h.1)

  after-append : (x : A) (xs ys : List A) → all_after before x xs ≡ true → all_after before x ys ≡ true → all_after before x (xs ++ ys) ≡ true
  after-append x [] ys h k = k
  after-append x (y ∷ xs) ys h k =
      let parts = and_parts (before x y) (all_after before x xs) h in
      and_from (before x y) _ parts.0 (after-append x xs ys parts.1 k)

  ascends-append : (xs ys : List A) → Ascending before xs → Ascending before ys → AllByRecursion (λ x. all_after before x ys ≡ true) xs → Ascending before (xs ++ ys)
  ascends-append [] ys a b h = b
  ascends-append (x ∷ xs) ys a b h =
      let parts = and_parts (all_after before x xs) (ascends before xs) a in
      and_from (all_after before x (xs ++ ys)) _ (after-append x xs ys parts.0 h.0) (ascends-append xs ys parts.1 b h.1)

  pub filter_after : (f : A → Bool) (x : A) (ys : List A) → all_after before x ys ≡ true → all_after before x (filter f ys) ≡ true
  filter_after f x [] a = refl
  filter_after f x (y ∷ ys) a =
      let parts = and_parts (before x y) (all_after before x ys) a in
      let ih = filter_after f x ys parts.1 in
      elim (cases_Bool (f y)) [ inl t ↦ rw t (and_from (before x y) _ parts.0 ih) | inr n ↦ rw n ih ]

  filter_ascends : (f : A → Bool) (ys : List A) → Ascending before ys → Ascending before (filter f ys)
  filter_ascends f [] a = refl
  filter_ascends f (y ∷ ys) a =
      let parts = and_parts (all_after before y ys) (ascends before ys) a in
      let ih = filter_ascends f ys parts.1 in
      elim (cases_Bool (f y)) [ inl t ↦ rw t (and_from (all_after before y (filter f ys)) _ (filter_after f y ys parts.0) ih) | inr n ↦ rw n ih ]

-- ---- what holds of each period
pub all_ends : (P : Span → Type 0) (l s e n : ℕ) → ((k : ℕ) → e ≤ k → k < e + n → P (cell l s k)) → AllByRecursion P (by_end l s e n)
all_ends P l s e zero h = tt
all_ends P l s e (suc n) h = (h e (omega arith) (omega arith), all_ends P l s (suc e) n (λ k a b. h k (omega arith) (omega arith)))

pub all_starts : (P : Span → Type 0) (l s n : ℕ) → ((i k : ℕ) → s ≤ i → i ≤ k → k < s + n → P (cell l i k)) → AllByRecursion P (by_start l s n)
all_starts P l s zero h = tt
all_starts P l s (suc n) h =
    all_append P (by_end l s s (suc n)) (by_start l (suc s) n)
    (all_ends P l s s (suc n) (λ k a b. h s k (omega arith) a b))
    (all_starts P l (suc s) n (λ i k a b c. h i k (omega arith) b (omega arith)))

pub all_labels : (P : Span → Type 0) (m l n : ℕ) → ((j i k : ℕ) → l ≤ j → j < l + n → i ≤ k → k < m → P (cell j i k)) → AllByRecursion P (by_label m l n)
all_labels P m l zero h = tt
all_labels P m l (suc n) h =
    all_append P (by_start l 0 m) (by_label m (suc l) n)
    (all_starts P l 0 m (λ i k a b c. h l i k (omega arith) (omega arith) b (omega arith)))
    (all_labels P m (suc l) n (λ j i k a b c d. h j i k (omega arith) (omega arith) c d))

-- ---- in order
ends_ascend : (l s e n : ℕ) → Ascending sooner (by_end l s e n)
ends_ascend l s e zero = refl
ends_ascend l s e (suc n) = and_from (all_after sooner (cell l s e) (by_end l s (suc e) n)) _
    (after_from sooner (cell l s e) (by_end l s (suc e) n) (all_ends (λ q. sooner (cell l s e) q ≡ true) l s (suc e) n (λ k a b. by_end_less (cell l s e) (cell l s k) refl refl (omega arith))))
    (ends_ascend l s (suc e) n)

starts_ascend : (l s n : ℕ) → Ascending sooner (by_start l s n)
starts_ascend l s zero = refl
starts_ascend l s (suc n) = ascends-append sooner (by_end l s s (suc n)) (by_start l (suc s) n) (ends_ascend l s s (suc n)) (starts_ascend l (suc s) n)
    (all_ends (λ p. all_after sooner p (by_start l (suc s) n) ≡ true) l s s (suc n) (λ e a b.
    after_from sooner (cell l s e) (by_start l (suc s) n) (all_starts (λ q. sooner (cell l s e) q ≡ true) l (suc s) n (λ i k c d f. by_start_less (cell l s e) (cell l i k) refl (omega arith)))))

labels_ascend : (m l n : ℕ) → Ascending sooner (by_label m l n)
labels_ascend m l zero = refl
labels_ascend m l (suc n) = ascends-append sooner (by_start l 0 m) (by_label m (suc l) n) (starts_ascend l 0 m) (labels_ascend m (suc l) n)
    (all_starts (λ p. all_after sooner p (by_label m (suc l) n) ≡ true) l 0 m (λ s e a b c.
    after_from sooner (cell l s e) (by_label m (suc l) n) (all_labels (λ q. sooner (cell l s e) q ≡ true) m (suc l) n (λ j i k d f g h. by_label_less (cell l s e) (cell j i k) (omega arith)))))

pub every_ascends : (labels m : ℕ) → Ascending sooner (every labels m)
every_ascends labels m = labels_ascend m 0 labels

-- ---- in bounds
pub bounds : (labels m : ℕ) (p : Span) → in_bounds labels m p ≡ true → (p.label.0 < labels) × (p.end.0 < m) × (p.start.0 ≤ p.end.0)
bounds labels m p h =
    let a = and_parts (ltb p.label.0 labels) (ltb p.end.0 m && leb p.start.0 p.end.0) h in
    let b = and_parts (ltb p.end.0 m) (leb p.start.0 p.end.0) a.1 in
    (ltb-true p.label.0 labels a.0, ltb-true p.end.0 m b.0, leb-true p.start.0 p.end.0 b.1)

pub bounded : (labels m : ℕ) (p : Span) → p.label.0 < labels → p.end.0 < m → p.start.0 ≤ p.end.0 → in_bounds labels m p ≡ true
bounded labels m p a b c =
    and_from (ltb p.label.0 labels) _ (lt-ltb p.label.0 labels a) (and_from (ltb p.end.0 m) _ (lt-ltb p.end.0 m b) (le-leb p.start.0 p.end.0 c))

pub every_inside : (labels m : ℕ) → AllByRecursion (λ q. in_bounds labels m q ≡ true) (every labels m)
every_inside labels m = all_labels (λ q. in_bounds labels m q ≡ true) m 0 labels (λ j i k a b c d. bounded labels m (cell j i k) (omega arith) d c)

-- ---- how many
tri_product : (n : ℕ) → (n + 1) * (n + 1 + 1) ≡ n * (n + 1) + 2 * (n + 1)
tri_product n = omega (arith, add-mul n 1 (n + 1 + 1), mul-add n (n + 1) 1, one-mul (n + 1 + 1), mul-one n)

pub tri_more : (n : ℕ) → triangular (n + 1) ≡ triangular n + (n + 1)
unfolding triangular
tri_more n = let p = tri_product n in omega arith

ends-length : (l s e n : ℕ) → length (by_end l s e n) ≡ n
ends-length l s e zero = refl
ends-length l s e (suc n) = ap suc (ends-length l s (suc e) n)

starts-length : (l s n : ℕ) → length (by_start l s n) ≡ triangular n
unfolding triangular
starts-length l s zero = refl
starts-length l s (suc n) =
    let a = length-append (by_end l s s (suc n)) (by_start l (suc s) n) in
    let b = ends-length l s s (suc n) in
    let c = starts-length l (suc s) n in
    let d = tri_more n in
    let e = ap triangular (add-one n) in
    omega arith

pub every-length : (labels m : ℕ) → length (every labels m) ≡ labels * triangular m
every-length labels m = go 0 labels
  where
    go : (l n : ℕ) → length (by_label m l n) ≡ n * triangular m
    go l zero = omega arith
    go l (suc n) =
        let a = length-append (by_start l 0 m) (by_label m (suc l) n) in
        let b = starts-length l 0 m in
        let c = go (suc l) n in
        let d = suc-mul n (triangular m) in
        omega arith

-- ---- of those, the members
module _ (labels places : ℕ) where
  inside_filter : (f : Span → Bool) (ps : List Span) → AllByRecursion (λ p. in_bounds labels places p ≡ true) ps → all_in_bounds labels places (filter f ps) ≡ true
  inside_filter f [] h = refl
  inside_filter f (p ∷ ps) h = let ih = inside_filter f ps h.1 in elim (cases_Bool (f p)) [
    | inl t ↦ rw t (and_from (in_bounds labels places p) _ h.0 ih)
    | inr n ↦ rw n ih
  ]

  module _ (words : List ℕ) where
    pub grid_ascends : Ascending sooner (on_grid labels places words)
    grid_ascends = filter_ascends sooner (has_bit places words) (every labels places) (every_ascends labels places)

    pub grid-length : length (on_grid labels places words) ≤ labels * triangular places
    grid-length =
        let a = length-filter (has_bit places words) (every labels places) in
        let b = count_by-le-length (has_bit places words) (every labels places) in
        let c = every-length labels places in
        omega arith

    grid_inside : all_in_bounds labels places (on_grid labels places words) ≡ true
    grid_inside = inside_filter (has_bit places words) (every labels places) (every_inside labels places)

    pub grid_sound : Sound (grid_size labels places) (on_grid labels places words)
    grid_sound = record { ascending = grid_ascends; bounded = grid-length; inside = grid_inside }
