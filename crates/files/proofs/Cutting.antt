-- A text cut at the first of a byte.
use Rattle.std.proofs.Common.{◌≡◌, ℕ, zero, suc, ◌+◌, ◌-◌, ◌<◌, ◌≤◌, Bool, true, false, cond, eqb, ltb, List, [], ◌∷◌, length, get_or, take, drop, is_some, Some, None, Option, Bor, refl, ap, ◌∙◌, suc-le-suc, le_refl, add-one, arith}
use Rattle.std.specs.List.{position, position_or_len}
use Rattle.std.proofs.lemmas.Bool.{eqb-true, eq-eqb, cond-true, cond-false, ltb-false}
use Rattle.std.proofs.lemmas.List.Quantifiers.{position-Some}
use Rattle.std.proofs.lemmas.List.Sums.{fails_before_first}
use Rattle.std.proofs.lemmas.Slice.{between_to_end}
use Rattle.files.specs.Parts.{split, in_front, parts_left}
use Rattle.files.specs.Cursors.{any_left}

-- No byte of the first n is b.
abbrev Without : ℕ → List ℕ → ℕ → Type 0
Without b xs n = (k : ℕ) → k < n → eqb (get_or xs k 0) b ≡ false

later : (b x : ℕ) (xs : List ℕ) (n : ℕ) → Without b (x ∷ xs) (suc n) → Without b xs n
later b x xs n none k h = none (suc k) (suc-le-suc h)

-- The byte in front is another, so it belongs to the first part.
keeps_front : (b x : ℕ) (xs : List ℕ) (n : ℕ) → Without b (x ∷ xs) (suc n) → split b (x ∷ xs) ≡ in_front x (split b xs)
keeps_front b x xs n none = cond-false (eqb x b) ([] ∷ split b xs) (in_front x (split b xs)) (none 0 (omega arith))

cut_none : (b : ℕ) (xs : List ℕ) → Without b xs (length xs) → split b xs ≡ xs ∷ []
cut_none b [] none = refl
cut_none b (x ∷ xs) none = keeps_front b x xs (length xs) none ∙ ap (in_front x) (cut_none b xs (later b x xs (length xs) none))

cut_at : (b : ℕ) (xs : List ℕ) (i : ℕ) → i < length xs → Without b xs i → get_or xs i 0 ≡ b → split b xs ≡ take i xs ∷ split b (drop (suc i) xs)
cut_at b [] i h none at = absurd (omega arith)
cut_at b (x ∷ xs) zero h none at = cond-true (eqb x b) ([] ∷ split b xs) (in_front x (split b xs)) (eq-eqb x b at)
cut_at b (x ∷ xs) (suc i) h none at = keeps_front b x xs i none ∙ ap (in_front x) (cut_at b xs i (omega arith) (later b x xs i none) at)

-- Cut at the first such byte: the part before it, and the parts of what follows, which is `&xs[i + 1..]`.
pub cut_first : (b : ℕ) (xs : List ℕ) (i : ℕ) → position (λ x. eqb x b) xs ≡ Some i → split b xs ≡ take i xs ∷ split b (take (length xs - (i + 1)) (drop (i + 1) xs))
cut_first b xs i e =
    let p = position-Some (λ x. eqb x b) xs i 0 e in
    rw (between_to_end xs (i + 1) (length xs) (le_refl (length xs)), add-one i) (cut_at b xs i p.0 p.2 (eqb-true (get_or xs i 0) b p.1))

-- Where there is no such byte, all is one part.
pub cut_whole : (b : ℕ) (xs : List ℕ) → position (λ x. eqb x b) xs ≡ None → split b xs ≡ xs ∷ []
cut_whole b xs e = go (ltb (position_or_len (λ x. eqb x b) xs) (length xs)) refl e
  where
    go : (t : Bool) → ltb (position_or_len (λ x. eqb x b) xs) (length xs) ≡ t → cond t (Some (position_or_len (λ x. eqb x b) xs)) None ≡ None → split b xs ≡ xs ∷ []
    go true is e = absurd (grind arith)
    go false is e =
        let past = ltb-false (position_or_len (λ x. eqb x b) xs) (length xs) is in
        cut_none b xs (λ k h. fails_before_first (λ x. eqb x b) xs k 0 (omega arith))

in_front_some : (x : ℕ) (ps : List (List ℕ)) → 0 < length (in_front x ps)
in_front_some x [] = omega arith
in_front_some x (p ∷ ps) = omega arith

-- A text has one part at least.
pub split_some : (b : ℕ) (xs : List ℕ) → 0 < length (split b xs)
split_some b [] = omega arith
split_some b (x ∷ xs) =
    elim (eqb x b) as (λ t. 0 < length (cond t ([] ∷ split b xs) (in_front x (split b xs)))) [ true ↦ omega arith | false ↦ in_front_some x (split b xs) ]

-- So there are parts where something is left.
any_of_some : (ps : List (List ℕ)) → 0 < length ps → true ≡ any_left ps
any_of_some [] some = absurd (omega arith)
any_of_some (p ∷ ps) some = refl

pub left_any : (b : ℕ) (rest : Option (Bor (List ℕ))) → is_some rest ≡ any_left (parts_left b rest)
left_any b None = refl
left_any b (Some rest) = any_of_some (split b rest.now) (split_some b rest.now)

length-in_front : (x : ℕ) (ps : List (List ℕ)) → 0 < length ps → length (in_front x ps) ≡ length ps
length-in_front x [] some = absurd (omega arith)
length-in_front x (p ∷ ps) some = refl

-- It has no more parts than bytes and one.
pub split_few : (b : ℕ) (xs : List ℕ) → length (split b xs) ≤ length xs + 1
split_few b [] = omega arith
split_few b (x ∷ xs) =
    let few = split_few b xs in
    let same = length-in_front x (split b xs) (split_some b xs) in
    elim (eqb x b) as (λ t. length (cond t ([] ∷ split b xs) (in_front x (split b xs))) ≤ length (x ∷ xs) + 1) [ true ↦ omega arith | false ↦ omega (arith, same) ]
