-- Texts that lack a byte, and labels.
use Rattle.std.proofs.Common.{◌≡◌, ℕ, ◌≤◌, Bool, true, false, not, ◌&&◌, eqb, leb, List, [], ◌∷◌, ◌++◌, length, refl, subst, inl, inr}
use Rattle.std.proofs.lemmas.Bool.{false≢true, both_ways, and_parts, and_from, leb-true, eqb-true, cases_Bool, not_from_false}
use Rattle.rules.specs.Labels.{letter, label_byte, all_label_bytes, is_label}

-- The byte b is not in the text.
abbrev pub lacks : ℕ → List ℕ → Bool
lacks b [] = true
lacks b (x ∷ xs) = not (eqb x b) && lacks b xs

-- The byte b is in none of the texts.
abbrev pub all_lack : ℕ → List (List ℕ) → Bool
all_lack b [] = true
all_lack b (p ∷ ps) = lacks b p && all_lack b ps

pub lacks-append : (b : ℕ) (xs ys : List ℕ) → lacks b xs ≡ true → lacks b ys ≡ true → lacks b (xs ++ ys) ≡ true
lacks-append b [] ys h k = k
lacks-append b (x ∷ xs) ys h k =
    let p = and_parts (not (eqb x b)) (lacks b xs) h in
    and_from (not (eqb x b)) (lacks b (xs ++ ys)) p.0 (lacks-append b xs ys p.1 k)

-- ---- labels

-- What is made of the bytes of labels lacks every other byte.
bytes_lack : (b : ℕ) (xs : List ℕ) → label_byte b ≡ false → all_label_bytes xs ≡ true → lacks b xs ≡ true
bytes_lack b [] f h = refl
bytes_lack b (x ∷ xs) f h =
    let p = and_parts (label_byte x) (all_label_bytes xs) h in
    let here : not (eqb x b) ≡ true = elim (cases_Bool (eqb x b)) [
      | inl e ↦ absurd (both_ways (label_byte b) f (subst (λ (y : ℕ). label_byte y ≡ true) (eqb-true x b e) p.0))
      | inr e ↦ not_from_false (eqb x b) e
    ] in
    and_from (not (eqb x b)) (lacks b xs) here (bytes_lack b xs f p.1)

-- A label has at most 16 bytes, and only bytes of labels.
label_parts : (xs : List ℕ) → is_label xs ≡ true → (length xs ≤ 16) × (all_label_bytes xs ≡ true)
label_parts [] h = absurd (false≢true h)
label_parts (x ∷ xs) h =
    let p = and_parts (letter x) _ h in
    let q = and_parts (leb (length (x ∷ xs)) 16) (all_label_bytes (x ∷ xs)) p.1 in
    (leb-true (length (x ∷ xs)) 16 q.0, q.1)

pub label_short : (xs : List ℕ) → is_label xs ≡ true → length xs ≤ 16
label_short xs h = (label_parts xs h).0

pub label_lacks : (b : ℕ) (xs : List ℕ) → label_byte b ≡ false → is_label xs ≡ true → lacks b xs ≡ true
label_lacks b xs f h = bytes_lack b xs f (label_parts xs h).1
