-- Texts cut at a byte and put together again.
use Rattle.std.proofs.Common.{◌≡◌, ℕ, ◌<◌, true, false, not, eqb, List, [], ◌∷◌, ◌++◌, length, sym, refl, ap, ◌∙◌, inl, inr, arith, length-append}
use Rattle.std.proofs.lemmas.Bool.{and_parts, and_from, eqb-true, eq-eqb, cases_Bool, cond-true, cond-false, not-true, not_from_false}
use Rattle.files.specs.Parts.{in_front, split, joined, ended}
use Rattle.files.proofs.Cutting.{split_some}
use Rattle.files.proofs.Texts.{lacks, all_lack, lacks-append}

-- ---- a text and its parts

joined_in_front : (b x : ℕ) (ps : List (List ℕ)) → joined b (in_front x ps) ≡ x ∷ joined b ps
joined_in_front b x [] = refl
joined_in_front b x (p ∷ []) = refl
joined_in_front b x (p ∷ q ∷ ps) = refl

-- A part before others, and the byte between.
joined_first : (b : ℕ) (p : List ℕ) (ps : List (List ℕ)) → 0 < length ps → joined b (p ∷ ps) ≡ p ++ (b ∷ joined b ps)
joined_first b p [] h = absurd (omega arith)
joined_first b p (q ∷ ps) h = refl

-- The parts joined are the text.
pub joined_split : (b : ℕ) (xs : List ℕ) → joined b (split b xs) ≡ xs
joined_split b [] = refl
joined_split b (x ∷ xs) =
    let rest = joined_split b xs in
    elim (cases_Bool (eqb x b)) [
      | inl e ↦ rw (cond-true (eqb x b) ([] ∷ split b xs) (in_front x (split b xs)) e, joined_first b [] (split b xs) (split_some b xs), rest)
          (ap (λ (y : ℕ). y ∷ xs) (sym (eqb-true x b e)))
      | inr e ↦ rw (cond-false (eqb x b) ([] ∷ split b xs) (in_front x (split b xs)) e, joined_in_front b x (split b xs), rest) refl
    ]

-- Parts with an empty one after them, joined, are the parts ended.
pub joined_ended : (b : ℕ) (ps : List (List ℕ)) → joined b (ps ++ ([] ∷ [])) ≡ ended b ps
joined_ended b [] = refl
joined_ended b (p ∷ ps) =
    joined_first b p (ps ++ ([] ∷ [])) (simp length-append (omega arith)) ∙ ap (λ (t : List ℕ). p ++ (b ∷ t)) (joined_ended b ps)

-- ---- parts and their text

-- A byte that is not b belongs to the first part.
split_in_front : (b x : ℕ) (xs : List ℕ) → not (eqb x b) ≡ true → split b (x ∷ xs) ≡ in_front x (split b xs)
split_in_front b x xs h = cond-false (eqb x b) ([] ∷ split b xs) (in_front x (split b xs)) (not-true (eqb x b) h)

-- A text without the byte is its own only part.
split_lacks : (b : ℕ) (p : List ℕ) → lacks b p ≡ true → split b p ≡ p ∷ []
split_lacks b [] h = refl
split_lacks b (x ∷ xs) h =
    let k = and_parts (not (eqb x b)) (lacks b xs) h in
    split_in_front b x xs k.0 ∙ ap (in_front x) (split_lacks b xs k.1)

-- The first part ends at the first byte b.
split_at : (b : ℕ) (p rest : List ℕ) → lacks b p ≡ true → split b (p ++ (b ∷ rest)) ≡ p ∷ split b rest
split_at b [] rest h = cond-true (eqb b b) ([] ∷ split b rest) (in_front b (split b rest)) (eq-eqb b b refl)
split_at b (x ∷ xs) rest h =
    let k = and_parts (not (eqb x b)) (lacks b xs) h in
    split_in_front b x (xs ++ (b ∷ rest)) k.0 ∙ ap (in_front x) (split_at b xs rest k.1)

-- Parts without the byte are the parts of what they are joined to.
pub split_joined : (b : ℕ) (ps : List (List ℕ)) → 0 < length ps → all_lack b ps ≡ true → split b (joined b ps) ≡ ps
split_joined b [] l h = absurd (omega arith)
split_joined b (p ∷ []) l h = split_lacks b p (and_parts (lacks b p) true h).0
split_joined b (p ∷ q ∷ ps) l h =
    let k = and_parts (lacks b p) (all_lack b (q ∷ ps)) h in
    split_at b p (joined b (q ∷ ps)) k.0 ∙ ap (λ (t : List (List ℕ)). p ∷ t) (split_joined b (q ∷ ps) (omega arith) k.1)

-- Parts that are ended have an empty part after them.
pub split_ended : (b : ℕ) (ps : List (List ℕ)) → all_lack b ps ≡ true → split b (ended b ps) ≡ ps ++ ([] ∷ [])
split_ended b [] h = refl
split_ended b (p ∷ ps) h =
    let k = and_parts (lacks b p) (all_lack b ps) h in
    split_at b p (ended b ps) k.0 ∙ ap (λ (t : List (List ℕ)). p ∷ t) (split_ended b ps k.1)

-- What is joined lacks a byte that the parts lack and that is not between them.
pub lacks_joined : (b s : ℕ) (ps : List (List ℕ)) → eqb s b ≡ false → all_lack b ps ≡ true → lacks b (joined s ps) ≡ true
lacks_joined b s [] n h = refl
lacks_joined b s (p ∷ []) n h = (and_parts (lacks b p) true h).0
lacks_joined b s (p ∷ q ∷ ps) n h =
    let k = and_parts (lacks b p) (all_lack b (q ∷ ps)) h in
    lacks-append b p (s ∷ joined s (q ∷ ps)) k.0
    (and_from (not (eqb s b)) (lacks b (joined s (q ∷ ps))) (not_from_false (eqb s b) n) (lacks_joined b s (q ∷ ps) n k.1))
