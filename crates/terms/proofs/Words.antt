-- What is found by a word.
use Rattle.std.proofs.Common.{◌≡◌, ℕ, Bool, true, false, List, [], ◌∷◌, Some, None, Option, MatchOption, inl, inr, sym, refl, ap, ◌∙◌, subst}
use mathlib.Core.List.Memᴰ
use mathlib.Core.List.{Memᴰ}
use Rattle.std.specs.Str.{bytes_eq}
use Rattle.std.proofs.lemmas.Bool.{both_ways}
use Rattle.std.proofs.lemmas.Slice.Eq.{bytes_eq-Decides}
use Rattle.terms.specs.Words.{first_with}

module _ {A : Type 0} (word : A → List ℕ) (text : List ℕ) where
  -- What is found has the word; where none is found, none of the list has it.
  abbrev Found : List A → Option A → Type 0
  Found xs r = MatchOption r ((x : A) → Memᴰ x xs → word x ≡ text → ⊥) (λ x. word x ≡ text)

  more : (y : A) (xs : List A) → bytes_eq (word y) text ≡ false → (r : Option A) → Found xs r → Found (y ∷ xs) r
  more y xs e None p = λ x m q. elim (Memᴰ.cases_cons m) [
    | inl i ↦ both_ways _ e ((bytes_eq-Decides (word y) text).1 (ap word (sym i) ∙ q))
    | inr n ↦ p x n q
  ]
  more y xs e (Some x) p = p

  step : (y : A) (xs : List A) (t : Bool) → bytes_eq (word y) text ≡ t → Found xs (first_with word xs text) → Found (y ∷ xs) (first_with word (y ∷ xs) text)
  step y xs true e p = rw e ((bytes_eq-Decides (word y) text).0 e)
  step y xs false e p = rw e (more y xs e (first_with word xs text) p)

  pub finds : (xs : List A) → Found xs (first_with word xs text)
  finds [] = λ x m e. Memᴰ.not-nil m
  finds (y ∷ xs) = step y xs (bytes_eq (word y) text) refl (finds xs)

  -- Where all are listed, nothing has a word that is not found.
  pub found_of_all : (xs : List A) → ((x : A) → Memᴰ x xs) → MatchOption (first_with word xs text) ((x : A) → word x ≡ text → ⊥) (λ x. word x ≡ text)
  found_of_all xs all = widen (first_with word xs text) (finds xs)
    where
      widen : (r : Option A) → Found xs r → MatchOption r ((x : A) → word x ≡ text → ⊥) (λ x. word x ≡ text)
      widen None p = λ x e. p x (all x) e
      widen (Some x) p = p

  -- What is found has the word.
  pub found_word : (xs : List A) (y : A) → first_with word xs text ≡ Some y → word y ≡ text
  found_word xs y h = subst (λ (r : Option A). Found xs r) h (finds xs)
