-- The texts of strings, and the names among them.
use Rattle.std.proofs.Common.{◌≡◌, ℕ, ◌+◌, ◌<◌, cond, ltb, not, List, [], ◌∷◌, length, string_bytes, Option, String, sym, refl, inl, inr, arith, MatchOption}
use Rattle.std.specs.List.{position, position_or_len}
use Rattle.std.specs.Str.{bytes_eq}
use Rattle.std.proofs.lemmas.Bool.{ltb-true, ltb-false, cases_Bool}
use Rattle.std.proofs.lemmas.List.{length-map}
use Rattle.std.specs.declared.alloc.Global.{Global}
use Rattle.rules.specs.Texts.{texts}
use Rattle.rules.specs.Written.{index_of}
use Rattle.rules.proofs.Numbering.{index_le}

index_of-texts : (names : List (String Global)) (t : List ℕ) → position_or_len (λ n. bytes_eq (string_bytes n) t) names ≡ index_of (texts names) t
index_of-texts [] t = refl
index_of-texts (n ∷ names) t = λ i. cond (not (bytes_eq (string_bytes n) t)) (1 + index_of-texts names t i) 0

-- What is found of a text among the names.
pub found_name : (names : List (String Global)) (t : List ℕ) (r : Option ℕ) → r ≡ position (λ n. bytes_eq (string_bytes n) t) names
    → MatchOption r (index_of (texts names) t ≡ length (texts names)) (λ i. (i < length (texts names)) × (index_of (texts names) t ≡ i))
found_name names t r e =
    let p = index_of-texts names t in
    let n = length-map names string_bytes in
    let m = index_le (texts names) t in
    elim (cases_Bool (ltb (position_or_len (λ n. bytes_eq (string_bytes n) t) names) (length names))) [
      | inl h ↦ let l = ltb-true _ _ h in rw (e, h) (omega arith, sym p)
      | inr h ↦ let l = ltb-false _ _ h in rw (e, h) (omega arith)
    ]
