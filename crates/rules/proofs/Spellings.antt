-- What is spelt as a label.
use Rattle.std.proofs.Common.{◌≡◌, ℕ, ◌<◌, true, ◌&&◌, ◌||◌, eqb, leb, List, [], ◌∷◌, length, IsUtf8, IsAscii, refl, inl, inr, arith}
use Rattle.std.proofs.lemmas.Str.Ascii.{IsAscii-nil, IsAscii-cons}
use Rattle.std.proofs.lemmas.Str.{IsUtf8-from_ascii}
use Rattle.std.proofs.lemmas.Bool.{and_parts, or_cases, leb-true, eqb-true}
use Rattle.rules.specs.Labels.{letter, label_byte, all_label_bytes, is_label}

label_byte_low : (b : ℕ) → label_byte b ≡ true → b < 128
label_byte_low b h = elim (or_cases (letter b) ((leb 48 b && leb b 57) || eqb b 45) h) [
  | inl e ↦ let p = and_parts (leb 97 b) (leb b 122) e in let l = leb-true b 122 p.1 in omega arith
  | inr e ↦ elim (or_cases (leb 48 b && leb b 57) (eqb b 45) e) [
    | inl f ↦ let p = and_parts (leb 48 b) (leb b 57) f in let l = leb-true b 57 p.1 in omega arith
    | inr f ↦ let l = eqb-true b 45 f in omega arith
  ]
]

label_ascii : (bs : List ℕ) → all_label_bytes bs ≡ true → IsAscii bs
label_ascii [] h = IsAscii-nil
label_ascii (b ∷ bs) h = let p = and_parts (label_byte b) (all_label_bytes bs) h in IsAscii-cons b bs (label_byte_low b p.0) (label_ascii bs p.1)

pub label_bytes : (bs : List ℕ) → is_label bs ≡ true → all_label_bytes bs ≡ true
label_bytes [] h = refl
label_bytes (b ∷ bs) h = (and_parts (leb (length (b ∷ bs)) 16) (all_label_bytes (b ∷ bs)) (and_parts (letter b) _ h).1).1

pub label_utf8 : (bs : List ℕ) → is_label bs ≡ true → IsUtf8 bs
label_utf8 bs h = IsUtf8-from_ascii bs (label_ascii bs (label_bytes bs h))
