-- The texts of days.
use Rattle.std.specs.Prelude.{◌≡◌, ℕ, ◌^◌, ◌<◌, ◌≤◌, true, false, ◌⊎◌, List, length, Some, None, decimal, slice_index}
use Rattle.std.proofs.Common.{sym, ap, subst, ◌∙◌, inl, inr, arith}
use Rattle.std.specs.Str.Parse.{digits_value}
use Rattle.std.specs.Str.{all_ascii_digits}
use Rattle.std.proofs.lemmas.Fmt.{decimal_digit, decimal_nonempty, decimal-digits_value, digits_decimal, first_decimal, length-decimal-le, decimal_injective}
use Rattle.std.proofs.lemmas.Str.Parse.{digits_value_short}
use Rattle.std.proofs.lemmas.Bool.{both_ways, leb-true, le-leb, cases_lt}
use Rattle.moments.specs.Days.{day_ranged, day_written}
use Rattle.moments.specs.Moments.{ReadAs}
use Rattle.moments.specs.declared.day.Day.{Day}
use Rattle.moments.specs.Laws.Numerals.{own}
use Rattle.moments.specs.Laws.Readings.{read_none, read_some}

pub day_apart : (x y : Day) → day_ranged x ≡ true → day_ranged y ≡ true → day_written x ≡ day_written y → x ≡ y
day_apart x y r s e =
    let a = leb-true x.0 999999 r in
    let b = leb-true y.0 999999 s in
    let q = decimal_injective x.0 y.0 (omega arith) (omega arith) e in
    λ i. record { 0 = q i }

-- a text has one to six bytes
pub day-length : (field : List ℕ) → (length field ≡ 0) ⊎ (6 < length field) → ReadAs day_ranged day_written field None
day-length field h = read_none day_ranged day_written field (λ m r w.
    let a = leb-true m.0 999999 r in
    let e = ap length w in
    let s = decimal_nonempty m.0 (omega arith) in
    let l = length-decimal-le 6 m.0 (omega arith) (omega arith) (omega arith) in
    elim h [ inl z ↦ omega arith | inr g ↦ omega arith ])

-- no text of more than one byte begins with a zero
pub day_leading : (field : List ℕ) → slice_index field 0 ≡ 48 → 1 < length field → ReadAs day_ranged day_written field None
day_leading field z l = read_none day_ranged day_written field (λ m r w.
    let a = leb-true m.0 999999 r in
    elim (cases_lt 0 m.0) [
      | inl g ↦ let f = first_decimal m.0 g (omega arith) in let e = ap (λ (xs : List ℕ). slice_index xs 0) w in omega arith
      | inr n ↦ let e = ap length (sym (decimal_digit m.0 (omega arith)) ∙ w) in omega arith
    ])

pub day_no_digits : (field : List ℕ) → all_ascii_digits field ≡ false → ReadAs day_ranged day_written field None
day_no_digits field f = read_none day_ranged day_written field (λ m r w.
    let a = leb-true m.0 999999 r in
    both_ways (all_ascii_digits field) f (subst (λ (xs : List ℕ). all_ascii_digits xs ≡ true) w (digits_decimal own m.0 (omega arith))))

pub day_digits : (field : List ℕ) (n : ℕ) → 0 < length field → length field ≤ 6 → (slice_index field 0 ≡ 48 → length field ≡ 1) → all_ascii_digits field ≡ true → n ≡ digits_value 10 field → ReadAs day_ranged day_written field (Some (record { 0 = n }))
day_digits field n some few front t e =
    let v : digits_value 10 field < 10 ^ 6 = digits_value_short own field 6 t few in
    read_some day_ranged day_written field day_apart (record { 0 = n }) (le-leb n 999999 (omega arith)) (ap decimal e ∙ decimal-digits_value own field t some front (omega arith))
