-- Digits and the numbers that they write.
use Rattle.std.specs.Prelude.{◌≡◌, ℕ, zero, suc, ◌+◌, ◌-◌, ◌*◌, ◌^◌, ◌<◌, ◌≤◌, true, false, List, [], ◌∷◌, ◌++◌, length, take, replicate, decimal, slice_index, refl}
use Rattle.std.proofs.Common.{sym, ap, subst, ◌∙◌, inl, inr, arith}
use Rattle.std.specs.Str.Parse.{digits_value}
use Rattle.std.specs.Char.{is_ascii_digit, digit_value}
use Rattle.std.specs.Str.{all_ascii_digits}
use Rattle.std.proofs.lemmas.Int.Digits.{digits_value_more, digits_more}
use Rattle.std.proofs.lemmas.Str.Parse.{IsNumeralModel, numerals_by_value, tells_all_ascii_digits, digit_at, digits_value_short}
use Rattle.std.proofs.lemmas.List.{length-take, length-append, length-replicate}
use Rattle.std.proofs.lemmas.Str.{digit_value_digit}
use Rattle.std.proofs.lemmas.Bool.{cases_Bool, cases_eq, and_parts}
use Rattle.std.proofs.lemmas.Fmt.{decimal-digits_value, digits_decimal, digits_value-decimal, length-decimal-le}
use Rattle.moments.specs.Digits.{padded}

pub own : IsNumeralModel (λ ds. all_ascii_digits ds ≡ true) (digits_value 10)
own = numerals_by_value (λ ds. all_ascii_digits ds ≡ true) tells_all_ascii_digits

-- a byte that is no digit
pub not_digits : (ds : List ℕ) (i : ℕ) → i < length ds → (digit_value (slice_index ds i) < 10 → ⊥) → all_ascii_digits ds ≡ false
not_digits ds i l n = elim (cases_Bool (all_ascii_digits ds)) [
  | inl t ↦ let e = digit_value_digit (slice_index ds i) (digit_at ds i (own.to ds t) l) in let d = digit_at ds i (own.to ds t) l in absurd (n (omega arith))
  | inr f ↦ f
]

-- one digit more, of nine at most
pub number_fits : (ds : List ℕ) (i n : ℕ) → length ds ≤ 9 → i < length ds → all_ascii_digits (take i ds) ≡ true → n ≡ digits_value 10 (take i ds) → n < 100000000
number_fits ds i n m l t e =
    let short : length (take i ds) ≤ 8 = simp length-take (omega arith) in
    let h : digits_value 10 (take i ds) < 10 ^ 8 = digits_value_short own (take i ds) 8 t short in
    omega arith

pub number_more : (ds : List ℕ) (i n v : ℕ) → i < length ds → all_ascii_digits (take i ds) ≡ true → n ≡ digits_value 10 (take i ds) → digit_value (slice_index ds i) < 10 → v ≡ digit_value (slice_index ds i) → (all_ascii_digits (take (i + 1) ds) ≡ true) × (n * 10 + v ≡ digits_value 10 (take (i + 1) ds))
number_more ds i n v l t e d w = (own.from (take (i + 1) ds) (digits_more 10 ds i l (own.to (take i ds) t) d), rw (digits_value_more 10 ds i l, w, e) refl)

zeros_value : (k : ℕ) (ds : List ℕ) → digits_value 10 (replicate k 48 ++ ds) ≡ digits_value 10 ds
zeros_value zero ds = refl
zeros_value (suc k) ds = zeros_value k ds

zeros_digits : (k : ℕ) (ds : List ℕ) → all_ascii_digits (replicate k 48 ++ ds) ≡ all_ascii_digits ds
zeros_digits zero ds = refl
zeros_digits (suc k) ds = zeros_digits k ds

pub value_padded : (width n : ℕ) → n < 2 ^ 64 → digits_value 10 (padded width n) ≡ n
value_padded width n h = zeros_value (width - length (decimal n)) (decimal n) ∙ digits_value-decimal own n h

pub digits_padded : (width n : ℕ) → n < 2 ^ 64 → all_ascii_digits (padded width n) ≡ true
digits_padded width n h = zeros_digits (width - length (decimal n)) (decimal n) ∙ digits_decimal own n h

pub length-padded : (width n : ℕ) → 0 < width → n < 10 ^ width → n < 2 ^ 64 → length (padded width n) ≡ width
length-padded width n some small h =
    let l = length-decimal-le width n some small h in
    length-append (replicate (width - length (decimal n)) 48) (decimal n) ∙ (let e = length-replicate {A = ℕ} (width - length (decimal n)) 48 in omega arith)

-- numbers with one text are the same
pub padded_apart : (width m n : ℕ) → m < 2 ^ 64 → n < 2 ^ 64 → padded width m ≡ padded width n → m ≡ n
padded_apart width m n h k e = sym (value_padded width m h) ∙ ap (digits_value 10) e ∙ value_padded width n k

-- digits that do not begin with a zero, or one digit
plain : (ds : List ℕ) → all_ascii_digits ds ≡ true → 0 < length ds → length ds ≤ 9 → (slice_index ds 0 ≡ 48 → length ds ≡ 1) → padded (length ds) (digits_value 10 ds) ≡ ds
plain ds t some few front =
    let v : digits_value 10 ds < 10 ^ 9 = digits_value_short own ds 9 t few in
    let e : decimal (digits_value 10 ds) ≡ ds = decimal-digits_value own ds t some front (omega arith) in
    let z : length ds - length (decimal (digits_value 10 ds)) ≡ 0 = (let q = ap length e in omega arith) in
    ap (λ (k : ℕ). replicate k 48 ++ decimal (digits_value 10 ds)) z ∙ e

-- one zero more in front
zero_first : (ds : List ℕ) → all_ascii_digits ds ≡ true → 0 < length ds → length ds ≤ 8 → padded (length ds) (digits_value 10 ds) ≡ ds → padded (length (48 ∷ ds)) (digits_value 10 ds) ≡ 48 ∷ ds
zero_first ds t some few e =
    let v : digits_value 10 ds < 10 ^ length ds = digits_value_short own ds (length ds) t (omega arith) in
    let u : digits_value 10 ds < 10 ^ 8 = digits_value_short own ds 8 t few in
    let l = length-decimal-le (length ds) (digits_value 10 ds) some v (omega arith) in
    let k : length (48 ∷ ds) - length (decimal (digits_value 10 ds)) ≡ suc (length ds - length (decimal (digits_value 10 ds))) = omega arith in
    ap (λ (j : ℕ). replicate j 48 ++ decimal (digits_value 10 ds)) k ∙ ap (λ (xs : List ℕ). 48 ∷ xs) e

-- digits are the text of their number, in their width
pub padded_value : (ds : List ℕ) → all_ascii_digits ds ≡ true → 0 < length ds → length ds ≤ 9 → padded (length ds) (digits_value 10 ds) ≡ ds
padded_value [] t some few = absurd (omega arith)
padded_value (c ∷ []) t some few = plain (c ∷ []) t some few (λ _. refl)
padded_value (c ∷ (d ∷ ds)) t some few =
    let u = (and_parts (is_ascii_digit c) (all_ascii_digits (d ∷ ds)) t).1 in
    let ih = padded_value (d ∷ ds) u (omega arith) (omega arith) in
    elim (cases_eq c 48) [
      | inl e ↦ subst (λ (b : ℕ). padded (length (b ∷ (d ∷ ds))) (digits_value 10 (b ∷ (d ∷ ds))) ≡ b ∷ (d ∷ ds)) (sym e) (zero_first (d ∷ ds) u (omega arith) (omega arith) ih)
      | inr n ↦ plain (c ∷ (d ∷ ds)) t some few (λ e. absurd (n e))
    ]
